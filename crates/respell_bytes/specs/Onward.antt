-- The place behind several bytes that are not written.
use Rattle.std.specs.Prelude.{ℕ, ◌+◌, min, ltb, if◌then◌else◌}

-- n places on; it is counted no further than one past the longest spelling
abbrev pub onward : ℕ → ℕ → ℕ
onward n at = if ltb at 16_777_217 then min (at + n) 16_777_217 else at
