-- The line at a place, of any kind.
use Rattle.std.specs.Prelude.{ℕ, List, ltb, length, drop}
use Rattle.rules.specs.Bytes.{one_line}
use Rattle.rules.specs.Widths.{Line, Widths, Due, LineRead, line_read}
use Rattle.name.specs.Part.{part_of}

-- the line at a place
abbrev pub length_at : List ℕ → ℕ → ℕ
length_at list at = one_line (drop at list)

abbrev pub line_at : List ℕ → ℕ → Line
line_at list at = record { place = at; text = part_of list at (length_at list at); ended = ltb (length_at list at) (length (drop at list)) }

abbrev pub turn_says : List ℕ → ℕ → Widths → Due → LineRead
turn_says list at w d = line_read w d (line_at list at)
