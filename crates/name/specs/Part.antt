-- A part of the caller's bytes, by its place and its length.
use Rattle.std.specs.Prelude.{ℕ, List, take, drop}

-- so many bytes from a place on, cut where the list ends
abbrev pub part_of : List ℕ → ℕ → ℕ → List ℕ
part_of s place len = take len (drop place s)
