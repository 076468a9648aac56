-- The integer of document 01 ("Bytes, spaces, numbers") at a place of a list, as the scanner answers it: a number that is moved up is
-- cut at 200,000,000, which is beyond every limit.
use Rattle.std.specs.Prelude.{ℕ, ◌+◌, min, List, drop, Option, Some, None}
use Rattle.rules.specs.Bytes.{Int, no_int, int, integer, moved}
use Rattle.scan_integer.specs.declared.Number.{Number}

abbrev pub cut : ℕ → ℕ
cut n = min n 200_000_000

abbrev pub number_of : ℕ → Int → Option Number
number_of at no_int = None
number_of at (int n l) = Some (record { value = cut (moved n); next = at + l })

unfoldable pub integer_at : List ℕ → ℕ → Option Number
integer_at s at = number_of at (integer (drop at s))
