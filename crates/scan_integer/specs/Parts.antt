-- What the parts of the integer's scanner answer: the digits at a place, the integer behind a sign.
use Rattle.std.specs.Prelude.{ℕ, min, Bool, List, drop, Option}
use Rattle.rules.specs.Bytes.{is_digit, value, signed}
use Rattle.scan_lex.specs.At.{run_end}
use Rattle.scan_integer.specs.At.{number_of}
use Rattle.scan_integer.specs.declared.Number.{Number}

-- the number that the digits from a place on say, n being said before them
unfoldable pub value_from : ℕ → List ℕ → ℕ → ℕ
value_from n s at = value n (drop at s)

-- the digits at a place: their number, cut at 100,000,000, and the place behind them
abbrev pub digits_at : List ℕ → ℕ → Number
digits_at s at = record { value = min (value_from 0 s at) 100_000_000; next = run_end is_digit s at }

-- the digits at a place as a number, negative or not
unfoldable pub signed_at : Bool → List ℕ → ℕ → Option Number
signed_at m s at = number_of at (signed m 0 (drop at s))
