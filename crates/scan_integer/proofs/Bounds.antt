-- An integer lies within the bytes, and its number is small, for callers.
use Rattle.std.specs.Prelude.{Option, Some, None}
use Prim.Native.Nat.{ℕ, ◌-◌, ◌≤◌, ◌<◌}
use native.Mathlib.Omega.{arith}
use mathlib.Core.List.{List}
use lib.ListN.{length, drop, length-drop}
use Rattle.rules.specs.Bytes.{Int, no_int, int, integer}
use Rattle.laws_scan.proofs.Bounds.{IntIn, integer_in}
use Rattle.scan_integer.specs.At.{number_of, integer_at}
use Rattle.scan_integer.specs.declared.Number.{Number}

-- from lo on, up to hi: it takes a byte at least, and is at most 200,000,000 as it is handed on
abbrev pub NumberIn : ℕ → ℕ → Option Number → Type 0
NumberIn lo hi None = Unit {0}
NumberIn lo hi (Some n) = (lo < n.next) × (n.next ≤ hi) × (n.value ≤ 200000000)

number_of_lem : (at hi : ℕ) (x : Int) → IntIn (hi - at) x → NumberIn at hi (number_of at x)
number_of_lem at hi no_int h = tt
number_of_lem at hi (int n l) h = omega arith

pub number_in : (s : List ℕ) (at : ℕ) → NumberIn at (length s) (integer_at s at)
unfolding integer_at
number_in s at = number_of_lem at (length s) (integer (drop at s)) (rw (length-drop at s) at (integer_in (drop at s)))
