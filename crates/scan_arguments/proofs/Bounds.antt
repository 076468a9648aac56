-- What is scanned lies within the bytes, and the numbers are small: types over the answers, for callers.
use Rattle.std.specs.Prelude.{Option, Some, None, Ok}
use Prim.Native.Nat.{ℕ, ◌≤◌, ◌<◌}
use native.Mathlib.Omega.{arith}
use mathlib.Core.List.{List}
use mathlib.Core.Path.{◌≡◌}
use lib.ListN.{length}
use Rattle.rules.specs.Bytes.{is_space}
use Rattle.scan_integer.specs.At.{integer_at}
use Rattle.scan_integer.specs.declared.Number.{Number}
use Rattle.scan_integer.proofs.Bounds.{NumberIn, number_in}
use Rattle.scan_lex.proofs.Runs.{run_from}
use Rattle.scan_arguments.specs.At.{one_at, due_of, due_at}
use Rattle.scan_arguments.specs.declared.Argument.{Argument}
use Rattle.scan_arguments.proofs.Chains.{behind, one_from, one_is}

-- from lo on, up to hi: the places rise, the number takes a byte at least, and is at most 200,000,000 as it is handed on
abbrev pub ArgumentIn : ℕ → ℕ → Argument → Type 0
ArgumentIn lo hi a = (lo ≤ a.place) × (a.place < a.next) × (a.next ≤ hi) × (a.number ≤ 200000000)

abbrev pub OneIn : ℕ → ℕ → Option Argument → Type 0
OneIn lo hi None = Unit {0}
OneIn lo hi (Some a) = ArgumentIn lo hi a

module _ (s : List ℕ) where
  pub one_in : (i : ℕ) → OneIn i (length s) (one_at s i)
  one_in i = rw (one_is s i) (go (integer_at s (behind s i)) (number_in s (behind s i)))
    where
      go : (q : Option Number) → NumberIn (behind s i) (length s) q → OneIn i (length s) (one_from (behind s i) q)
      go None h = tt
      go (Some n) h = omega (arith, run_from is_space s i)

  pub due_in : (at i : ℕ) (a : Argument) → due_at at s i ≡ Ok a → ArgumentIn i (length s) a
  due_in at i a h = go (one_at s i) (one_in i) h
    where
      go : (q : Option Argument) → OneIn i (length s) q → due_of at q ≡ Ok a → ArgumentIn i (length s) a
      go None f g = absurd (let z : ◌≡◌ {A = ℕ} 0 1 = cc in omega arith)
      go (Some b) f g = let e : b ≡ a = cc in rw e at f
