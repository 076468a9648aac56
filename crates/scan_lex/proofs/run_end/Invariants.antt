use Prim.Native.Nat.{ℕ, ◌-◌, ◌<◌}
use mathlib.Core.Bool.{Bool}
use mathlib.Core.Path.{◌≡◌}
use lib.ListN.{length}
use Rattle.scan_lex.specs.At.{run_end}
use Rattle.scan_lex.proofs.run_end.Given as goal

abbrev pub invariant-loop-i : goal.invariant-loop-i
invariant-loop-i g l = goal.P-IsAlwaysCallable g l.passes × ((p : ℕ → Bool) → ((b : ℕ) (t : Bool) → b < 256 → goal.P-post g l.passes b t → t ≡ p b) → run_end p l.s l.at ≡ run_end p l.s l.i)

abbrev pub decreases-loop-i : goal.decreases-loop-i
decreases-loop-i g l = length l.s - l.i
