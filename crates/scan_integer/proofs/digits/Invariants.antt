use Prim.Native.Nat.{◌-◌}
use lib.ListN.{length}
use Rattle.scan_integer.proofs.Numbers.{Read}
use Rattle.scan_integer.proofs.digits.Given as goal

abbrev pub invariant-loop-i : goal.invariant-loop-i
invariant-loop-i l = Read l.s l.at l.i l.value

abbrev pub decreases-loop-i : goal.decreases-loop-i
decreases-loop-i l = length l.s - l.i
