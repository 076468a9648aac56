use Prim.Native.Nat.{◌-◌}
use lib.ListN.{length}
use Rattle.scan_arguments.proofs.Many.{Going}
use Rattle.scan_arguments.proofs.pairs_at.Given as goal

abbrev pub invariant-loop-sums : goal.invariant-loop-sums
invariant-loop-sums l = Going l.at l.s l.i l.next l.sums

abbrev pub decreases-loop-sums : goal.decreases-loop-sums
decreases-loop-sums l = length l.s - l.next
