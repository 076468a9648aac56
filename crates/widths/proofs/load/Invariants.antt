use Prim.Native.Nat.{◌-◌}
use lib.ListN.{length}
use Rattle.widths.proofs.Loading.{Going}
use Rattle.widths.proofs.load.Given as goal

abbrev pub invariant-loop-st : goal.invariant-loop-st
invariant-loop-st l = Going l.list l.table l.st

abbrev pub decreases-loop-st : goal.decreases-loop-st
decreases-loop-st l = length l.list - l.st.at
