use Prim.Native.Nat.{◌-◌}
use lib.ListN.{length}
use Rattle.families.specs.Loading.{Going}
use Rattle.families.proofs.load.Given as goal

abbrev pub invariant-loop-st : goal.invariant-loop-st
invariant-loop-st l = Going l.fl l.st l.table l.seen

abbrev pub decreases-loop-st : goal.decreases-loop-st
decreases-loop-st l = length l.fl - l.st.at
