use Prim.Native.Nat.{◌-◌}
use lib.ListN.{length}
use Rattle.query.specs.Turns.{Going}
use Rattle.query.proofs.load.Given as goal

abbrev pub invariant-loop-st : goal.invariant-loop-st
invariant-loop-st l = Going l.q l.st l.glyphs

abbrev pub decreases-loop-st : goal.decreases-loop-st
decreases-loop-st l = length l.q - l.st.at
