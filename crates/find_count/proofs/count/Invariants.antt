use Rattle.find_keys.specs.Keys.{moves_left}
use Rattle.find_count.proofs.Counting.{Counting}
use Rattle.find_count.proofs.count.Given as goal

abbrev pub invariant-loop-r : goal.invariant-loop-r
invariant-loop-r l = Counting l.s l.question l.on l.n

abbrev pub decreases-loop-r : goal.decreases-loop-r
decreases-loop-r l = moves_left l.s l.on
