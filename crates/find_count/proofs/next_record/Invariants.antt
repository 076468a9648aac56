use Rattle.find_keys.specs.Keys.{moves_left}
use Rattle.find_count.proofs.Counting.{Nexting}
use Rattle.find_count.proofs.next_record.Given as goal

abbrev pub invariant-loop-on : goal.invariant-loop-on
invariant-loop-on l = Nexting l.s l.fn.o l.on

abbrev pub decreases-loop-on : goal.decreases-loop-on
decreases-loop-on l = moves_left l.s l.on
