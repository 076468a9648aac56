use Rattle.find_count.proofs.Counting.{next_more}
use Rattle.find_count.proofs.next_record.Goals as goal

pub loop-on-preserved : goal.loop-on-preserved
loop-on-preserved c = next_more _ _ _ c.loop-on.invariant _ c.loop-on-test.true c.step-m.ensures c.in_default.is
