use Rattle.std.proofs.Common.{arith}
use Rattle.find_count.proofs.Counting.{one_most, counting_most, counting_next, counting_done}
use Rattle.find_count.proofs.count.Goals as goal

pub overflow_add-n : goal.overflow_add-n
overflow_add-n c = omega (arith, counting_most _ _ _ _ c.loop-r.invariant, one_most c.occurs_at.result, c.from-n.ensures)

pub loop-r-preserved : goal.loop-r-preserved
loop-r-preserved c = counting_next _ _ _ _ c.loop-r.invariant _ _ _ c.from-n.ensures c.in-Some.ensures.seen c.in-Some.ensures.goes_on c.occurs_at.ensures

pub returns : goal.returns
returns c = counting_done _ _ _ _ c.loop-r.invariant _ c.next_record.ensures.seen c.in_default.is
