use Rattle.find_count.proofs.Counting.{Going}
use Rattle.find_count.proofs.occurs_at.Given as goal

abbrev pub invariant-loop-j : goal.invariant-loop-j
invariant-loop-j l = Going l.s l.question l.fn.first l.found l.j
