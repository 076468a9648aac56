use Rattle.std.proofs.Common.{ℕ}
use Rattle.find_search.proofs.Looking.{Known}
use Rattle.find_search.proofs.search.Given as goal

abbrev pub invariant-loop-st : goal.invariant-loop-st
invariant-loop-st l = (k : ℕ) × Known l.s l.question l.row (record { state = l.fn.from; hits = l.initial.hits }) k (record { state = l.st; hits = l.hits })

abbrev pub decreases-loop-st : goal.decreases-loop-st
decreases-loop-st l = l.st.left
