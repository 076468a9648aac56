use Rattle.find_ask.proofs.Asking.{Gathering}
use Rattle.find_ask.proofs.ask_query.Given as goal

abbrev pub invariant-loop-j : goal.invariant-loop-j
invariant-loop-j l = Gathering l.q l.fl l.table l.families l.wanted l.glyphs l.j
