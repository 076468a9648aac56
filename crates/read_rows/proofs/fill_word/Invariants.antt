use Rattle.read_rows.proofs.Filling.{Filled}
use Rattle.read_rows.proofs.fill_word.Given as goal

abbrev pub invariant-loop-i : goal.invariant-loop-i
invariant-loop-i l = Filled l.s l.ws l.k l.fn.w l.initial.row l.i l.d l.row
