use Rattle.std.proofs.Common.{◌≡◌}
use Rattle.respell_word.proofs.Words.{Lettering}
use Rattle.respell_word.proofs.put_word.Given as goal

abbrev pub invariant-loop-d : goal.invariant-loop-d
invariant-loop-d l = record {
  letters : Lettering l.s l.ws l.initial.sheet.bytes.now l.initial.sheet.at l.initial.pen l.initial.d l.sheet.bytes.now l.sheet.at l.pen l.d;
  same : l.sheet.bytes.ghost_name ≡ l.initial.sheet.bytes.ghost_name;
}

abbrev pub decreases-loop-d : goal.decreases-loop-d
decreases-loop-d l = l.d.left
