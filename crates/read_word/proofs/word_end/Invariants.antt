use Rattle.read_word.proofs.Spelling.{Ending}
use Rattle.read_word.proofs.word_end.Given as goal

abbrev pub invariant-loop-d : goal.invariant-loop-d
invariant-loop-d l = Ending l.s l.ws l.initial.d l.d

abbrev pub decreases-loop-d : goal.decreases-loop-d
decreases-loop-d l = l.d.left
