use Rattle.std.proofs.Common.{◌∙◌}
use Rattle.respell_word.proofs.Words.{letters-next}
use Rattle.respell_word.proofs.put_word.Goals as goal

pub loop-d-preserved : goal.loop-d-preserved
loop-d-preserved c = record {
  letters = letters-next _ _ _ _ _ _ _ _ _ _ c.loop-d.invariant.letters c.loop-d-test.true c.word_step-x.result c.word_step-x.ensures _ _ _ c.byte_at.ensures c.put_letter.ensures.0;
  same = c.put_letter.ensures.1 ∙ c.loop-d.invariant.same;
}
