use Rattle.std.proofs.Common.{◌∙◌, sym, arith}
use Rattle.read_rows.proofs.Filling.{filled_more, fill_done, next-goes}
use Rattle.read_rows.proofs.fill_word.Goals as goal

pub word_step-x-requires : goal.word_step-x-requires
word_step-x-requires c = (c.loop-i.invariant.within.fits, c.loop-i.invariant.within.small, next-goes _ _ _ _ _ c.loop-i.invariant.within (omega (arith, c.loop-i.invariant.left)))

pub loop-i-preserved : goal.loop-i-preserved
loop-i-preserved c = filled_more _ _ _ _ _ _ _ _ c.loop-i.invariant (omega (arith, c.loop-i.invariant.left)) _ c.word_step-x.ensures _ c.put.ensures

pub returns : goal.returns
returns c = sym (fill_done _ _ _ _ _ _ (omega (arith, c.loop-i.invariant.left))) ∙ c.loop-i.invariant.runs
