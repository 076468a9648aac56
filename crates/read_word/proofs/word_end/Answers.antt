use Rattle.std.proofs.Common.{◌∙◌}
use Rattle.read_word.proofs.Spelling.{ending_done, ending_off, ending_next}
use Rattle.read_word.proofs.word_end.Goals as goal

pub returns-in_err-h : goal.returns-in_err-h
returns-in_err-h c = c.from_residual.ensures ∙ ending_off _ _ _ _ c.loop-d.invariant c.loop-d-test.true (c.in_err-h.ensures)

pub loop-d-preserved : goal.loop-d-preserved
loop-d-preserved c = rw c.next_word-d.ensures (ending_next _ _ _ _ c.loop-d.invariant c.loop-d-test.true _ (c.in_ok-h.ensures))

pub returns : goal.returns
returns c = ending_done _ _ _ _ c.loop-d.invariant c.loop-d-test.false
