use Rattle.std.proofs.Common.{◌∙◌, ◌+◌, ◌-◌, sym, arith}
use Rattle.read_word.proofs.Spelling.{wide_on, wide_off, wide_none}
use Rattle.read_word.proofs.all_wide.Goals as goal

pub returns-then-entry_at-eq0 : goal.returns-then-entry_at-eq0
returns-then-entry_at-eq0 c = sym (c.loop-i.invariant ∙ wide_off _ _ _ _ _ c.entry_at.ensures _ (c.args.at + c.args.n - (c.loop-i.i + 1)) (omega arith) c.if-entry_at-eq0.true)

pub loop-i-preserved : goal.loop-i-preserved
loop-i-preserved c = c.loop-i.invariant ∙ wide_on _ _ _ _ _ c.entry_at.ensures _ _ (omega arith) c.if-entry_at-eq0.false

pub returns : goal.returns
returns c = sym (c.loop-i.invariant ∙ wide_none _ _ _ _ _ (omega arith))
