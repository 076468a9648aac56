use mathlib.Core.Path.{◌≡◌}
use borrow.Author.Rules.{rules}
use Rattle.std.specs.Prelude.{Err}
use Rattle.widths.proofs.Loading.{ends_sound, ends_short, ends_wrong, going_less}
use Rattle.widths.proofs.load.Goals as goal

pub returns-in_err-st : goal.returns-in_err-st
returns-in_err-st c =
    let e : c.from_residual.result ≡ Err c.in_err-st.field-0.0 = search rules in
    rw e (ends_wrong c.args.list.now c.loop-st.table c.turn.new.table c.loop-st.st c.turn.result c.loop-st.invariant c.loop-st-test.true c.turn.ensures c.in_err-st.field-0.0 c.in_err-st.was)

pub loop-st-smaller : goal.loop-st-smaller
loop-st-smaller c =
    going_less c.args.list.now c.loop-st.table c.turn.new.table c.loop-st.st c.turn.result c.loop-st.invariant c.loop-st-test.true c.turn.ensures c.in_ok-st.st c.in_ok-st.was

pub returns-in-Block : goal.returns-in-Block
returns-in-Block c = ends_sound c.args.list.now c.loop-st.table c.loop-st.st c.loop-st.invariant c.loop-st-test.false c.in-Block.is

pub returns-in_default : goal.returns-in_default
returns-in_default c = rw c.wrong.ensures (ends_short c.args.list.now c.loop-st.table c.loop-st.st c.loop-st.invariant c.loop-st-test.false c.in_default.not-Block)
