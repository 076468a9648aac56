use Rattle.std.proofs.Common.{arith}
use Rattle.find_ask.proofs.Asking.{gathering_more, ask_few, ask_well}
use Rattle.find_ask.proofs.ask_query.Goals as goal

pub loop-j-preserved : goal.loop-j-preserved
loop-j-preserved c = gathering_more _ _ _ _ _ _ _ _ c.loop-j.invariant (omega (arith, ask_few c.args.q.now c.in_ok-count.count c.in_ok-count.ensures.0)) c.sought.ensures

pub returns : goal.returns
returns c = ask_well c.args.q.now c.args.fl.now c.args.table.now c.args.families c.loop-j.glyphs c.in_ok-count.count c.load.new.glyphs c.in_ok-count.ensures.0 c.in_ok-count.ensures.1 c.loop-j.j c.loop-j-test.false c.loop-j.invariant
