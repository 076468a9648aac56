use Rattle.read_turn.specs.Ready.{find_in}
use Rattle.respell_pass.proofs.Steps.{stepping, blank_step, command_step}
use Rattle.respell_pass.proofs.turn_at.Goals as goal

pub skipped-requires : goal.skipped-requires
skipped-requires c = search stepping

pub returns-then-at-next : goal.returns-then-at-next
returns-then-at-next c =
    blank_step (find_in c.args.list.now c.args.st.fonts c.args.ws.now) c.args.s.now c.args.ws.now c.args.st c.args.out.now c.args.m c.args.at c.blank_end-next.result c.requires.0 c.blank_end-next.ensures _ _ c.if-at-next.true c.skipped.ensures.0 c.skipped.ensures.1

pub returns : goal.returns
returns c =
    command_step (find_in c.args.list.now c.args.st.fonts c.args.ws.now) c.args.s.now c.args.ws.now c.args.st c.args.out.now c.args.m c.args.at c.blank_end-next.result c.requires.0 c.blank_end-next.ensures _ _ _ _ c.if-at-next.false c.command_turn.ensures.0 c.command_turn.ensures.1 c.command_turn.ensures.2 c.command_turn.ensures.3
