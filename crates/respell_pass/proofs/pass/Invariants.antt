use Rattle.std.proofs.Common.{◌≡◌}
use Rattle.respell_pass.proofs.Known.{Known}
use Rattle.respell_pass.proofs.pass.Given as goal

-- the pass as it stands; the reader keeps its stream
abbrev pub invariant-loop-state : goal.invariant-loop-state
invariant-loop-state l = record {
  stream : l.reader.stream.now ≡ l.s;
  known : Known l.list l.s l.fn.from.state l.fn.from.mark l.initial.ws l.initial.out l.state l.mark l.ws l.out;
}

abbrev pub decreases-loop-state : goal.decreases-loop-state
decreases-loop-state l = l.state.left
