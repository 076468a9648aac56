use Rattle.std.proofs.Common.{ap}
use Rattle.respell_pass.proofs.Known.{known_first, turn_less, known_next, known_over}
use Rattle.respell_pass.proofs.pass.Goals as goal

pub loop-state-init : goal.loop-state-init
loop-state-init c = record { stream = ap (λ b. b.now) c.new-reader.ensures.0; known = known_first _ _ _ _ _ _ c.requires }

pub loop-state-smaller : goal.loop-state-smaller
loop-state-smaller c =
    let v = c.loop-state.invariant.known in
    let t = rw c.loop-state.invariant.stream at c.turn-x.ensures in
    turn_less _ _ _ _ _ _ _ _ _ _ v.scratch (v.ready c.loop-state-test.true) t

pub loop-state-preserved : goal.loop-state-preserved
loop-state-preserved c =
    let v = c.loop-state.invariant.known in
    let t = rw c.loop-state.invariant.stream at c.turn-x.ensures in
    record { stream = c.loop-state.invariant.stream; known = known_next _ _ _ _ _ _ _ _ _ _ v c.loop-state-test.true _ _ _ _ t }

pub returns : goal.returns
returns c = known_over _ _ _ _ _ _ _ _ _ _ c.loop-state.invariant.known c.loop-state-test.false
