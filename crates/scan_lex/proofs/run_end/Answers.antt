use Prim.Native.Nat.{◌<◌}
use native.Mathlib.Omega.{arith}
use lib.ListN.{length, get_or}
use Rattle.scan_lex.proofs.Runs.{run_more, run-stop, run_over}
use Rattle.scan_lex.proofs.run_end.Goals as goal
use Rattle.scan_lex.proofs.run_end.Goals.{then-loop-i-test+else-passes, else-loop-i-test}

pub loop-i-preserved : goal.loop-i-preserved
loop-i-preserved g c =
    let k : c.loop-i.i < length c.args.s.now = omega arith in
    let b : get_or c.args.s.now c.loop-i.i 0 < 256 = omega (arith, c.type_inv.s c.loop-i.i) in
    (c.loop-i.invariant.0, λ p h. run_more p c.args.s.now c.args.at c.loop-i.i c.passes.result (c.loop-i.invariant.1 p h) k (h _ _ b c.passes.ensures) c.if-passes.true)

pub returns : goal.returns
returns g c =
    elim c.loop-i-test.branch [
      | then-loop-i-test+else-passes w ↦
          let k : c.loop-i.i < length c.args.s.now = omega arith in
          let b : get_or c.args.s.now c.loop-i.i 0 < 256 = omega (arith, c.type_inv.s c.loop-i.i) in
          λ p h. run-stop p c.args.s.now c.args.at c.loop-i.i w.passes.result (c.loop-i.invariant.1 p h) k (h _ _ b w.passes.ensures) w.if-passes.false
      | else-loop-i-test w ↦ λ p h. run_over p c.args.s.now c.args.at c.loop-i.i (c.loop-i.invariant.1 p h) (omega arith)
    ]
