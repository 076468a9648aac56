use Rattle.std.proofs.Common.{arith}
use Rattle.std.proofs.lemmas.Grind.{common_steps}
use Rattle.scan_arguments.proofs.Many.{going_none, going_end, going_first, going_second, going_less}
use Rattle.scan_arguments.proofs.pairs_at.Goals as goal

pub returns-in_err-a : goal.returns-in_err-a
returns-in_err-a c = grind (arith, common_steps, going_first _ _ _ _ _ c.loop-sums.invariant)

pub returns-in_err-b : goal.returns-in_err-b
returns-in_err-b c = grind (arith, common_steps, going_second _ _ _ _ _ c.loop-sums.invariant)

pub loop-sums-smaller : goal.loop-sums-smaller
loop-sums-smaller c = grind (arith, common_steps, going_less _ _ _ _ _ c.loop-sums.invariant)

pub returns-then-next-i : goal.returns-then-next-i
returns-then-next-i c = grind (arith, common_steps, going_none _ _ _ _ _ c.loop-sums.invariant)

pub returns : goal.returns
returns c = grind (arith, common_steps, going_end _ _ _ _ _ c.loop-sums.invariant)
