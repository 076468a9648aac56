use Prim.Native.Nat.{◌-◌}
use lib.ListN.{length}
use Rattle.scan_raw.proofs.Texts.{Going}
use Rattle.scan_raw.proofs.text_at.Given as goal

abbrev pub invariant-loop-step : goal.invariant-loop-step
invariant-loop-step l = Going l.s l.at l.i l.len

abbrev pub decreases-loop-step : goal.decreases-loop-step
decreases-loop-step l = length l.s - l.i
