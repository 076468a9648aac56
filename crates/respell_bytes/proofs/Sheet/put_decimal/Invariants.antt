use Rattle.respell_model.specs.Sheet.{small}
use Rattle.respell_bytes.proofs.Digits.{Digits}
use Rattle.respell_bytes.proofs.Sheet.put_decimal.Given as goal

abbrev pub invariant-loop-m : goal.invariant-loop-m
invariant-loop-m l = Digits (small l.n) l.digits l.i l.m

abbrev pub decreases-loop-m : goal.decreases-loop-m
decreases-loop-m l = l.i
