use Rattle.read_scratch.proofs.Gathering.{Copied}
use Rattle.read_scratch.proofs.put_widths.Given as goal

abbrev pub invariant-loop-b : goal.invariant-loop-b
invariant-loop-b l = Copied l.widths l.b l.part
