use Rattle.read_scratch.specs.Scratch.{Gathered}
use Rattle.read_scratch.proofs.gather.Given as goal

abbrev pub invariant-loop-k : goal.invariant-loop-k
invariant-loop-k l = Gathered l.table l.k l.ws
