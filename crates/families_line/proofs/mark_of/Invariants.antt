use Rattle.std.proofs.Common.{◌≡◌, ◌<◌, drop}
use Rattle.families_line.specs.Line.{mark_from, mark_of}
use Rattle.families_line.proofs.mark_of.Given as goal

abbrev pub invariant-loop-b : goal.invariant-loop-b
invariant-loop-b l = (mark_of l.name ≡ mark_from l.n (drop l.b-index l.name)) × (l.n < 16384)
