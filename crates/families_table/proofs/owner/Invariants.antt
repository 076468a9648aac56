use Rattle.std.proofs.Common.{◌≡◌}
use Rattle.families_table.specs.Table.{families_at, owner_of}
use Rattle.families_table.proofs.owner.Given as goal

abbrev pub invariant-loop-family : goal.invariant-loop-family
invariant-loop-family l = owner_of l.name (families_at l.fl l.table l.families) ≡ owner_of l.name (families_at l.fl l.table l.family)
