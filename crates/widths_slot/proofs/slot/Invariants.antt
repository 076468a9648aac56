use Rattle.std.proofs.Common.{◌≡◌}
use Rattle.widths_table.specs.Slots.{slot_in}
use Rattle.widths_slot.proofs.slot.Given as goal

abbrev pub invariant-loop-k : goal.invariant-loop-k
invariant-loop-k l = slot_in l.list l.places l.lens l.fonts l.name ≡ slot_in l.list l.places l.lens l.k l.name
