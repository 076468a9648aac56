use Rattle.std.proofs.Common.{◌≡◌}
use Rattle.respell_bytes.proofs.Putting.{Text}
use Rattle.respell_bytes.proofs.Sheet.put_all.Given as goal

abbrev pub invariant-loop-b : goal.invariant-loop-b
invariant-loop-b l = record {
  text : Text l.text l.initial.self.bytes.now l.initial.self.at l.self.bytes.now l.self.at l.b-index;
  same : l.self.bytes.ghost_name ≡ l.initial.self.bytes.ghost_name;
}
