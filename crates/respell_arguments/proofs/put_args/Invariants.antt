use Rattle.std.proofs.Common.{◌≡◌}
use Rattle.respell_arguments.proofs.Arguments.{Args}
use Rattle.respell_arguments.proofs.put_args.Given as goal

abbrev pub invariant-loop : goal.invariant-loop
invariant-loop l = record {
  args : Args l.s l.from l.n l.initial.sheet.bytes.now l.initial.sheet.at l.sheet.bytes.now l.sheet.at l.i l.counter;
  same : l.sheet.bytes.ghost_name ≡ l.initial.sheet.bytes.ghost_name;
}
