-- What a control does; any other command is refused.
use Rattle.std.specs.Prelude.{ℕ, Result}
use Rattle.rules.specs.declared.Refusal.{Refusal}
use Rattle.scan_command.specs.declared.Command.{Command}
use Rattle.scan_command.specs.declared.Command.TheVariants as C
use Rattle.read_model.specs.declared.Environment.{Environment}
use Rattle.read_model.specs.declared.Did.{Did}
use Rattle.read_model.specs.declared.Emitted.TheVariants as E
use Rattle.read_model.specs.Environment.{refusing, doing, raw_here, in_body_or, control_on, onwards}

abbrev pub controlled_at : Environment → ℕ → Command → Result Did Refusal
controlled_at e at (C.Device p l q) = onwards e 0 1 e.quantum 84 at q
controlled_at e at (C.Resolution i q) = onwards e 1 2 i 114 at q
controlled_at e at (C.Init q) = onwards e 2 3 e.quantum 105 at q
controlled_at e at (C.File p l q) = in_body_or e at (control_on e 70 at q)
controlled_at e at (C.Mount i p l q) = in_body_or e at (control_on e 102 at q)
controlled_at e at (C.Plain b q) = in_body_or e at (control_on e b at q)
controlled_at e at (C.Raw q) = in_body_or e at (doing e (E.Entry (raw_here e at q)))
controlled_at e at (C.Stop q) = onwards e 3 4 e.quantum 115 at q
controlled_at e at _ = refusing 7 at
