-- The commands that control: `x` and a word.
use Rattle.std.specs.Prelude.{ℕ}
use Rattle.scan_command.specs.declared.Command.{Command}
use Rattle.scan_command.specs.declared.Command.TheVariants as C

pub data Control : Command → Type 0 where
  device : (p l n : ℕ) → Control (C.Device p l n)
  resolution : (q n : ℕ) → Control (C.Resolution q n)
  init : (n : ℕ) → Control (C.Init n)
  file : (p l n : ℕ) → Control (C.File p l n)
  mount : (i p l n : ℕ) → Control (C.Mount i p l n)
  plain : (b n : ℕ) → Control (C.Plain b n)
  raw : (n : ℕ) → Control (C.Raw n)
  stop : (n : ℕ) → Control (C.Stop n)
