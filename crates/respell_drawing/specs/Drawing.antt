-- The commands that draw: `D` and a letter.
use Rattle.std.specs.Prelude.{ℕ}
use Rattle.scan_command.specs.declared.Command.{Command}
use Rattle.scan_command.specs.declared.Command.TheVariants as C

pub data Drawing : Command → Type 0 where
  shape : (b h v k n : ℕ) → Drawing (C.Draw b h v k n)
  gray : (i n : ℕ) → Drawing (C.Gray i n)
  fill : (k a b c d n : ℕ) → Drawing (C.Fill k a b c d n)
