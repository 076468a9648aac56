-- The letters of the commands that move, by the axis.
use Rattle.std.specs.Prelude.{ℕ}
use Rattle.scan_command.specs.declared.Axis.{Axis}
use Rattle.scan_command.specs.declared.Axis.TheVariants.{Across, Down}

-- `H`, `V`
abbrev pub to_letter : Axis → ℕ
to_letter Across = 72
to_letter Down = 86

-- `h`, `v`
abbrev pub by_letter : Axis → ℕ
by_letter Across = 104
by_letter Down = 118
