-- The bounds that the code's arithmetic rests on.
use Rattle.std.specs.Prelude.{ℕ, ◌≤◌}
use Rattle.read_model.specs.declared.Environment.{Environment}
use Rattle.read_model.specs.Fits.{EnvFits}

-- the environment at any place of a stream
abbrev pub Fits : Environment → Type 0
Fits e = EnvFits 16777216 e

-- a command from at to end
pub record Spans (at end : ℕ) : Type 0 where
  pub from : at ≤ end
  pub most : end ≤ 16777216
