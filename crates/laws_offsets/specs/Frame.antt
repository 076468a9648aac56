-- Document 01, "Controls": the prologue, `x T`, `x r` and `x i`, and `x s`, which ends the stream.
use Rattle.std.specs.Prelude.{ℕ, List, [], ◌∷◌}
use Rattle.rules.specs.Act.{device, resolution, init, stop, Cmd, just}

pub data Framing : Cmd → Type 0 where
  x_T : (n : List ℕ) → Framing (just (device n))
  x_r : (n h v : ℕ) → Framing (just (resolution n h v))
  x_i : Framing (just init)
  x_s : Framing (just stop)

-- none of them is among these commands
abbrev pub NoFraming : List Cmd → Type 0
NoFraming [] = Unit {0}
NoFraming (c ∷ cs) = (Framing c → ⊥) × NoFraming cs
