-- The bounds that the code's arithmetic rests on.
use Rattle.std.specs.Prelude.{ℕ, ◌+◌, ◌*◌, ◌<◌, ◌≤◌, true, List, ◌≡◌, get_or}
use Rattle.rules.specs.Bytes.{origin}
use Rattle.read_model.specs.declared.Word.{Word}
use Rattle.read_model.specs.Environment.{may_move}
use Rattle.read_model.specs.Words.{far_at}

-- what the scratch row holds: blocks, and widths + 1
pub record Small (ws : List ℕ) : Type 0 where
  pub each : (i : ℕ) → get_or ws i 0 ≤ 100001

-- a word's track, and where it stands
pub record Tracked (track at end : ℕ) : Type 0 where
  pub near : track < 2 * origin
  pub from : at ≤ end
  pub most : end ≤ 16777216

pub record WordFits (d : Word) : Type 0 where
  pub h : d.h < 2 * origin
  pub v : d.v < 2 * origin
  pub number : d.number < 2 * origin
  pub size : d.size < origin
  pub track : d.track < 2 * origin
  pub unit_some : 1 ≤ d.unitwidth
  pub unit_most : d.unitwidth ≤ 100000
  pub quantum_some : 1 ≤ d.quantum
  pub quantum_most : d.quantum < origin
  pub block : d.block ≤ 100001
  pub end : d.at + d.left ≤ 16777216

-- one byte of the word more stays within the limit
pub record Goes (s ws : List ℕ) (d : Word) : Type 0 where
  pub some : 0 < d.left
  pub near : may_move d.h (far_at s ws d) ≡ true
