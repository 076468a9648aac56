-- What a turn asks.
use Rattle.std.specs.Prelude.{ℕ, ◌+◌, ◌<◌, ◌≤◌, List, ◌≡◌, length}
use Rattle.read_model.specs.declared.State.{State}
use Rattle.read_model.specs.Fits.{EnvFits}
use Rattle.read_word.specs.Bounds.{Small}
pub use Rattle.read_mount.specs.Mounts.{find_in}

pub record Scratch (ws : List ℕ) : Type 0 where
  pub size : length ws ≡ 8768
  pub small : Small ws

-- a pass that still goes on in a stream of n bytes
pub record Ready (n : ℕ) (st : State) : Type 0 where
  pub some : 0 < st.left
  pub ends : st.at + st.left ≡ n
  pub most : n ≤ 16777216
  pub fits : EnvFits st.at st.env
  pub unit_some : 1 ≤ st.unitwidth
  pub unit_most : st.unitwidth ≤ 100000
  pub few : st.fonts ≤ 32
  pub records : st.records ≤ st.rmax
  pub entries : st.entries ≤ st.emax
