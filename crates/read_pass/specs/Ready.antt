-- What a pass asks: of its state, of the scratch row, and that the rooms are those of the lent rows.
use Rattle.std.specs.Prelude.{ℕ, ◌<◌, true, List, ◌≡◌}
use Rattle.read_model.specs.declared.State.{State}
use Rattle.read_model.specs.Turns.{fills_records, fills_entries}
use Rattle.read_model.specs.Fits.{EnvFits}
use Rattle.read_turn.specs.Ready.{Scratch, Ready}

-- a pass over n bytes, into rows of g records and e entries
pub record PassReady (n : ℕ) (ws : List ℕ) (g e : ℕ) (st : State) : Type 0 where
  pub scratch : Scratch ws
  pub ready : 0 < st.left → Ready n st
  pub fits : EnvFits st.at st.env
  pub rmax : fills_records st.fill ≡ true → st.rmax ≡ g
  pub emax : fills_entries st.fill ≡ true → st.emax ≡ e
