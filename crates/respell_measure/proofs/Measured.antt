-- The first pass: what its call asks, and what is known where it ended, in the form in which `search` applies it.
use mathlib.Core.List.{List}
use Prim.Native.Nat.{ℕ}
use mathlib.Core.Path.{◌≡◌, sym, subst}
use lib.ListN.{length}
use borrow.Author.Rules.{rules}
use Rattle.read_model.specs.declared.State.{State}
use Rattle.read_pass.specs.Ready.{PassReady}
use Rattle.read_setup.specs.Setup.{Started, AreBytes}
use Rattle.read_twice.proofs.Twice as T
use Rattle.respell_model.specs.declared.Writing.{Writing}
use Rattle.respell_twice.specs.Respell.{begin_at, Measured}
use Rattle.respell_twice.proofs.First.{Runs, begun}

module _ (s list : List ℕ) (a : State) (ws : List ℕ) (x : Writing) where
  pub first_asks : Started s list a ws → x ≡ begin_at a → PassReady (length s) ws 0 0 x.state
  first_asks h e = subst (λ (i : Writing). PassReady (length s) ws 0 0 i.state) (sym e) (T.first-sound s list a ws 0 0 h)

  pub measured : (o : List ℕ) (w : Writing) (ws' o' : List ℕ) → Runs s list x ws o w ws' o' → x ≡ begin_at a → Started s list a ws → AreBytes s → Measured s list w ws'
  measured o w ws' o' r e h y = record { first = a; scratch = ws; started = h; bytes = y; buffer = o; left = o'; runs = begun s list a x ws o w ws' o' e r }

pub ruleset measuring = (first_asks, measured, rules)
