-- The second pass as the code joins it to the first: what each call asks, and what is answered, in the form in which `search` applies it.
use Rattle.std.specs.Prelude.{Result}
use Prim.Native.Nat.{ℕ}
use mathlib.Core.List.{List}
use mathlib.Core.Path.{◌≡◌, refl, sym, subst, ◌∙◌}
use lib.ListN.{length}
use borrow.Author.Rules.{rules}
use Rattle.rules.specs.declared.Refusal.{Refusal}
use Rattle.rules.specs.Calls.{RespellCall}
use Rattle.read_model.specs.declared.State.{State}
use Rattle.read_turn.specs.Ready.{Scratch}
use Rattle.read_pass.specs.Ready.{PassReady}
use Rattle.read_setup.specs.Setup.{Unmounted}
use Rattle.respell_model.specs.declared.Writing.{Writing}
use Rattle.respell_twice.specs.Respell.{begin_at, pass_at, Measured, next_of, respell_answer_of}
use Rattle.respell_twice.proofs.First.{Runs, begun, first_scratch}
use Rattle.respell_twice.proofs.Twice.{second_sound, spells_as}

module _ (s list : List ℕ) (w : Writing) (ws₁ : List ℕ) where
  pub again_asks : Measured s list w ws₁ → Scratch ws₁
  again_asks m = first_scratch s list m.first m.scratch m.started m.buffer (pass_at w ws₁ m.left) m.runs

  module _ (o ws₂ : List ℕ) (x : Writing) where
    pub second_asks : Unmounted ws₁ ws₂ → x ≡ begin_at (next_of w (length s) (length o)) → Measured s list w ws₁ → PassReady (length s) ws₂ 0 0 x.state
    second_asks u e m =
        subst (λ (i : Writing). PassReady (length s) ws₂ 0 0 i.state) (sym e)
        (second_sound s list m.first m.scratch m.started m.buffer (pass_at w ws₁ m.left) m.runs m.bytes o (next_of w (length s) (length o)) refl ws₂ u)

    pub answers : (v : Writing) (ws₃ o' : List ℕ) (g : Result ℕ Refusal) → Unmounted ws₁ ws₂ → x ≡ begin_at (next_of w (length s) (length o)) → Measured s list w ws₁ → Runs s list x ws₂ o v ws₃ o' → g ≡ respell_answer_of v
        → RespellCall s list o g o'
    answers v ws₃ o' g u e m r k =
        let c : State = next_of w (length s) (length o) in
        let t : RespellCall s list o (respell_answer_of v) o' =
        spells_as s list m.first m.scratch m.started m.buffer (pass_at w ws₁ m.left) m.runs m.bytes o c refl ws₂ u (pass_at v ws₃ o') (begun s list c x ws₂ o v ws₃ o' e r) in
        record { answer = k ∙ t.answer; buffer = t.buffer }

pub ruleset joined = (again_asks, second_asks, answers, rules)
