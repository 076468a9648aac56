-- A command that is refused is so by a number above 0, which a state keeps: where a state has no refusal, none was made.
use Rattle.std.specs.Prelude.{Option, Some, None, Result, Ok, Err, IsOk}
use Prim.Native.Nat.{ℕ, suc, ◌+◌, ◌*◌, ◌-◌, ◌<◌}
use native.Mathlib.Omega.{arith}
use mathlib.Core.Bool.{Bool, true, false}
use mathlib.Core.List.{List}
use mathlib.Core.Path.{◌≡◌, refl, sym, ap, ◌∙◌}
use lib.Dec.{ltb, eqb}
use lib.ListN.{length}
use Rattle.rules.specs.Bytes.{origin}
use Rattle.rules.specs.declared.Refusal.{Refusal}
use Rattle.rules.specs.Answers.{asked, and_then}
use Rattle.laws.proofs.Cases.{if_both}
use Rattle.scan_command.specs.declared.Command.{Command}
use Rattle.scan_command.specs.declared.Command.TheVariants as C
use Rattle.read_model.specs.declared.Environment.{Environment}
use Rattle.read_model.specs.declared.Word.{Word}
use Rattle.read_model.specs.declared.Emitted.TheVariants as E
use Rattle.read_model.specs.declared.Did.{Did}
use Rattle.read_model.specs.declared.State.{State}
use Rattle.read_model.specs.Environment.{doing, with_spot, in_body, on_page, is_set, gone, placed_or, drawing_here, record_on, along, with_along}
use Rattle.read_model.specs.Words.{all_wide, word_end, word_here, word_to}
use Rattle.read_model.specs.Turns.{did_at, next_of, done_of, turn_on, block_now, mount_at}

abbrev Numbered : Result Did Refusal → Type 0
Numbered (Ok d) = Unit {0}
Numbered (Err r) = 0 < r.number

asked_first : (b : Bool) (n at : ℕ) (x : Result Did Refusal) → Numbered x → Numbered (and_then (asked b (suc n) at) (λ z. x))
asked_first true n at x h = h
asked_first false n at x h = omega arith

placed_first : (o : Option ℕ) (at : ℕ) (f : ℕ → Result Did Refusal) → ((i : ℕ) → Numbered (f i)) → Numbered (and_then (placed_or o at) f)
placed_first None at f h = omega arith
placed_first (Some i) at f h = h i

word_first : (at : ℕ) (e : Environment) (d : Word) (o : Option ℕ) → Numbered (word_to e at d o)
word_first at e d None = omega arith
word_first at e d (Some h) = tt

module _ (s ws : List ℕ) (u : ℕ) (e : Environment) (at : ℕ) where
  numbered : (c : Command) → Numbered (did_at s ws u e at c)
  numbered (C.Glyph p l n) = asked_first (on_page e) 6 at _ (asked_first (is_set e) 7 at _ tt)
  numbered (C.Index i n) = asked_first (on_page e) 6 at _ (asked_first (is_set e) 7 at _ (if_both Numbered (ltb i origin) _ _ tt tt))
  numbered (C.Word t p q n) =
      asked_first (on_page e) 6 at _ (asked_first (is_set e) 7 at _ (asked_first (all_wide (q - p) s ws (block_now ws e) p) 8 at _
      (word_first at e (word_here e u t (q - p) p (block_now ws e)) (word_end (q - p) s ws (word_here e u t (q - p) p (block_now ws e))))))
  numbered (C.Pair i p n) = asked_first (on_page e) 6 at _ (asked_first (is_set e) 7 at _ (placed_first (gone origin (e.h + i)) at (λ h. record_on (with_spot e h e.v) p 1 0) (λ h. tt)))
  numbered (C.To x i n) = asked_first (on_page e) 6 at _ tt
  numbered (C.By x i n) = asked_first (on_page e) 6 at _ (placed_first (gone origin (along e x + i)) at (λ j. doing (with_along e x j) E.Nothing) (λ j. tt))
  numbered (C.Page i n) = asked_first (in_body e) 6 at _ tt
  numbered (C.Font i n) = asked_first (in_body e) 6 at _ (asked_first (ltb 0 (mount_at ws i)) 7 at _ tt)
  numbered (C.Size i n) = asked_first (in_body e) 6 at _ tt
  numbered (C.Colour k a b c d n) = asked_first (in_body e) 6 at _ tt
  numbered (C.Break n) = asked_first (in_body e) 6 at _ tt
  numbered (C.Space n) = asked_first (in_body e) 6 at _ tt
  numbered (C.Draw b x y k n) =
      let drawn : ℕ → ℕ → Result Did Refusal = λ h v. doing (with_spot e h v) (E.Entry (drawing_here e b 0 at n)) in
      asked_first (on_page e) 6 at _
      (placed_first (gone (k * origin) (e.h + x)) at (λ h. and_then (placed_or (gone (k * origin) (e.v + y)) at) (drawn h)) (λ h. placed_first (gone (k * origin) (e.v + y)) at (drawn h) (λ v. tt)))
  numbered (C.Gray i n) = asked_first (on_page e) 6 at _ tt
  numbered (C.Fill k a b c d n) = asked_first (on_page e) 6 at _ tt
  numbered (C.Device p l n) = asked_first (eqb e.phase 0) 6 at _ tt
  numbered (C.Resolution q n) = asked_first (eqb e.phase 1) 6 at _ tt
  numbered (C.Init n) = asked_first (eqb e.phase 2) 6 at _ tt
  numbered (C.File p l n) = asked_first (in_body e) 6 at _ tt
  numbered (C.Mount i p l n) = asked_first (in_body e) 6 at _ tt
  numbered (C.Plain b n) = asked_first (in_body e) 6 at _ tt
  numbered (C.Raw n) = asked_first (in_body e) 6 at _ tt
  numbered (C.Stop n) = asked_first (eqb e.phase 3) 6 at _ tt

done_none : (n : ℕ) (st : State) (next : ℕ) (x : Result Did Refusal) → Numbered x → (done_of n st next x).state.refusal ≡ 0 → IsOk x
done_none n st next (Ok d) p h = refl
done_none n st next (Err r) p h = absurd (omega arith)

pub none_refused : (s ws : List ℕ) (st next : State) (c : Command) → next ≡ (turn_on s ws st (Ok c)).state → next.refusal ≡ 0 → IsOk (did_at s ws st.unitwidth st.env st.at c)
none_refused s ws st next c e h =
    done_none (length s) st (next_of c) (did_at s ws st.unitwidth st.env st.at c) (numbered s ws st.unitwidth st.env st.at c) (sym (ap (λ (x : State). x.refusal) e) ∙ h)
