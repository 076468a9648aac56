-- The text of `x X`, one byte of it further: in the form in which `search` applies it at a need.
use Rattle.std.specs.Prelude.{Option, Some, None, if◌then◌else◌}
use Prim.Native.Nat.{ℕ, suc, ◌+◌, ◌-◌, ◌^◌, ◌≤◌, ◌<◌}
use native.Mathlib.Omega.{arith}
use native.Mathlib.Nat.{add-zero}
use mathlib.Core.Bool.{true, false}
use mathlib.Core.List.{List, [], ◌∷◌}
use mathlib.Core.Path.{◌≡◌, refl, sym, ◌∙◌}
use lib.ListN.{length, drop, get_or, length-drop, drop_of_length-le}
use lib.Seq.{drop-drop, get_or-drop}
use mir.Syntax.{w64}
use mir.Val.{Fits}
use borrow.Author.Tests.{eq-eqb, ne_eqb}
use Rattle.rules.specs.Bytes.{is}
use Rattle.rules.specs.Controls.{raw_text, raw_length}
use Rattle.laws.proofs.Cases.{on}
use Rattle.laws_scan.proofs.Walk.{cons_at}
use Rattle.scan_raw.specs.Parts.{text_step_of, step_at, text_at}

-- ---- how many bytes the next byte takes

step_plain : (b : ℕ) (r : List ℕ) → is "\n" b ≡ false → text_step_of (b ∷ r) ≡ Some 1
step_plain b [] e = rw e
step_plain b (c ∷ r) e = rw e

step_newline : (b : ℕ) (r : List ℕ) → is "\n" b ≡ true → text_step_of (b ∷ r) ≡ (if is "+" (get_or r 0 0) then Some 2 else None)
step_newline b [] e = rw e
step_newline b (c ∷ r) e = rw e

module _ (s : List ℕ) (i : ℕ) where
  pub step_over : length s ≤ i → None ≡ step_at s i
  unfolding step_at
  step_over h = rw (drop_of_length-le s h)

  module _ (h : i < length s) where
    pub step_byte : (get_or s i 0 ≡ 10 → ⊥) → Some 1 ≡ step_at s i
    unfolding step_at
    step_byte n = sym (rw (cons_at s i h) (step_plain (get_or s i 0) (drop (i + 1) s) (ne_eqb (get_or s i 0) 10 n)))

    module _ (e : get_or s i 0 ≡ 10) (c : ℕ) (g : c ≡ get_or s (i + 1) 0) where
      step_next : step_at s i ≡ (if is "+" c then Some 2 else None)
      unfolding step_at
      step_next =
          rw (cons_at s i h, g)
          (step_newline (get_or s i 0) (drop (i + 1) s) (eq-eqb (get_or s i 0) 10 e) ∙ rw (get_or-drop (i + 1) s 0 0, add-zero (i + 1)))

      pub step_plus : c ≡ 43 → Some 2 ≡ step_at s i
      step_plus f = sym (step_next ∙ rw (eq-eqb c 43 f))

      pub step_end : (c ≡ 43 → ⊥) → None ≡ step_at s i
      step_end f = sym (step_next ∙ rw (ne_eqb c 43 f))

-- ---- what a step takes from the text

record Step (r : List ℕ) (k : ℕ) : Type 0 where
  pub some : 0 < k
  pub inside : k ≤ length r
  pub text : length (raw_text r) ≡ suc (length (raw_text (drop k r)))
  pub taken : raw_length r ≡ k + raw_length (drop k r)

abbrev Stepped : List ℕ → Option ℕ → Type 0
Stepped r None = (length (raw_text r) ≡ 0) × (raw_length r ≡ 0)
Stepped r (Some k) = Step r k

stepped : (r : List ℕ) → Stepped r (text_step_of r)
unfolding raw_text raw_length
stepped [] = (refl, refl)
stepped (b ∷ []) =
    on (is "\n" b) (λ e. rw e (rw e, rw e)) (λ e. rw e (record { some = omega arith; inside = omega arith; text = rw e; taken = rw e }))
stepped (b ∷ c ∷ r) =
    on (is "\n" b)
    (λ e.
    on (is "+" c)
    (λ f. rw (e, f) (record { some = omega arith; inside = omega arith; text = rw (e, f); taken = rw (e, f) (omega arith) }))
    (λ f. rw (e, f) (rw (e, f), rw (e, f))))
    (λ e. rw e (record { some = omega arith; inside = omega arith; text = rw e; taken = rw e (omega arith) }))

-- ---- the loop: len bytes of the text have been read, up to i

pub record Going (s : List ℕ) (at i len : ℕ) : Type 0 where
  pub text : length (raw_text (drop at s)) ≡ len + length (raw_text (drop i s))
  pub end : at + raw_length (drop at s) ≡ i + raw_length (drop i s)
  pub fewer : len ≤ i

pub text-start : (s : List ℕ) (at : ℕ) → Going s at at 0
text-start s at = record { text = omega arith; end = refl; fewer = omega arith }

module _ (s : List ℕ) (at i len : ℕ) (g : Going s at i len) (q : Option ℕ) (e : q ≡ step_at s i) where
  step_is : Stepped (drop i s) q
  unfolding step_at
  step_is = rw e (stepped (drop i s))

  pub text-stop : q ≡ None → record { len = len; next = i } ≡ text_at s at
  unfolding text_at
  text-stop n =
      let t : Stepped (drop i s) None = rw n at step_is in
      rw (g.text, g.end, t.0, t.1, add-zero len, add-zero i)

  module _ (k : ℕ) (n : q ≡ Some k) where
    step : Step (drop i s) k
    step = rw n at step_is

    text_in_lem : (i + k ≤ length s) × (i < i + k)
    text_in_lem = omega (arith, step.some, step.inside, length-drop i s)

    pub text_more : Going s at (i + k) (len + 1)
    text_more =
        let d = drop-drop k i s in
        record {
          text = g.text ∙ rw (← d) (omega (arith, step.text));
          end = g.end ∙ rw (← d) (omega (arith, step.taken));
          fewer = omega (arith, g.fewer, step.some);
        }

    pub text_less : length s - (i + k) < length s - i
    text_less = omega (arith, text_in_lem)

    module _ (l : length s < 2 ^ 64) where
      pub place_fits : Fits w64 (i + k)
      place_fits = omega (arith, text_in_lem)

      pub length-fits : Fits w64 (len + 1)
      length-fits = omega (arith, text_in_lem, g.fewer)

pub ruleset texts = (step_over, step_byte, step_plus, step_end, text-start, text-stop, text_more, text_less, place_fits, length-fits)
