-- Numbers and keys in a text.
use Prim.Native.Nat.{ℕ, ◌≤◌, ◌<◌, min}
use mathlib.Core.Path.{◌≡◌, refl, sym, ◌∙◌}
use mathlib.Core.Bool.{true, false, false≢true}
use mathlib.Core.List.{List, [], ◌∷◌}
use mathlib.Core.Option.{none, some}
use native.Mathlib.Nat.{zero-add}
use native.Mathlib.Omega.{arith}
use borrow.Author.Tests.{eq-eqb, ne_eqb, le-leb, lt-leb, eqb-true, eqb-false}
use lib.Dec.{eqb}
use lib.ListN.{length, take, drop, get_or}
use lib.Pointwise.{pointwise}
use Rattle.std.specs.Prelude.{None, Some}
use Rattle.rules.specs.Bytes.{is_digit, span, value}
use Rattle.rules.specs.Widths.{plain_number, behind}
use Rattle.laws.proofs.Cases.{on}
use Rattle.widths_line.specs.Reading.{listed, digit_number}
use Rattle.scan_lex.specs.At.{run_end}
use Rattle.scan_integer.specs.Parts.{value_from}

-- ---- digits
module _ (t : List ℕ) (v n : ℕ) (e : v ≡ min (value_from 0 t 0) 100000000) (f : n ≡ run_end is_digit t 0) where
  ends : n ≡ span is_digit t
  unfolding run_end
  ends = rw (f, zero-add)

  is_value : v ≡ min (value 0 t) 100000000
  unfolding value_from
  is_value = e

  pub digits_some : n ≡ length t → v ≤ 100000 → Some v ≡ listed (digit_number t)
  digits_some h l =
      let q : v ≡ value 0 t = omega (arith, is_value) in
      rw (eq-eqb (span is_digit t) (length t) (sym ends ∙ h), le-leb (value 0 t) 100000 (omega arith), q)

  pub digits-large : n ≡ length t → 100000 < v → None ≡ listed (digit_number t)
  digits-large h l = rw (eq-eqb (span is_digit t) (length t) (sym ends ∙ h), lt-leb (value 0 t) 100000 (omega (arith, is_value)))

  pub digits_none : (n ≡ length t → ⊥) → None ≡ listed (digit_number t)
  digits_none h = rw (ne_eqb (span is_digit t) (length t) (λ q. h (ends ∙ q)))

pub ruleset digits = (digits_some, digits-large, digits_none)

-- ---- a number
pub digits_plain : (t : List ℕ) → 0 < length t → (1 < length t → get_or t 0 0 ≡ 48 → ⊥) → listed (digit_number t) ≡ listed (plain_number t)
unfolding span value
digits_plain [] h e = absurd (omega arith)
digits_plain (b ∷ []) h e = on (is_digit b) (λ f. rw (f, zero-add)) (λ f. rw f)
digits_plain (b ∷ c ∷ t) h e =
    on (eqb (span is_digit (b ∷ c ∷ t)) (length (b ∷ c ∷ t))) (λ f. rw (f, ne_eqb b 48 (e (omega arith)))) (λ f. rw f)

pub zero_plain : (t : List ℕ) → 1 < length t → get_or t 0 0 ≡ 48 → None ≡ listed (plain_number t)
zero_plain [] h e = absurd (omega arith)
zero_plain (b ∷ []) h e = absurd (omega arith)
zero_plain (b ∷ c ∷ t) h e = on (eqb (span is_digit (b ∷ c ∷ t)) (length (b ∷ c ∷ t))) (λ f. rw (f, eq-eqb b 48 e)) (λ f. rw f)

-- ---- a key
pub stripped : (key t : List ℕ) → pointwise eqb (take (length key) t) key ≡ true → behind key t ≡ some (drop (length key) t)
unfolding behind
stripped [] t h = refl
stripped (x ∷ xs) [] h = absurd (false≢true h)
stripped (x ∷ xs) (b ∷ t) h = on (eqb b x) (λ e. rw (eq-eqb x b (sym (eqb-true b x e))) (stripped xs t (rw e at h))) (λ e. absurd (false≢true (rw e at h)))

pub unstripped : (key t : List ℕ) → pointwise eqb (take (length key) t) key ≡ false → behind key t ≡ none
unfolding behind
unstripped [] t h = absurd (false≢true (sym h))
unstripped (x ∷ xs) [] h = refl
unstripped (x ∷ xs) (b ∷ t) h =
    on (eqb b x)
    (λ e. rw (eq-eqb x b (sym (eqb-true b x e))) (unstripped xs t (rw e at h)))
    (λ e. rw (ne_eqb x b (λ q. eqb-false b x e (sym q))))
