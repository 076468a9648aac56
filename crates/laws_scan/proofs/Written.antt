-- Integers are read as they are written. (It stands on no other proof about scanning.)
use Prim.Native.Nat.{ℕ, suc, ◌+◌, ◌*◌, ◌-◌, ◌^◌, ◌≤◌}
use native.Mathlib.Omega.{arith}
use native.Mathlib.Nat.{pow-suc}
use mathlib.Core.Bool.{Bool, true, false}
use mathlib.Core.List.{List, [], ◌∷◌, ◌++◌}
use mathlib.Core.Path.{◌≡◌, refl, sym, ap, subst, ◌∙◌}
use lib.Dec.{leb, eqb}
use lib.ListN.{length, take, drop, take-append-drop, length-take}
use borrow.Author.Tests.{leb-true, le-leb, eqb-true, ne_eqb}
use Rattle.rules.specs.Bytes.{is, span, is_digit, digits, value, Int, no_int, int, signed, integer}
use Rattle.laws.proofs.Cases.{on, no, if_on, and_left, and_right, not_zero, All, Stops, span_all, all_span, length-span, drop-span}
use Rattle.laws_scan.specs.Texts.{Digit, AllDigits, worth, Digits, Written, NoDigit, IntegersAsWritten}

-- ---- digits

digit_of : (b : ℕ) → is_digit b ≡ true → Digit b
digit_of b h = (leb-true 48 b (and_left (leb 48 b) (leb b 57) h), leb-true b 57 (and_right (leb 48 b) (leb b 57) h))

is_digit_lem : (b : ℕ) → Digit b → is_digit b ≡ true
is_digit_lem b h = rw (le-leb 48 b h.0, le-leb b 57 h.1)

digits_of : (t : List ℕ) → All is_digit t → AllDigits t
digits_of [] h = tt
digits_of (b ∷ t) h = (digit_of b h.0, digits_of t h.1)

are_digits : (t : List ℕ) → AllDigits t → All is_digit t
are_digits [] h = tt
are_digits (b ∷ t) h = (is_digit_lem b h.0, are_digits t h.1)

stops_of : (r : List ℕ) → Stops is_digit r → NoDigit r
stops_of [] h = tt
stops_of (b ∷ r) h = λ d. no (sym h ∙ is_digit_lem b d)

no_digit : (r : List ℕ) → NoDigit r → Stops is_digit r
no_digit [] h = tt
no_digit (b ∷ r) h = on (is_digit b) (λ e. absurd (h (digit_of b e))) (λ e. e)

-- the rules' number, digit by digit, is the sum
value_is : (n : ℕ) (t r : List ℕ) → AllDigits t → Stops is_digit r → value n (t ++ r) ≡ n * 10 ^ length t + worth t
unfolding value
value_is n [] [] h k = omega arith
value_is n [] (b ∷ r) h k = rw k (omega arith)
value_is n (b ∷ t) r h k =
    rw (is_digit_lem b h.0, pow-suc)
    (one_more n (b - 48) (10 ^ length t) (worth t) (value (n * 10 + (b - 48)) (t ++ r)) (value_is (n * 10 + (b - 48)) t r h.1 k))
  where
    one_more : (n c p w v : ℕ) → v ≡ (n * 10 + c) * p + w → v ≡ n * (p * 10) + (c * p + w)
    one_more n c p w v e = omega arith

few_digits : (r : List ℕ) → digits r ≤ length r
few_digits r = omega (arith, length-span is_digit r, length-take (digits r) r)

all_said : (t r : List ℕ) → AllDigits t → Stops is_digit r → value 0 (t ++ r) ≡ worth t
all_said t r h k = omega (arith, value_is 0 t r h k)

-- ---- integers

abbrev pub AsRead : List ℕ → Int → Type 0
AsRead r no_int = Unit {0}
AsRead r (int n l) = (l ≤ length r) × Written n.neg n.mag (take l r) × NoDigit (drop l r)

front_says : (r : List ℕ) → eqb (digits r) 0 ≡ false → Digits (value 0 r) (take (digits r) r)
front_says r e =
    let t : List ℕ = take (digits r) r in
    let h : AllDigits t = digits_of t (all_span is_digit r) in
    record {
      some = omega (arith, length-span is_digit r, not_zero (digits r) e);
      each = h;
      says = ap (value 0) (sym (take-append-drop (digits r) r)) ∙ all_said t (drop (digits r) r) h (drop-span is_digit r);
    }

pub integer-read : (r : List ℕ) → AsRead r (integer r)
unfolding integer
integer-read [] = tt
integer-read (b ∷ r) =
    if_on (AsRead (b ∷ r)) (is "-" b) _ _
    (λ m. if_on (AsRead (b ∷ r)) (eqb (digits r) 0) no_int _ (λ e. tt)
    (λ e. as_long true (value 0 r) (suc (digits r)) (1 + digits r) (omega arith)
    (omega (arith, few_digits r), (eqb-true b 45 m, front_says r e), stops_of (drop (digits r) r) (drop-span is_digit r))))
    (λ m. if_on (AsRead (b ∷ r)) (eqb (digits (b ∷ r)) 0) no_int _ (λ e. tt)
    (λ e. as_long false (value 0 (b ∷ r)) (digits (b ∷ r)) (0 + digits (b ∷ r)) (omega arith)
    (few_digits (b ∷ r), front_says (b ∷ r) e, stops_of (drop (digits (b ∷ r)) (b ∷ r)) (drop-span is_digit (b ∷ r)))))
  where
    as_long : (m : Bool) (mag l k : ℕ) → l ≡ k → AsRead (b ∷ r) (int (record { neg = m; mag = mag }) l) → AsRead (b ∷ r) (int (record { neg = m; mag = mag }) k)
    as_long m mag l k e h = subst (λ (i : ℕ). AsRead (b ∷ r) (int (record { neg = m; mag = mag }) i)) e h

-- digits, with no digit behind them
said : (m : Bool) (k mag : ℕ) (t r : List ℕ) → Digits mag t → NoDigit r → signed m k (t ++ r) ≡ int (record { neg = m; mag = mag }) (k + length t)
said m k mag t r h g =
    let n : digits (t ++ r) ≡ length t = span_all is_digit t r (are_digits t h.each) (no_digit r g) in
    let v : value 0 (t ++ r) ≡ mag = all_said t r h.each (no_digit r g) ∙ sym h.says in
    rw (n, ne_eqb (length t) 0 (λ z. absurd (omega (arith, h.some, z))), v)

written_read : (neg : Bool) (mag : ℕ) (t r : List ℕ) → Written neg mag t → NoDigit r → integer (t ++ r) ≡ int (record { neg = neg; mag = mag }) (length t)
unfolding integer
written_read true mag [] r h g = absurd h
written_read true mag (b ∷ t) r h g = rw h.0 (said true 1 mag t r h.1 g ∙ ap (int (record { neg = true; mag = mag })) (omega arith))
written_read false mag [] r h g = absurd (omega (arith, h.some))
written_read false mag (b ∷ t) r h g = rw (ne_eqb b 45 (λ z. absurd (omega (arith, h.each.0.0, z)))) (said false 0 mag (b ∷ t) r h g ∙ ap (int (record { neg = false; mag = mag })) (omega arith))

plus_is_no_sign : (r : List ℕ) → integer (43 ∷ r) ≡ no_int
unfolding integer span
plus_is_no_sign r = refl

pub integers_as_written : IntegersAsWritten
integers_as_written = record { read = λ r n l e. subst (AsRead r) e (integer-read r); written = written_read; plus = plus_is_no_sign }
