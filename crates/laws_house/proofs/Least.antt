-- No bytes that say a number are fewer than its digits.
use Prim.Native.Nat.{ℕ, zero, suc, ◌+◌, ◌*◌, ◌-◌, ◌/◌, ◌%◌, ◌^◌, ◌≤◌, ◌<◌}
use native.Mathlib.Omega.{arith}
use native.Mathlib.Nat.{mul-le-mul_right, one-le-pow, pow-suc, pow-le-pow_right, lt_of_not-le}
use mathlib.Core.Bool.{Bool, true, false}
use mathlib.Core.List.{List, [], ◌∷◌}
use mathlib.Core.Path.{◌≡◌, refl, ap, subst}
use lib.Dec.{ltb, eqb}
use lib.ListN.{length, length-append}
use borrow.Author.Tests.{le-leb, ne_eqb, ltb-true, ltb-false}
use Rattle.rules.specs.Bytes.{is, is_digit, span, digits, value, Num, Int, no_int, int, signed, integer, origin, moved}
use Rattle.rules.specs.House.{digits_of, decimal, signed_decimal}
use Rattle.laws.proofs.Cases.{on, if_both, if_on, not_zero}
use Rattle.laws.proofs.Limits.{within_bounds}
use Rattle.laws_house.specs.Lines.{Each, Leading, nought, positive, negative}
use Rattle.laws_house.specs.Statements.{Least, ShortestIsLeast, ShortestNumber}

-- ---- how large a number of so many digits is

-- one digit c more, p being a power of ten
step_below : (n c p v : ℕ) → c ≤ 9 → v < (n * 10 + c + 1) * p → v < (n + 1) * (p * 10)
step_below n c p v h g = let q : n * 10 + c + 1 ≤ (n + 1) * 10 = omega arith in omega (arith, mul-le-mul_right p q)

step_above : (n c p v : ℕ) → (n * 10 + c) * p ≤ v → n * (p * 10) ≤ v
step_above n c p v g = let q : n * 10 ≤ n * 10 + c = omega arith in omega (arith, mul-le-mul_right p q)

value_below : (n : ℕ) (r : List ℕ) → value n r < (n + 1) * 10 ^ digits r
unfolding value span
value_below n [] = omega arith
value_below n (b ∷ r) =
    on (is_digit b)
    (λ e.
    let h : b ≤ 57 = (within_bounds 48 57 b e).1 in
    rw (e, pow-suc) (step_below n (b - 48) (10 ^ digits r) (value (n * 10 + (b - 48)) r) (omega arith) (value_below (n * 10 + (b - 48)) r)))
    (λ e. rw e (omega arith))

value_above : (n : ℕ) (ds : List ℕ) → Each is_digit ds → n * 10 ^ length ds ≤ value n ds
unfolding value
value_above n [] h = omega arith
value_above n (b ∷ ds) h =
    rw (h.0, pow-suc) (step_above n (b - 48) (10 ^ length ds) (value (n * 10 + (b - 48)) ds) (value_above (n * 10 + (b - 48)) ds h.1))

-- ---- what an integer says, by its length

abbrev sign_length : Bool → ℕ
sign_length true = 1
sign_length false = 0

record Says (m : Num) (l : ℕ) : Type 0 where
  count : ℕ
  some : 1 ≤ count
  long : l ≡ sign_length m.neg + count
  below : m.mag < 10 ^ count

abbrev SaysInt : Int → Type 0
SaysInt no_int = Unit {0}
SaysInt (int m l) = Says m l

signed_says : (s : Bool) (r : List ℕ) → SaysInt (signed s (sign_length s) r)
signed_says s r =
    if_on SaysInt (eqb (digits r) 0) no_int _ (λ e. tt)
    (λ e. record { count = digits r; some = not_zero (digits r) e; long = refl; below = omega (arith, value_below 0 r) })

integer_says : (r : List ℕ) → SaysInt (integer r)
unfolding integer
integer_says [] = tt
integer_says (b ∷ r) = if_both SaysInt (is "-" b) (signed true 1 r) (signed false 0 (b ∷ r)) (signed_says true r) (signed_says false (b ∷ r))

says : (r : List ℕ) (m : Num) (l : ℕ) → integer r ≡ int m l → Says m l
says r m l h = subst SaysInt h (integer_says r)

-- ---- numbers as the rules spell them

digits_of-length : (f d n : ℕ) → 1 ≤ d → n < 10 ^ d → length (digits_of f n) ≤ d
unfolding digits_of
digits_of-length zero d n p h = p
digits_of-length (suc f) zero n p h = absurd (omega arith)
digits_of-length (suc f) (suc zero) n p h = on (ltb n 10) (λ e. rw e p) (λ e. let l : 10 ≤ n = ltb-false n 10 e in absurd (omega arith))
digits_of-length (suc f) (suc (suc d)) n p h =
    on (ltb n 10) (λ e. rw e (omega arith))
    (λ e. rw e (omega (arith, length-append (digits_of f (n / 10)) ((48 + n % 10) ∷ []), digits_of-length f (suc d) (n / 10) (omega arith) (omega arith))))

module _ (n : ℕ) (m : Num) (l : ℕ) (s : Says m l) (e : moved m ≡ n) where
  short : (x : ℕ) → x ≤ m.mag → length (decimal x) ≤ s.count
  unfolding decimal
  short x h = digits_of-length 7 s.count x s.some (omega (arith, s.below))

  number_short : length (signed_decimal n) ≤ l
  unfolding signed_decimal
  number_short =
      on m.neg
      (λ k.
      let a : origin - m.mag ≡ n = rw k at e in
      let b : l ≡ 1 + s.count = rw k at s.long in
      on (ltb n origin)
      (λ j. rw j (omega (arith, short (origin - n) (omega arith))))
      (λ j. rw j (omega (arith, short (n - origin) (omega arith)))))
      (λ k.
      let a : origin + m.mag ≡ n = rw k at e in
      let b : l ≡ 0 + s.count = rw k at s.long in
      on (ltb n origin)
      (λ j. let c : n < origin = ltb-true n origin j in absurd (omega arith))
      (λ j. rw j (omega (arith, short (n - origin) (omega arith)))))

pub shortest_number : ShortestNumber
shortest_number n r m l h e = number_short n m l (says r m l h) e

-- ---- the integers of the grammar

each_span : (p : ℕ → Bool) (l : List ℕ) → Each p l → span p l ≡ length l
unfolding span
each_span p [] h = refl
each_span p (b ∷ l) h = rw h.0 (ap suc (each_span p l h.1))

fewer_digits : (i j : ℕ) → 10 ^ i < 10 ^ j → i < j
fewer_digits i j h = lt_of_not-le (λ (g : j ≤ i). let p : 10 ^ j ≤ 10 ^ i = pow-le-pow_right (omega arith) g in absurd (omega arith))

module _ (d : ℕ) (ds : List ℕ) (h : Leading d ds) where
  leading_digits : Each is_digit (d ∷ ds)
  leading_digits = (rw (le-leb 48 d (omega (arith, h.least)), le-leb d 57 h.most), h.rest)

  leading_value : 10 ^ length ds ≤ value 0 (d ∷ ds)
  unfolding value
  leading_value =
      let g : 1 ≤ 0 * 10 + (d - 48) = omega (arith, h.least) in
      rw leading_digits.0 (omega (arith, value_above (0 * 10 + (d - 48)) ds h.rest, mul-le-mul_right (10 ^ length ds) g))

  leading_some : 1 ≤ value 0 (d ∷ ds)
  leading_some = omega (arith, leading_value, one-le-pow (length ds) 10 (omega arith))

  leading_reads : (s : Bool) (l : ℕ) → sign_length s + suc (length ds) ≡ l → signed s (sign_length s) (d ∷ ds) ≡ int (record { neg = s; mag = value 0 (d ∷ ds) }) l
  leading_reads s l q = rw (each_span is_digit (d ∷ ds) leading_digits, ne_eqb (suc (length ds)) 0 (λ e. omega arith), q)

  -- a number of this magnitude or more has as many digits
  leading_fewest : (m : Num) (l : ℕ) (s : Says m l) → value 0 (d ∷ ds) ≤ m.mag → sign_length m.neg + suc (length ds) ≤ l
  leading_fewest m l s g = omega (arith, s.long, fewer_digits (length ds) s.count (omega (arith, leading_value, s.below)))

  positive_least : Least (d ∷ ds)
  unfolding integer
  positive_least = record {
    number = record { neg = false; mag = value 0 (d ∷ ds) };
    reads = rw (ne_eqb d 45 (λ e. omega (arith, h.least))) (leading_reads false (suc (length ds)) (omega arith));
    fewest = λ r m l e g b.
        on m.neg
        (λ k. let a : origin - m.mag ≡ origin + value 0 (d ∷ ds) = rw k at g in absurd (omega (arith, leading_some)))
        (λ k. let a : origin + m.mag ≡ origin + value 0 (d ∷ ds) = rw k at g in omega (arith, rw k at (leading_fewest m l (says r m l e) (omega arith))));
  }

  negative_least : Least (45 ∷ d ∷ ds)
  unfolding integer
  negative_least = record {
    number = record { neg = true; mag = value 0 (d ∷ ds) };
    reads = leading_reads true (suc (suc (length ds))) (omega arith);
    fewest = λ r m l e g b.
        on m.neg
        (λ k. let a : origin - m.mag ≡ origin - value 0 (d ∷ ds) = rw k at g in omega (arith, rw k at (leading_fewest m l (says r m l e) (omega arith))))
        (λ k. let a : origin + m.mag ≡ origin - value 0 (d ∷ ds) = rw k at g in absurd (omega (arith, leading_some)));
  }

pub shortest_is_least : ShortestIsLeast
unfolding integer span value
shortest_is_least x nought =
    record { number = record { neg = false; mag = 0 }; reads = refl; fewest = λ r m l e g b. let s : Says m l = says r m l e in omega (arith, s.some, s.long) }
shortest_is_least x (positive d ds h) = positive_least d ds h
shortest_is_least x (negative d ds h) = negative_least d ds h
