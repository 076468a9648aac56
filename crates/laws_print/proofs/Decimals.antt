-- Printed numbers are read back: each is read as its sign and its magnitude, and these come to the number again.
use Rattle.std.specs.Prelude.{if◌then◌else◌}
use Prim.Native.Nat.{ℕ, zero, suc, ◌+◌, ◌*◌, ◌-◌, ◌/◌, ◌%◌, ◌^◌, ◌≤◌, ◌<◌}
use native.Mathlib.Omega.{arith}
use native.Mathlib.Nat.{zero-add}
use mathlib.Core.Bool.{Bool, true, false}
use mathlib.Core.List.{List, [], ◌∷◌, ◌++◌}
use mathlib.Core.Path.{◌≡◌, refl, ap}
use lib.Dec.{ltb, eqb, lit<}
use lib.ListN.{length, length-append}
use borrow.Author.Tests.{ne_eqb, eqb-true, ltb-true, ltb-false}
use Rattle.rules.specs.Bytes.{is, is_space, is_digit, value, Num, int, signed, integer, is_present, most, origin, moved, near}
use Rattle.rules.specs.House.{digits_of, decimal, signed_decimal}
use Rattle.laws.proofs.Cases.{on, no, All, Stops, All·append, span_all}
use Rattle.laws.proofs.Limits.{within_bounds, near_bounds, digit}

-- ---- digits

value_stops : (n : ℕ) (r : List ℕ) → Stops is_digit r → value n r ≡ n
unfolding value
value_stops n [] h = refl
value_stops n (b ∷ r) h = rw h

value_all : (n : ℕ) (xs r : List ℕ) → All is_digit xs → value n (xs ++ r) ≡ value (value n xs) r
unfolding value
value_all n [] r h = refl
value_all n (x ∷ xs) r h = rw h.0 (value_all (n * 10 + (x - 48)) xs r h.1)

digits_of_all : (f n : ℕ) → n < 10 ^ suc f → All is_digit (digits_of f n)
unfolding digits_of
digits_of_all zero n h = (digit n h, tt)
digits_of_all (suc f) n h =
    on (ltb n 10)
    (λ e. rw e (digit n (ltb-true n 10 e), tt))
    (λ e. rw e (All·append is_digit (digits_of f (n / 10)) ((48 + n % 10) ∷ []) (digits_of_all f (n / 10) (omega arith)) (digit (n % 10) (omega arith), tt)))

digits_of-value : (f n : ℕ) → n < 10 ^ suc f → value 0 (digits_of f n) ≡ n
unfolding digits_of value
digits_of-value zero n h = rw (digit n h) (omega arith)
digits_of-value (suc f) n h =
    on (ltb n 10)
    (λ e. rw (e, digit n (ltb-true n 10 e)) (omega arith))
    (λ e. rw (e, value_all 0 (digits_of f (n / 10)) ((48 + n % 10) ∷ []) (digits_of_all f (n / 10) (omega arith)), digits_of-value f (n / 10) (omega arith), digit (n % 10) (omega arith)) (omega arith))

digits_of_some : (f n : ℕ) → 0 < length (digits_of f n)
unfolding digits_of
digits_of_some zero n = omega arith
digits_of_some (suc f) n = on (ltb n 10) (λ e. rw e (omega arith)) (λ e. rw e (simp length-append (omega arith)))

-- a byte below `0` is no digit
digit_not : (b c : ℕ) → c < 48 → is_digit b ≡ true → eqb b c ≡ false
digit_not b c l h = let g : 48 ≤ b = (within_bounds 48 57 b h).0 in ne_eqb b c (λ e. omega arith)

-- a run of digits is read as its value
module _ (xs r : List ℕ) (a : All is_digit xs) (p : 0 < length xs) (k : Stops is_digit r) where
  signed-digits : (m : Bool) (l : ℕ) → signed m l (xs ++ r) ≡ int (record { neg = m; mag = value 0 xs }) (l + length xs)
  signed-digits m l =
      rw (span_all is_digit xs r a k, ne_eqb (length xs) 0 (λ e. omega arith), value_all 0 xs r a, value_stops (value 0 xs) r k)

  minus-digits : integer (45 ∷ (xs ++ r)) ≡ int (record { neg = true; mag = value 0 xs }) (1 + length xs)
  unfolding integer
  minus-digits = signed-digits true 1

plus-digits : (xs r : List ℕ) → All is_digit xs → 0 < length xs → Stops is_digit r
    → integer (xs ++ r) ≡ int (record { neg = false; mag = value 0 xs }) (length xs)
unfolding integer
plus-digits [] r a p k = absurd (omega arith)
plus-digits (b ∷ t) r a p k = rw (digit_not b 45 (lit< tt) a.0, signed-digits (b ∷ t) r a p k false 0, zero-add)

-- ---- decimals

plus-decimal : (n : ℕ) → n ≤ most → (r : List ℕ) → Stops is_digit r → integer (decimal n ++ r) ≡ int (record { neg = false; mag = n }) (length (decimal n))
unfolding decimal
plus-decimal n h r k =
    rw (plus-digits (digits_of 7 n) r (digits_of_all 7 n (omega arith)) (digits_of_some 7 n) k, digits_of-value 7 n (omega arith))

minus-decimal : (n : ℕ) → n ≤ most → (r : List ℕ) → Stops is_digit r → integer (45 ∷ (decimal n ++ r)) ≡ int (record { neg = true; mag = n }) (1 + length (decimal n))
unfolding decimal
minus-decimal n h r k =
    rw (minus-digits (digits_of 7 n) r (digits_of_all 7 n (omega arith)) (digits_of_some 7 n) k, digits_of-value 7 n (omega arith))

-- the number as it is written
abbrev pub num_of : ℕ → Num
num_of n = if ltb n origin then record { neg = true; mag = origin - n } else record { neg = false; mag = n - origin }

-- A printed number, in front of anything that begins with no digit, is read back.
pub signed_back : (n : ℕ) → near n ≡ true → (r : List ℕ) → Stops is_digit r
    → integer (signed_decimal n ++ r) ≡ int (num_of n) (length (signed_decimal n))
unfolding signed_decimal
signed_back n h r k =
    let b : (origin - most ≤ n) × (n ≤ origin + most) = near_bounds n h in
    on (ltb n origin)
    (λ e. rw (e, minus-decimal (origin - n) (omega arith) r k) (ap (int (record { neg = true; mag = origin - n })) (omega arith)))
    (λ e. rw e (plus-decimal (n - origin) (omega arith) r k))

pub moved_num_of : (n : ℕ) → moved (num_of n) ≡ n
moved_num_of n =
    on (ltb n origin)
    (λ e. rw e (let l : n < origin = ltb-true n origin e in omega arith))
    (λ e. rw e (let l : origin ≤ n = ltb-false n origin e in omega arith))

-- ---- what a printed number begins with

decimal_present : (n : ℕ) (r : List ℕ) → n ≤ most → is_present (decimal n ++ r) ≡ true
unfolding decimal
decimal_present n r h = go (digits_of 7 n) (digits_of_all 7 n (omega arith)) (digits_of_some 7 n)
  where
    go : (l : List ℕ) → All is_digit l → 0 < length l → is_present (l ++ r) ≡ true
    go [] a p = absurd (omega arith)
    go (b ∷ t) a p = rw (digit_not b 45 (lit< tt) a.0, a.0)

pub signed_present : (n : ℕ) (r : List ℕ) → near n ≡ true → is_present (signed_decimal n ++ r) ≡ true
unfolding signed_decimal
signed_present n r h =
    let b : (origin - most ≤ n) × (n ≤ origin + most) = near_bounds n h in
    on (ltb n origin) (λ e. rw e) (λ e. rw e (decimal_present (n - origin) r (omega arith)))

-- where an integer is present there is no space
pub present_stops : (r : List ℕ) → is_present r ≡ true → Stops is_space r
present_stops [] h = no h
present_stops (b ∷ r) h =
    on (is "-" b)
    (λ e. rw (eqb-true b 45 e))
    (λ e. let d : is_digit b ≡ true = rw e at h in rw (digit_not b 32 (lit< tt) d, digit_not b 9 (lit< tt) d))
