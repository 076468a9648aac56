-- A number's digits, from the last one to the first.
use Prim.Native.Nat.{ℕ, zero, suc, ◌+◌, ◌-◌, ◌/◌, ◌%◌, ◌^◌, ◌≤◌, ◌<◌}
use native.Mathlib.Omega.{arith}
use mathlib.Core.List.{List, [], ◌∷◌, ◌++◌, append-nil}
use mathlib.Core.Path.{◌≡◌, refl, sym, ap, ◌∙◌}
use borrow.Author.Tests.{lt-ltb, le-ltb}
use lib.ListN.{length, take, drop, set, length-set, length-drop, length-append}
use lib.Seq.{append_snoc, take_all, drop-set-lt, get_or-set_same}
use Rattle.rules.specs.House.{digits_of, decimal}
use Rattle.laws_scan.proofs.Walk.{cons_at}
use Rattle.respell_model.specs.Sheet.{put_all, small}
use Rattle.respell_model.proofs.Sheets.{small-most}
use Rattle.respell_bytes.specs.Onward.{onward}
use Rattle.respell_bytes.proofs.Putting.{sheet, text_out}

digits_one : (i m : ℕ) → m ≤ 9 → digits_of i m ≡ (48 + m) ∷ []
unfolding digits_of
digits_one zero m h = refl
digits_one (suc i) m h = rw (lt-ltb m 10 (omega arith))

digits_more : (i m : ℕ) → 9 < m → digits_of (suc i) m ≡ digits_of i (m / 10) ++ ((48 + m % 10) ∷ [])
unfolding digits_of
digits_more i m h = rw (le-ltb m 10 (omega arith))

-- the digits behind place i stand in ds; m has the others, at most i + 1
pub record Digits (n : ℕ) (ds : List ℕ) (i m : ℕ) : Type 0 where
  pub size : length ds ≡ 8
  pub within : i ≤ 7
  pub few : m < 10 ^ suc i
  pub whole : decimal n ≡ digits_of i m ++ drop (i + 1) ds

pub digits-start : (n m : ℕ) → m ≡ small n → Digits (small n) (0 ∷ 0 ∷ 0 ∷ 0 ∷ 0 ∷ 0 ∷ 0 ∷ 0 ∷ []) 7 m
unfolding decimal
digits-start n m e = record {
  size = refl;
  within = omega arith;
  few = omega (arith, small-most n);
  whole = rw e (sym (append-nil (digits_of 7 (small n))));
}

module _ (n : ℕ) (ds : List ℕ) (i m : ℕ) (v : Digits n ds i m) where
  pub digits_place : i < length ds
  digits_place = omega (arith, v.size, v.within)

  pub digits_size : length ds ≡ 8
  digits_size = v.size

  pub digits_room : (d : ℕ) → 8 ≤ length (set ds i d)
  digits_room d = omega (arith, length-set ds i d, v.size)

  pub digits_left : 9 < m → 0 < i
  digits_left h = go i v.few
    where
      go : (i : ℕ) → m < 10 ^ suc i → 0 < i
      go zero f = absurd (omega arith)
      go (suc i) f = omega arith

  pub digits_less : 9 < m → i - 1 < i
  digits_less h = omega (arith, digits_left h)

  pub digits-next : 9 < m → Digits n (set ds i (48 + m % 10)) (i - 1) (m / 10)
  digits-next h = go i v
    where
      go : (i : ℕ) → Digits n ds i m → Digits n (set ds i (48 + m % 10)) (i - 1) (m / 10)
      go zero w = absurd (omega (arith, w.few))
      go (suc i) w =
          let d : ℕ = 48 + m % 10 in
          let back : suc i - 1 ≡ i = omega arith in
          let on : i + 1 ≡ suc i = omega arith in
          let inside : suc i < length ds = omega (arith, w.size, w.within) in
          let inside' : suc i < length (set ds (suc i) d) = omega (arith, length-set ds (suc i) d) in
          let tail : drop (suc i) (set ds (suc i) d) ≡ d ∷ drop (suc i + 1) ds =
          cons_at (set ds (suc i) d) (suc i) inside' ∙ rw (get_or-set_same ds (suc i) d 0 inside, drop-set-lt (suc i + 1) ds (suc i) d (omega arith)) in
          rw back record {
            size = length-set ds (suc i) d ∙ w.size;
            within = omega (arith, w.within);
            few = omega (arith, w.few);
            whole = w.whole ∙ rw (digits_more i m h, on, tail) (append_snoc (digits_of i (m / 10)) d (drop (suc i + 1) ds));
          }

  digits_last : m ≤ 9 → take (8 - i) (drop i (set ds i (48 + m))) ≡ decimal n
  digits_last h =
      let d : ℕ = 48 + m in
      let inside : i < length ds = digits_place in
      let inside' : i < length (set ds i d) = omega (arith, length-set ds i d) in
      take_all (8 - i) (drop i (set ds i d)) (omega (arith, length-drop i (set ds i d), length-set ds i d, v.size))
      ∙ cons_at (set ds i d) i inside'
      ∙ rw (get_or-set_same ds i d 0 inside, drop-set-lt (i + 1) ds i d (omega arith), v.whole, digits_one i m h)

  pub digits-put : (o q : List ℕ) (at r : ℕ) → m ≤ 9 → sheet q r ≡ put_all (take (8 - i) (drop i (set ds i (48 + m)))) (sheet o at) → sheet q r ≡ put_all (decimal n) (sheet o at)
  digits-put o q at r h e = e ∙ ap (λ (t : List ℕ). put_all t (sheet o at)) (digits_last h)

pub ruleset writing = (digits-start, digits_place, digits_size, digits_room, digits_left, digits_less, digits-next, digits-put)

-- ---- how many they are

pow_some : (k : ℕ) → 1 ≤ 10 ^ k
pow_some zero = omega arith
pow_some (suc k) = omega (arith, pow_some k)

-- a number from 10 ^ k up has one more than k
digits_as_many : (i m k : ℕ) → k ≤ i → 10 ^ k ≤ m → m < 10 ^ suc k → length (digits_of i m) ≡ suc k
digits_as_many i m zero h a b = rw (digits_one i m (omega arith)) refl
digits_as_many zero m (suc k) h a b = absurd (omega arith)
digits_as_many (suc i) m (suc k) h a b =
    let more : 9 < m = let y : 1 ≤ 10 ^ k = pow_some k in omega (arith, y, a) in
    let rest : length (digits_of i (m / 10)) ≡ suc k = digits_as_many i (m / 10) k (omega arith) (omega (arith, a)) (omega (arith, b)) in
    rw (digits_more i m more) (length-append (digits_of i (m / 10)) ((48 + m % 10) ∷ []) ∙ omega (arith, rest))

module _ (n m : ℕ) (e : m ≡ small n) where
  abbrev As : ℕ → Type 0
  As k = k ≡ length (decimal (small n))

  as_many : (k : ℕ) → k ≤ 7 → 10 ^ k ≤ m → m < 10 ^ suc k → As (suc k)
  unfolding decimal
  as_many k h a b = rw (← e) (sym (digits_as_many 7 m k h a b))

  pub count_1 : m ≤ 9 → As 1
  unfolding decimal
  count_1 h = rw (← e) (sym (ap length (digits_one 7 m h)))

  pub count_2 : 10 ≤ m → m ≤ 99 → As 2
  count_2 a b = as_many 1 (omega arith) (omega arith) (omega arith)

  pub count_3 : 100 ≤ m → m ≤ 999 → As 3
  count_3 a b = as_many 2 (omega arith) (omega arith) (omega arith)

  pub count_4 : 1000 ≤ m → m ≤ 9999 → As 4
  count_4 a b = as_many 3 (omega arith) (omega arith) (omega arith)

  pub count_5 : 10000 ≤ m → m ≤ 99999 → As 5
  count_5 a b = as_many 4 (omega arith) (omega arith) (omega arith)

  pub count_6 : 100000 ≤ m → m ≤ 999999 → As 6
  count_6 a b = as_many 5 (omega arith) (omega arith) (omega arith)

  pub count_7 : 1000000 ≤ m → m ≤ 9999999 → As 7
  count_7 a b = as_many 6 (omega arith) (omega arith) (omega arith)

  pub count_8 : 10000000 ≤ m → As 8
  count_8 a = as_many 7 (omega arith) (omega arith) (omega (arith, e, small-most n))

pub digits_out : (n : ℕ) (o : List ℕ) (at r count : ℕ) → length o ≤ at → count ≡ length (decimal n) → r ≡ onward count at → sheet o r ≡ put_all (decimal n) (sheet o at)
digits_out n o at r count h c e = text_out (decimal n) o at r h (e ∙ ap (λ (k : ℕ). onward k at) c)

pub ruleset counting = (count_1, count_2, count_3, count_4, count_5, count_6, count_7, count_8, digits_out)
