-- How glyphs, words, two digits and commands of one number are written, with spacers: each is scanned as the command that 01's table says,
-- with the place of its name and its length.
use Prim.Native.Nat.{ℕ, ◌+◌, ◌*◌, ◌-◌, ◌≤◌}
use native.Mathlib.Omega.{arith}
use mathlib.Core.Bool.{true, false}
use mathlib.Core.List.{List, [], ◌∷◌, ◌++◌, append-nil}
use mathlib.Core.Path.{◌≡◌, refl, ap}
use lib.ListN.{length}
use lib.Seq.{drop-append_seam, take-append_seam}
use borrow.Author.Tests.{not-true, not-false, eqb-true, ne_eqb, le-leb}
use Rattle.rules.specs.Bytes.{is, is_space, is_white, is_not_white, is_not_newline, is_digit, span, spacer, unspaced, origin, near, nums, integers, perhaps_integer}
use Rattle.rules.specs.Act.{Act, glyph, Cmd, just, word, pair}
use Rattle.rules.specs.Letters.{draft, with_one, named, with_dummy, second_digit}
use Rattle.rules.specs.Scan.{limits, name_of, letter, got, cleared, judged, command}
use Rattle.rules.specs.House.{signed_decimal}
use Rattle.laws.proofs.Cases.{not_or_left, All, Stops, span_all}
use Rattle.laws.proofs.Good.{all_true}
use Rattle.laws.proofs.Limits.{digit}
use Rattle.laws_print.proofs.Decimals.{num_of, moved_num_of, signed_back, signed_present, present_stops}
use Rattle.laws_print.proofs.Back.{outside_none}

-- ---- spacers, strings and line breaks

not-space : (b : ℕ) → is_not_white b ≡ true → is_space b ≡ false
not-space b h = not_or_left (is_space b) (is "\n" b) h

-- the length of a spacer in front of anything else
spaces : (k t : List ℕ) → All is_space k → Stops is_space t → spacer (k ++ t) ≡ length k
spaces k t h s = span_all is_space k t h s

newline : (b : ℕ) → is_not_newline b ≡ false → b ≡ 10
newline b h = eqb-true b 10 (not-false (is "\n" b) h)

line_stops : (t : List ℕ) → Stops is_not_newline t → Stops is_not_white t
line_stops [] h = tt
line_stops (b ∷ t) h = rw (newline b h)

-- a number behind a spacer
module _ (k : List ℕ) (n : ℕ) (t : List ℕ) (h : All is_space k) (g : near n ≡ true) (s : Stops is_digit t) where
  one_integer : integers 1 1 (k ++ (signed_decimal n ++ t)) ≡ nums (num_of n ∷ []) ((1 + length k) ∷ []) (1 + length k + length (signed_decimal n)) t
  unfolding integers
  one_integer =
      let z : Stops is_space (signed_decimal n ++ t) = present_stops (signed_decimal n ++ t) (signed_present n t g) in
      rw (spaces k (signed_decimal n ++ t) h z, drop-append_seam k (signed_decimal n ++ t), signed_back n g t s, drop-append_seam (signed_decimal n) t)

  pub one_number : (f : ℕ → Act) → all_true (limits (f n)) ≡ true → name_of (f n) ≡ []
      → judged (with_one f (integers 1 1 (k ++ (signed_decimal n ++ t)))) ≡ got (just (f n)) 0 (1 + length k + length (signed_decimal n))
  one_number f l e = rw (one_integer, moved_num_of n, append-nil (limits (f n)), outside_none (limits (f n)) ((1 + length k) ∷ []) l, e)

-- a string behind a spacer
named_form : (f : List ℕ → Cmd) (ks : List ℕ) (j : ℕ) (k : List ℕ) (b : ℕ) (bs t : List ℕ) → All is_space k → All is_not_white (b ∷ bs) → Stops is_not_newline t
    → named f ks j (k ++ (b ∷ bs ++ t)) ≡ draft (f (b ∷ bs)) [] (ks ++ (j + length k) ∷ []) (j + length k) (j + length k + length (b ∷ bs)) t
unfolding named
named_form f ks j k b bs t h g e =
    rw (
      spaces k (b ∷ bs ++ t) h (not-space b g.0),
      drop-append_seam k (b ∷ bs ++ t),
      span_all is_not_white (b ∷ bs) t g (line_stops t e),
      ne_eqb (length (b ∷ bs)) 0 (λ x. omega arith),
      take-append_seam (b ∷ bs) t,
      drop-append_seam (b ∷ bs) t,
    )

-- no dummy stands behind a word that ends its line
no_dummy : (c : Cmd) (ks : List ℕ) (a l : ℕ) (t : List ℕ) → Stops is_not_newline t → with_dummy (draft c [] ks a l t) ≡ draft c [] (ks ++ []) a l t
unfolding perhaps_integer span
no_dummy c ks a l [] h = refl
no_dummy c ks a l (b ∷ t) h = rw (newline b h)

-- ---- glyphs and words, up to the test of their bytes

pub by_c : (k : List ℕ) (b : ℕ) (t : List ℕ) → All is_space k → is_not_white b ≡ true → command 99 (k ++ b ∷ t) ≡ cleared (just (glyph (b ∷ []))) (1 + length k) (2 + length k)
unfolding letter
by_c k b t h w =
    rw (spaces k (b ∷ t) h (not-space b w), drop-append_seam k (b ∷ t), not-true (is_white b) w)
    (ap (cleared (just (glyph (b ∷ []))) (1 + length k)) (omega arith))

pub by_C : (k : List ℕ) (b : ℕ) (n t : List ℕ) → All is_space k → All is_not_white (b ∷ n) → length (b ∷ n) ≤ 64 → Stops is_not_newline t
    → command 67 (k ++ (b ∷ n ++ t)) ≡ cleared (just (glyph (b ∷ n))) (1 + length k) (1 + length k + length (b ∷ n))
unfolding letter
by_C k b n t h g l e = rw (named_form (λ m. just (glyph m)) [] 1 k b n t h g e, le-leb (length (b ∷ n)) 64 l)

pub by_t : (k : List ℕ) (b : ℕ) (bs t : List ℕ) → All is_space k → All is_not_white (b ∷ bs) → Stops is_not_newline t
    → command 116 (k ++ (b ∷ bs ++ t)) ≡ cleared (word origin (b ∷ bs)) (1 + length k) (1 + length k + length (b ∷ bs))
unfolding letter
by_t k b bs t h g e =
    rw (
      named_form (word origin) (1 ∷ []) 1 k b bs t h g e,
      no_dummy (word origin (b ∷ bs)) (1 ∷ (1 + length k) ∷ []) (1 + length k) (1 + length k + length (b ∷ bs)) t e,
    )

pub by_u : (k : List ℕ) (n c : ℕ) (l : List ℕ) (b : ℕ) (bs t : List ℕ) → All is_space k → near n ≡ true → All is_space (c ∷ l) → is_digit c ≡ false → All is_not_white (b ∷ bs) → Stops is_not_newline t
    → command 117 (k ++ (signed_decimal n ++ (c ∷ l ++ (b ∷ bs ++ t))))
    ≡ cleared (word n (b ∷ bs)) (1 + length k + length (signed_decimal n) + length (c ∷ l)) (1 + length k + length (signed_decimal n) + length (c ∷ l) + length (b ∷ bs))
unfolding letter
by_u k n c l b bs t h z m s g e =
    let j : ℕ = 1 + length k + length (signed_decimal n) in
    rw (
      one_integer k n (c ∷ l ++ (b ∷ bs ++ t)) h z s,
      moved_num_of n,
      named_form (word n) ((1 + length k) ∷ []) j (c ∷ l) b bs t m g e,
      no_dummy (word n (b ∷ bs)) ((1 + length k) ∷ (j + length (c ∷ l)) ∷ []) (j + length (c ∷ l)) (j + length (c ∷ l) + length (b ∷ bs)) t e,
      z,
    )

-- ---- two digits

-- a digit is no letter
digit_letter : (b : ℕ) (r : List ℕ) → b ≤ 57 → is_digit b ≡ true → letter b r ≡ second_digit b (1 + spacer r) (unspaced r)
unfolding letter
digit_letter b r l h =
    rw (
      ne_eqb b 99 (λ e. omega arith),
      ne_eqb b 67 (λ e. omega arith),
      ne_eqb b 78 (λ e. omega arith),
      ne_eqb b 116 (λ e. omega arith),
      ne_eqb b 117 (λ e. omega arith),
      ne_eqb b 72 (λ e. omega arith),
      ne_eqb b 104 (λ e. omega arith),
      ne_eqb b 86 (λ e. omega arith),
      ne_eqb b 118 (λ e. omega arith),
      ne_eqb b 112 (λ e. omega arith),
      ne_eqb b 102 (λ e. omega arith),
      ne_eqb b 115 (λ e. omega arith),
      ne_eqb b 109 (λ e. omega arith),
      ne_eqb b 110 (λ e. omega arith),
      ne_eqb b 119 (λ e. omega arith),
      ne_eqb b 68 (λ e. omega arith),
      ne_eqb b 120 (λ e. omega arith),
      h,
    )

pub by_digits : (d e : ℕ) (k l : List ℕ) (b : ℕ) (t : List ℕ) → d ≤ 9 → e ≤ 9 → All is_space k → All is_space l → is_not_white b ≡ true
    → command (48 + d) (k ++ (48 + e) ∷ (l ++ b ∷ t)) ≡ cleared (pair (origin + (10 * d + e)) b) (2 + length k + length l) (3 + length k + length l)
by_digits d e k l b t p q h m w =
    let s : is_space (48 + e) ≡ false = rw (ne_eqb (48 + e) 32 (λ x. omega arith), ne_eqb (48 + e) 9 (λ x. omega arith)) in
    rw (
      digit_letter (48 + d) (k ++ (48 + e) ∷ (l ++ b ∷ t)) (omega arith) (digit d (omega arith)),
      spaces k ((48 + e) ∷ (l ++ b ∷ t)) h s,
      drop-append_seam k ((48 + e) ∷ (l ++ b ∷ t)),
      digit e (omega arith),
      spaces l (b ∷ t) m (not-space b w),
      drop-append_seam l (b ∷ t),
      not-true (is_white b) w,
    )
    (λ i. cleared (pair (origin + value i) b) (name i) (len i))
  where
    value : (48 + d - 48) * 10 + (48 + e - 48) ≡ 10 * d + e
    value = omega arith

    name : 1 + length k + 1 + length l ≡ 2 + length k + length l
    name = omega arith

    len : 1 + length k + 1 + length l + 1 ≡ 3 + length k + length l
    len = omega arith
