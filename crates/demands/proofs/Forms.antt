-- How glyphs, words, two digits and commands of one number are written: what is said of bytes is what the rules' tests say.
use Prim.Native.Nat.{ℕ, ◌+◌, ◌*◌, ◌-◌, ◌≤◌}
use native.Mathlib.Omega.{arith}
use mathlib.Core.Bool.{true, false}
use mathlib.Core.List.{List, [], ◌∷◌, ◌++◌}
use mathlib.Core.Logic.{◌⊎◌, inl, inr}
use mathlib.Core.Path.{◌≡◌, refl, ◌∙◌}
use lib.Dec.{leb}
use lib.ListN.{length}
use borrow.Author.Tests.{le-leb, leb-true}
use Rattle.rules.specs.Bytes.{is_space, is_not_white, is_not_newline, is_digit, most, origin, within, near}
use Rattle.rules.specs.Act.{across, down, glyph, index, to, by, page, font, size, just, word, pair}
use Rattle.rules.specs.Scan.{letter, got, bad, cleared, command}
use Rattle.rules.specs.Record.{shown}
use Rattle.rules.specs.House.{signed_decimal}
use Rattle.laws.specs.Barred.{Barred, SomeBarred}
use Rattle.laws.proofs.Cases.{All, Stops, on}
use Rattle.laws.proofs.Good.{all_true}
use Rattle.laws_arguments.proofs.Names.{cleared_none, cleared_some}
use Rattle.laws_find.specs.Written.{White, NoWhite, GoodName}
use Rattle.laws_find.proofs.Written.{not-white_false}
use Rattle.laws_print.proofs.Forms as print
use Rattle.laws_motion.specs.Motions.{InLimit}
use Rattle.laws_motion.proofs.Moved.{numbers_hold}
use Rattle.laws_scan.specs.Texts.{Spacer, NoDigit}
use Rattle.demands.specs.Demands.{LineBreak, NumberForms, FiveForms, BarredForms}

-- ---- spacers, strings, line breaks and the ends of numbers

spacer_all : (k : List ℕ) → Spacer k → All is_space k
spacer_all [] h = tt
spacer_all (b ∷ k) h = (go h.0, spacer_all k h.1)
  where
    go : (b ≡ 32) ⊎ (b ≡ 9) → is_space b ≡ true
    go (inl e) = rw e
    go (inr e) = rw e

space_no_digit : (b : ℕ) → (b ≡ 32) ⊎ (b ≡ 9) → is_digit b ≡ false
space_no_digit b (inl h) = rw h
space_no_digit b (inr h) = rw h

byte_not-white : (b : ℕ) → (White b → ⊥) → is_not_white b ≡ true
byte_not-white b h = rw (not-white_false b h)

string_all : (n : List ℕ) → NoWhite n → All is_not_white n
string_all [] h = tt
string_all (b ∷ n) h = (byte_not-white b h.0, string_all n h.1)

line_stops : (t : List ℕ) → LineBreak t → Stops is_not_newline t
line_stops [] h = tt
line_stops (b ∷ t) h = rw h

number_stops : (t : List ℕ) → NoDigit t → Stops is_digit t
number_stops [] h = tt
number_stops (b ∷ t) h =
    on (leb 48 b) (λ p. on (leb b 57) (λ q. absurd (h (leb-true 48 b p, leb-true b 57 q))) (λ q. rw (p, q))) (λ p. rw p)

-- ---- the forms

-- a barred byte is no whitespace
barred_not-white : (b : ℕ) → Barred b → White b → ⊥
barred_not-white b (inl h) (inl e) = omega arith
barred_not-white b (inl h) (inr (inl e)) = omega arith
barred_not-white b (inl h) (inr (inr e)) = omega arith
barred_not-white b (inr (inl h)) (inl e) = omega (arith, h)
barred_not-white b (inr (inl h)) (inr (inl e)) = omega (arith, h)
barred_not-white b (inr (inl h)) (inr (inr e)) = omega (arith, h)
barred_not-white b (inr (inr h)) (inl e) = omega arith
barred_not-white b (inr (inr h)) (inr (inl e)) = omega arith
barred_not-white b (inr (inr h)) (inr (inr e)) = omega arith

by_c : (k : List ℕ) (b : ℕ) (t : List ℕ) → Spacer k → (White b → ⊥) → command 99 (k ++ b ∷ t) ≡ cleared (just (glyph (b ∷ []))) (1 + length k) (2 + length k)
by_c k b t h w = print.by_c k b t (spacer_all k h) (byte_not-white b w)

by_C : (k : List ℕ) (b : ℕ) (n t : List ℕ) → Spacer k → NoWhite (b ∷ n) → length (b ∷ n) ≤ 64 → LineBreak t
    → command 67 (k ++ (b ∷ n ++ t)) ≡ cleared (just (glyph (b ∷ n))) (1 + length k) (1 + length k + length (b ∷ n))
by_C k b n t h g l e = print.by_C k b n t (spacer_all k h) (string_all (b ∷ n) g) l (line_stops t e)

by_t : (k : List ℕ) (b : ℕ) (bs t : List ℕ) → Spacer k → NoWhite (b ∷ bs) → LineBreak t
    → command 116 (k ++ (b ∷ bs ++ t)) ≡ cleared (word origin (b ∷ bs)) (1 + length k) (1 + length k + length (b ∷ bs))
by_t k b bs t h g e = print.by_t k b bs t (spacer_all k h) (string_all (b ∷ bs) g) (line_stops t e)

by_u : (k : List ℕ) (n c : ℕ) (l : List ℕ) (b : ℕ) (bs t : List ℕ) → Spacer k → InLimit (shown n) → Spacer (c ∷ l) → NoWhite (b ∷ bs) → LineBreak t
    → command 117 (k ++ (signed_decimal n ++ (c ∷ l ++ (b ∷ bs ++ t))))
    ≡ cleared (word n (b ∷ bs)) (1 + length k + length (signed_decimal n) + length (c ∷ l)) (1 + length k + length (signed_decimal n) + length (c ∷ l) + length (b ∷ bs))
by_u k n c l b bs t h i m g e = print.by_u k n c l b bs t (spacer_all k h) (numbers_hold.near_of n i) (spacer_all (c ∷ l) m) (space_no_digit c m.0) (string_all (b ∷ bs) g) (line_stops t e)

by_digits : (d e : ℕ) (k l : List ℕ) (b : ℕ) (t : List ℕ) → d ≤ 9 → e ≤ 9 → Spacer k → Spacer l → (White b → ⊥)
    → command (48 + d) (k ++ (48 + e) ∷ (l ++ b ∷ t)) ≡ cleared (pair (origin + (10 * d + e)) b) (2 + length k + length l) (3 + length k + length l)
by_digits d e k l b t p q h m w = print.by_digits d e k l b t p q (spacer_all k h) (spacer_all l m) (byte_not-white b w)

good_C : (k n t : List ℕ) → Spacer k → GoodName n → LineBreak t → command 67 (k ++ (n ++ t)) ≡ got (just (glyph n)) (1 + length k) (1 + length k + length n)
good_C k [] t h g e = absurd (let z : 1 ≤ 0 = g.some in omega arith)
good_C k (b ∷ n) t h g e = by_C k b n t h g.no_white g.few e ∙ cleared_none (just (glyph (b ∷ n))) _ _ g.no_barred

pub five_forms : FiveForms
five_forms = record {
  by_c = λ k b t h w f. by_c k b t h w ∙ cleared_none (just (glyph (b ∷ []))) _ _ (f, tt);
  by_C = good_C;
  by_t = λ k b bs t h g f e. by_t k b bs t h g e ∙ cleared_none (word origin (b ∷ bs)) _ _ f;
  by_u = λ k n c l b bs t h i m g f e. by_u k n c l b bs t h i m g e ∙ cleared_none (word n (b ∷ bs)) _ _ f;
  by_digits = λ d e k l b t p q h m w f. by_digits d e k l b t p q h m w ∙ cleared_none (pair (origin + (10 * d + e)) b) _ _ (f, tt);
}

barred_C : (k n t : List ℕ) → Spacer k → NoWhite n → length n ≤ 64 → SomeBarred n → LineBreak t → command 67 (k ++ (n ++ t)) ≡ bad 16 0
barred_C k [] t h g l f e = absurd f
barred_C k (b ∷ n) t h g l f e = by_C k b n t h g l e ∙ cleared_some (just (glyph (b ∷ n))) _ _ f

barred_t : (k bs t : List ℕ) → Spacer k → NoWhite bs → SomeBarred bs → LineBreak t → command 116 (k ++ (bs ++ t)) ≡ bad 16 0
barred_t k [] t h g f e = absurd f
barred_t k (b ∷ bs) t h g f e = by_t k b bs t h g e ∙ cleared_some (word origin (b ∷ bs)) _ _ f

barred_u : (k : List ℕ) (n c : ℕ) (l bs t : List ℕ) → Spacer k → InLimit (shown n) → Spacer (c ∷ l) → NoWhite bs → SomeBarred bs → LineBreak t
    → command 117 (k ++ (signed_decimal n ++ (c ∷ l ++ (bs ++ t)))) ≡ bad 16 0
barred_u k n c l [] t h i m g f e = absurd f
barred_u k n c l (b ∷ bs) t h i m g f e = by_u k n c l b bs t h i m g e ∙ cleared_some (word n (b ∷ bs)) _ _ f

pub barred_forms : BarredForms
barred_forms = record {
  by_c = λ k b t h f. by_c k b t h (barred_not-white b f) ∙ cleared_some (just (glyph (b ∷ []))) _ _ (inl f);
  by_C = barred_C;
  by_t = barred_t;
  by_u = barred_u;
  by_digits = λ d e k l b t p q h m f. by_digits d e k l b t p q h m (barred_not-white b f) ∙ cleared_some (pair (origin + (10 * d + e)) b) _ _ (inl f);
}

near_one : (n : ℕ) → near n ≡ true → all_true (near n ∷ []) ≡ true
near_one n g = rw g

-- a number from lo to hi, both moved up
range : (lo hi n : ℕ) → lo ≤ n → n ≤ hi → within lo hi n ≡ true
range lo hi n l m = rw (le-leb lo n l, le-leb n hi m)

pub number_forms : NumberForms
unfolding letter
number_forms = record {
  by_H = λ k n t h i s. let g : near n ≡ true = numbers_hold.near_of n i in print.one_number k n t (spacer_all k h) g (number_stops t s) (to across) (near_one n g) refl;
  by_h = λ k n t h i s. let g : near n ≡ true = numbers_hold.near_of n i in print.one_number k n t (spacer_all k h) g (number_stops t s) (by across) (near_one n g) refl;
  by_V = λ k n t h i s. let g : near n ≡ true = numbers_hold.near_of n i in print.one_number k n t (spacer_all k h) g (number_stops t s) (to down) (near_one n g) refl;
  by_v = λ k n t h i s. let g : near n ≡ true = numbers_hold.near_of n i in print.one_number k n t (spacer_all k h) g (number_stops t s) (by down) (near_one n g) refl;
  by_N = λ k n t h i s. let g : near n ≡ true = numbers_hold.near_of n i in print.one_number k n t (spacer_all k h) g (number_stops t s) index (near_one n g) refl;
  by_p = λ k n t h i s. let g : near n ≡ true = numbers_hold.near_of n i in print.one_number k n t (spacer_all k h) g (number_stops t s) page (near_one n g) refl;
  by_f = λ k n t h i s. print.one_number k n t (spacer_all k h) (range (origin - most) (origin + most) n (omega (arith, i)) (omega (arith, i))) (number_stops t s) font (rw (range origin (origin + 255) n i.0 i.1)) refl;
  by_s = λ k n t h i s. print.one_number k n t (spacer_all k h) (range (origin - most) (origin + most) n (omega (arith, i)) (omega (arith, i))) (number_stops t s) size (rw (range (origin + 1) (origin + most) n i.0 i.1)) refl;
}
