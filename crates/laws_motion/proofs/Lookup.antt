-- The rules' look-up of a width is the relation `Says`, both ways.
use Prim.Native.Nat.{ℕ}
use mathlib.Core.Bool.{true, false}
use mathlib.Core.List.{List, [], ◌∷◌}
use mathlib.Core.Logic.{inl, inr}
use mathlib.Core.Option.{some}
use mathlib.Core.Path.{◌≡◌, refl, sym, ap₂, ◌∙◌}
use lib.Dec.{eqb}
use borrow.Author.Tests.{eqb-true, eqb-false, eq-eqb, ne_eqb}
use Rattle.std.proofs.Math.Option.{some-injective, none-ne-some}
use Rattle.rules.specs.Bytes.{same}
use Rattle.rules.specs.Widths.{Width, Font, width_in, width_of}
use Rattle.laws.proofs.Cases.{on, no, and_left, and_right}
use Rattle.laws_motion.specs.Motions.{Paired, Says}

-- ---- equal bytes

same_eq : (xs ys : List ℕ) → same xs ys ≡ true → xs ≡ ys
unfolding same
same_eq [] [] h = refl
same_eq [] (y ∷ ys) h = no h
same_eq (x ∷ xs) [] h = no h
same_eq (x ∷ xs) (y ∷ ys) h = ap₂ (λ (a : ℕ) (l : List ℕ). a ∷ l) (eqb-true x y (and_left (eqb x y) (same xs ys) h)) (same_eq xs ys (and_right (eqb x y) (same xs ys) h))

same_self : (xs : List ℕ) → same xs xs ≡ true
unfolding same
same_self [] = refl
same_self (x ∷ xs) = rw (eq-eqb x x refl, same_self xs)

eq_same : (xs ys : List ℕ) → xs ≡ ys → same xs ys ≡ true
eq_same xs ys e = rw (← e) (same_self xs)

not_same : (xs ys : List ℕ) → same xs ys ≡ false → xs ≡ ys → ⊥
not_same xs ys h e = no (sym h ∙ eq_same xs ys e)

differ : (xs ys : List ℕ) → (xs ≡ ys → ⊥) → same xs ys ≡ false
differ xs ys h = on (same xs ys) (λ k. absurd (h (same_eq xs ys k))) (λ k. k)

-- ---- one value or none

-- ---- a pair

pair_says : (b x : ℕ) (ps : List Width) → width_in b ps ≡ some x → Paired b x ps
unfolding width_in
pair_says b x [] h = absurd (none-ne-some x h)
pair_says b x (p ∷ ps) h =
    on (eqb p.byte b) (λ k. inl (eqb-true p.byte b k, some-injective p.width x (rw k at h)))
    (λ k. inr (eqb-false p.byte b k, pair_says b x ps (rw k at h)))

said_pair : (b x : ℕ) (ps : List Width) → Paired b x ps → width_in b ps ≡ some x
unfolding width_in
said_pair b x [] h = absurd h
said_pair b x (p ∷ ps) (inl h) = rw (eq-eqb p.byte b h.0, h.1)
said_pair b x (p ∷ ps) (inr h) = rw (ne_eqb p.byte b h.0) (said_pair b x ps h.1)

-- ---- a block

pub width_says : (n : List ℕ) (b x : ℕ) (fs : List Font) → width_of n b fs ≡ some x → Says fs n b x
unfolding width_of
width_says n b x [] h = absurd (none-ne-some x h)
width_says n b x (f ∷ fs) h =
    on (same f.name n) (λ k. inl (same_eq f.name n k, pair_says b x f.widths (rw k at h)))
    (λ k. inr (not_same f.name n k, width_says n b x fs (rw k at h)))

pub said_width : (n : List ℕ) (b x : ℕ) (fs : List Font) → Says fs n b x → width_of n b fs ≡ some x
unfolding width_of
said_width n b x [] h = absurd h
said_width n b x (f ∷ fs) (inl h) = rw (eq_same f.name n h.0) (said_pair b x f.widths h.1)
said_width n b x (f ∷ fs) (inr h) = rw (differ f.name n h.0) (said_width n b x fs h.1)
