-- Arguments one behind the other, and where each begins: integers and strings.
use Prim.Native.Nat.{ℕ, zero, suc, ◌+◌}
use native.Mathlib.Omega.{arith}
use mathlib.Core.Bool.{false}
use mathlib.Core.List.{List, [], ◌∷◌, ◌++◌, map}
use mathlib.Core.Logic.{inl, inr}
use mathlib.Core.Path.{◌≡◌, refl, sym, ap, subst, ◌∙◌}
use lib.Dec.{eqb}
use lib.ListN.{length, take, drop, take-append-drop, length-take}
use borrow.Author.Tests.{eqb-true, not-true, not-false}
use Rattle.rules.specs.Bytes.{is, is_space, is_not_white, is_white, spacer, unspaced, string, Num, Int, no_int, int, integer, Nums, short, nums, with_num, after_int, integers, is_present, many_integers, perhaps_integer}
use Rattle.rules.specs.Letters.{white_next, followed_by_white}
use Rattle.rules.specs.Drawing.{is_paired, in_pairs}
use Rattle.laws.proofs.Cases.{no, if_both, not_zero, All, Stops, all_span, length-span, drop-span}
use Rattle.laws_scan.specs.Texts.{Spacer, NoWhite, WhiteOrEnd}
use Rattle.laws_scan.proofs.Written.{AsRead, integer-read}
use Rattle.laws_scan.proofs.LineBreaks.{or_of}
use Rattle.laws_scan.proofs.Ignored.{spacer_of}
use Rattle.laws_arguments.specs.Arguments.{Argument, a_dummy, StringIs, ArgumentIs, Laid, none, next}

-- ---- one argument, and a list of them

-- r stands at k: a spacer, the argument, which begins at j, and t, which stands at l
pub record Begins (k : ℕ) (r : List ℕ) (x : Argument) (j l : ℕ) (t : List ℕ) : Type 0 where
  pub gap : List ℕ
  pub text : List ℕ
  pub bytes : r ≡ gap ++ (text ++ t)
  pub spaced : Spacer gap
  pub written : ArgumentIs x text t
  pub place : j ≡ k + length gap
  pub end : l ≡ j + length text

-- from r at k to t at l; js are the places of the arguments
abbrev pub LaidAt : ℕ → List ℕ → List Argument → List ℕ → ℕ → List ℕ → Type 0
LaidAt k r [] [] l t = (k ≡ l) × (r ≡ t)
LaidAt k r [] (j ∷ js) l t = ⊥
LaidAt k r (x ∷ xs) [] l t = ⊥
LaidAt k r (x ∷ xs) (j ∷ js) l t = (m : ℕ) × (v : List ℕ) × Begins k r x j m v × LaidAt m v xs js l t

pub laid_append : (k : ℕ) (r : List ℕ) (xs ys : List Argument) (ks js : List ℕ) (m : ℕ) (v : List ℕ) (l : ℕ) (t : List ℕ)
    → LaidAt k r xs ks m v → LaidAt m v ys js l t → LaidAt k r (xs ++ ys) (ks ++ js) l t
laid_append k r [] ys [] js m v l t h g = subst (λ (i : ℕ). LaidAt i r ys js l t) (sym h.0) (subst (λ (u : List ℕ). LaidAt m u ys js l t) (sym h.1) g)
laid_append k r [] ys (j ∷ ks) js m v l t h g = absurd h
laid_append k r (x ∷ xs) ys [] js m v l t h g = absurd h
laid_append k r (x ∷ xs) ys (j ∷ ks) js m v l t h g = (h.0, h.1, h.2, laid_append h.0 h.1 xs ys ks js m v l t h.3 g)

pub one_laid : (k : ℕ) (r : List ℕ) (x : Argument) (j l : ℕ) (t : List ℕ) → Begins k r x j l t → LaidAt k r (x ∷ []) (j ∷ []) l t
one_laid k r x j l t h = (l, t, h, (refl, refl))

-- the statement's relation, which has no places
pub nothing_laid : (k : ℕ) (r : List ℕ) → Laid k r [] k r
nothing_laid k r = none k r

pub one_more_laid : (k : ℕ) (r : List ℕ) (x : Argument) (xs : List Argument) (j m : ℕ) (v : List ℕ) (l : ℕ) (t : List ℕ) → Begins k r x j m v → Laid m v xs l t → Laid k r (x ∷ xs) l t
one_more_laid k r x xs j m v l t h g =
    let e : m ≡ k + length h.gap + length h.text = omega (arith, h.place, h.end) in
    subst (λ (u : List ℕ). Laid k u (x ∷ xs) l t) (sym h.bytes) (next k h.gap h.text v x xs l t h.spaced h.written (subst (λ (i : ℕ). Laid i v xs l t) e g))

-- ---- integers; all are taken as ignored ones, which have no other limit

number_begins : (k : ℕ) (r : List ℕ) (n : Num) (l : ℕ) → AsRead (unspaced r) (int n l) → Begins k r (a_dummy n) (k + spacer r) (k + spacer r + l) (drop l (unspaced r))
number_begins k r n l h =
    let s : List ℕ = take (spacer r) r in
    let u : List ℕ = unspaced r in
    record {
      gap = s;
      text = take l u;
      bytes = sym (ap (λ (x : List ℕ). s ++ x) (take-append-drop l u) ∙ take-append-drop (spacer r) r);
      spaced = spacer_of s (all_span is_space r);
      written = (h.1, h.2);
      place = omega (arith, length-span is_space r);
      end = omega (arith, h.0, length-take l u);
    }

abbrev pub NumsLaid : ℕ → List ℕ → Nums → Type 0
NumsLaid k r short = Unit {0}
NumsLaid k r (nums ns ks l t) = LaidAt k r (map a_dummy ns) ks l t

after_laid : (k : ℕ) (r : List ℕ) (go : ℕ → List ℕ → Nums) → ((j : ℕ) (t : List ℕ) → NumsLaid j t (go j t)) → NumsLaid k r (after_int (k + spacer r) (unspaced r) go (integer (unspaced r)))
after_laid k r go f = at_int (integer (unspaced r)) (integer-read (unspaced r))
  where
    one : (n : Num) (l : ℕ) (x : Nums) → AsRead (unspaced r) (int n l) → NumsLaid (k + spacer r + l) (drop l (unspaced r)) x → NumsLaid k r (with_num n (k + spacer r) x)
    one n l short h p = tt
    one n l (nums ns ks m t) h p = (k + spacer r + l, drop l (unspaced r), number_begins k r n l h, p)

    at_int : (x : Int) → AsRead (unspaced r) x → NumsLaid k r (after_int (k + spacer r) (unspaced r) go x)
    at_int no_int h = tt
    at_int (int n l) h = one n l (go (k + spacer r + l) (drop l (unspaced r))) h (f (k + spacer r + l) (drop l (unspaced r)))

pub integers_laid : (n k : ℕ) (r : List ℕ) → NumsLaid k r (integers n k r)
unfolding integers
integers_laid zero k r = (refl, refl)
integers_laid (suc n) k r = after_laid k r (λ j t. integers n j t) (λ j t. integers_laid n j t)

pub many_laid : (f k : ℕ) (r : List ℕ) → NumsLaid k r (many_integers f k r)
unfolding many_integers
many_laid zero k r = (refl, refl)
many_laid (suc f) k r = if_both (NumsLaid k r) (is_present (unspaced r)) _ (nums [] [] k r) (after_laid k r (λ j t. many_integers f j t) (λ j t. many_laid f j t)) (refl, refl)

pub perhaps_laid : (k : ℕ) (r : List ℕ) → NumsLaid k r (perhaps_integer k r)
unfolding perhaps_integer
perhaps_laid k r = if_both (NumsLaid k r) (is_present (unspaced r)) (integers 1 k r) (nums [] [] k r) (integers_laid 1 k r) (refl, refl)

pub pairs_laid : (k : ℕ) (r : List ℕ) (x : Nums) → NumsLaid k r x → NumsLaid k r (in_pairs x)
pairs_laid k r short h = tt
pairs_laid k r (nums ns ks l t) h = if_both (NumsLaid k r) (is_paired ns) (nums ns ks l t) short h tt

pub white_laid : (k : ℕ) (r : List ℕ) (x : Nums) → NumsLaid k r x → NumsLaid k r (followed_by_white x)
white_laid k r short h = tt
white_laid k r (nums ns ks l t) h = if_both (NumsLaid k r) (white_next t) (nums ns ks l t) short h tt

-- ---- strings and whitespace

pub no_white_of : (w : List ℕ) → All is_not_white w → NoWhite w
no_white_of [] h = tt
no_white_of (b ∷ w) h =
    let e : is_white b ≡ false = not-true (is_white b) h.0 in
    (λ z. no (sym e ∙ ap is_white z), λ z. no (sym e ∙ ap is_white z), λ z. no (sym e ∙ ap is_white z), no_white_of w h.1)

pub white-behind : (t : List ℕ) → Stops is_not_white t → WhiteOrEnd t
white-behind [] h = tt
white-behind (b ∷ t) h =
    or_of (WhiteOrEnd (b ∷ t)) (is_space b) (is "\n" b) (not-false (is_white b) h)
    (λ e. or_of (WhiteOrEnd (b ∷ t)) (is " " b) (is "\t" b) e (λ f. inl (eqb-true b 32 f)) (λ f. inr (inl (eqb-true b 9 f))))
    (λ e. inr (inr (eqb-true b 10 e)))

-- x is the string behind the spacer
pub string_begins : (k : ℕ) (r : List ℕ) (x : Argument) → eqb (string (unspaced r)) 0 ≡ false
    → ((w t : List ℕ) → StringIs (take (string (unspaced r)) (unspaced r)) w t → ArgumentIs x w t)
    → Begins k r x (k + spacer r) (k + spacer r + string (unspaced r)) (drop (string (unspaced r)) (unspaced r))
string_begins k r x e f =
    let s : List ℕ = take (spacer r) r in
    let u : List ℕ = unspaced r in
    let w : List ℕ = take (string u) u in
    let t : List ℕ = drop (string u) u in
    record {
      gap = s;
      text = w;
      bytes = sym (ap (λ (y : List ℕ). s ++ y) (take-append-drop (string u) u) ∙ take-append-drop (spacer r) r);
      spaced = spacer_of s (all_span is_space r);
      written = f w t (refl, omega (arith, length-span is_not_white u, not_zero (string u) e), no_white_of w (all_span is_not_white u), white-behind t (drop-span is_not_white u));
      place = omega (arith, length-span is_space r);
      end = omega (arith, length-span is_not_white u);
    }
