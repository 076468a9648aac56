-- What is said of the argument at fault holds at one place alone: letters, spacers, integers and strings end where the rules' tests say.
use Rattle.std.specs.Prelude.{if◌then◌else◌}
use Prim.Native.Nat.{ℕ, suc, ◌+◌}
use native.Mathlib.Omega.{arith}
use mathlib.Core.Bool.{true, false}
use mathlib.Core.List.{List, [], ◌∷◌, ◌++◌, append_assoc}
use mathlib.Core.Logic.{◌⊎◌, inl, inr}
use mathlib.Core.Path.{◌≡◌, refl, sym, ap, ap₂, subst, ◌∙◌}
use lib.Dec.{eqb}
use lib.ListN.{length, drop, length-append}
use borrow.Author.Tests.{ne_eqb}
use lib.Seq.{drop-append_seam}
use Rattle.rules.specs.Bytes.{is, is_space, is_not_white, spacer, unspaced, string, Num, Int, no_int, int, integer}
use Rattle.rules.specs.Letters.{Draft, fault, draft}
use Rattle.laws.proofs.Cases.{if_both, Stops, span_all}
use Rattle.laws_scan.specs.Texts.{Spacer, NoWhite, WhiteOrEnd, Digits, Written}
use Rattle.laws_scan.proofs.Written.{integers_as_written}
use Rattle.laws_scan.proofs.LineBreaks.{are_spaces, are_not-white, white_stops}
use Rattle.laws_arguments.specs.Arguments.{Argument, a_number, a_dummy, one_too_many, a_name, a_word, a_text, ArgumentWithin, AllWithin, arguments_of, written_by, NoSpace, CommandLetters, one_letter, of_m, of_D, of_DF, of_x, NumberIs, StringIs, ArgumentIs, Laid, none, next, OutsideAt}
use Rattle.laws_arguments.proofs.Stands.{NoText}
use Rattle.laws_arguments.proofs.Letters.{LaidOut, Unlaid, unlaid_within, DraftLaid, letter_laid}

-- ---- an argument

-- no argument begins with a space or tab
no_space : (b : ℕ) (r : List ℕ) → NoSpace (b ∷ r) → Stops is_space (b ∷ r)
no_space b r h = rw (ne_eqb b 32 h.0, ne_eqb b 9 h.1)

digits-stop : (mag : ℕ) (w t : List ℕ) → Digits mag w → Stops is_space (w ++ t)
digits-stop mag [] t h = absurd (omega (arith, h.some))
digits-stop mag (b ∷ w) t h = no_space b (w ++ t) (λ z. absurd (omega (arith, h.each.0.0, z)), λ z. absurd (omega (arith, h.each.0.0, z)))

number_stops : (m : Num) (w t : List ℕ) → NumberIs m w t → Stops is_space (w ++ t)
number_stops m w t h = go m.neg w h.0
  where
    go : (b : _) (w : List ℕ) → Written b m.mag w → Stops is_space (w ++ t)
    go true [] h = absurd h
    go true (b ∷ w) h = no_space b (w ++ t) (λ z. absurd (omega (arith, h.0, z)), λ z. absurd (omega (arith, h.0, z)))
    go false w h = digits-stop m.mag w t h

string_stops : (n w t : List ℕ) → StringIs n w t → Stops is_space (w ++ t)
string_stops n [] t h = absurd (omega (arith, h.1))
string_stops n (b ∷ w) t h = no_space b (w ++ t) (h.2.0, h.2.1)

text_stops : (r : List ℕ) → NoSpace r → Stops is_space r
text_stops [] h = tt
text_stops (b ∷ r) h = no_space b r h

argument_stops : (x : Argument) (w t : List ℕ) → ArgumentIs x w t → Stops is_space (w ++ t)
argument_stops (a_number lo hi n) w t h = number_stops h.0 w t h.2
argument_stops (a_dummy m) w t h = number_stops m w t h
argument_stops (one_too_many n) w t h = number_stops h.0 w t h.2
argument_stops (a_name n) w t h = string_stops n w t h
argument_stops (a_word n) w t h = string_stops n w t h
argument_stops (a_text x) w t h = text_stops (w ++ t) h.0

-- how long the argument at the front of r is
abbrev int_length : Int → ℕ
int_length no_int = 0
int_length (int n l) = l

abbrev long_as : Argument → List ℕ → ℕ
long_as (a_number lo hi n) r = int_length (integer r)
long_as (a_dummy m) r = int_length (integer r)
long_as (one_too_many n) r = int_length (integer r)
long_as (a_name n) r = string r
long_as (a_word n) r = string r
long_as (a_text t) r = 0

number_long : (m : Num) (w t : List ℕ) → NumberIs m w t → int_length (integer (w ++ t)) ≡ length w
number_long m w t h = ap int_length (integers_as_written.written m.neg m.mag w t h.0 h.1)

string_long : (w t : List ℕ) → NoWhite w → WhiteOrEnd t → string (w ++ t) ≡ length w
string_long w t h g = span_all is_not_white w t (are_not-white w h) (white_stops t g)

argument_long : (x : Argument) (w t : List ℕ) → NoText (x ∷ []) → ArgumentIs x w t → long_as x (w ++ t) ≡ length w
argument_long (a_number lo hi n) w t q h = number_long h.0 w t h.2
argument_long (a_dummy m) w t q h = number_long m w t h
argument_long (one_too_many n) w t q h = number_long h.0 w t h.2
argument_long (a_name n) w t q h = string_long w t h.2 h.3
argument_long (a_word n) w t q h = string_long w t h.2 h.3
argument_long (a_text x) w t q h = absurd (q.0 tt)

-- ---- arguments

spacer_long : (s t : List ℕ) → Spacer s → Stops is_space t → spacer (s ++ t) ≡ length s
spacer_long s t h g = span_all is_space s t (are_spaces s h) g

-- where the argument behind xs begins, which stand in r at k
abbrev place_behind : ℕ → List ℕ → List Argument → ℕ
place_behind k r [] = k + spacer r
place_behind k r (x ∷ xs) =
    let l = long_as x (unspaced r) in
    place_behind (k + spacer r + l) (drop l (unspaced r)) xs

front_is : (P : ℕ → List ℕ → Type 0) (n : ℕ) (s t : List ℕ) → n ≡ length s → P (length s) t → P n (drop n (s ++ t))
front_is P n s t e h = rw (e, drop-append_seam s t) h

place_behind_lem : (k : ℕ) (r : List ℕ) (xs : List Argument) (l : ℕ) (u : List ℕ) → Laid k r xs l u → NoText xs → (gap text behind : List ℕ) (x : Argument) → u ≡ gap ++ (text ++ behind) → Spacer gap
    → ArgumentIs x text behind → l + length gap ≡ place_behind k r xs
place_behind_lem k r xs l u (none j t) q gap text behind x e s h =
    let n : spacer t ≡ length gap = ap spacer e ∙ spacer_long gap (text ++ behind) s (argument_stops x text behind h) in
    omega (arith, n)
place_behind_lem k r xs l u (next j g w t y ys m v s₁ h₁ more) q gap text behind x e s h =
    let far : spacer (g ++ (w ++ t)) ≡ length g = spacer_long g (w ++ t) s₁ (argument_stops y w t h₁) in
    let long : long_as y (w ++ t) ≡ length w = argument_long y w t (q.0, tt) h₁ in
    front_is (λ (i : ℕ) (p : List ℕ). l + length gap ≡ place_behind (k + i + long_as y p) (drop (long_as y p) p) ys) (spacer (g ++ (w ++ t))) g (w ++ t) far
    (front_is (λ (i : ℕ) (p : List ℕ). l + length gap ≡ place_behind (k + length g + i) p ys) (long_as y (w ++ t)) w t long
    (place_behind_lem (k + length g + length w) t ys l u more q.1 gap text behind x e s h))

-- ---- letters

-- behind `D`: r, behind a spacer of the length n
abbrev behind_d : ℕ → List ℕ → ℕ
behind_d n [] = n + 1
behind_d n (b ∷ r) = if eqb b 70 then n + 3 + spacer r else n + 2

abbrev letters_length : List ℕ → ℕ
letters_length [] = 0
letters_length (b ∷ r) =
    if eqb b 109 then spacer r + 2 else
    if eqb b 68 then behind_d (spacer r) (unspaced r) else
    if eqb b 120 then spacer r + 1 + string (unspaced r) else
    1

-- behind a spacer, something else
behind-spacer : (P : ℕ → List ℕ → Type 0) (s w t : List ℕ) → Spacer s → Stops is_space (w ++ t) → P (length s) (w ++ t) → P (spacer ((s ++ w) ++ t)) (unspaced ((s ++ w) ++ t))
behind-spacer P s w t h g p =
    subst (λ (r : List ℕ). P (spacer r) (unspaced r)) (sym (append_assoc s w t)) (front_is P (spacer (s ++ (w ++ t))) s (w ++ t) (spacer_long s (w ++ t) h g) p)

letters_long : (l t : List ℕ) → CommandLetters l t → letters_length (l ++ t) ≡ length l
letters_long l t (one_letter b u m d x) = rw (ne_eqb b 109 m, ne_eqb b 68 d, ne_eqb b 120 x)
letters_long l t (of_m s c u h v) =
    behind-spacer (λ i p. i + 2 ≡ suc (length (s ++ (c ∷ [])))) s (c ∷ []) u h (no_space c u (v.0, v.1)) (omega (arith, length-append s (c ∷ [])))
letters_long l t (of_D s c u h v f) =
    behind-spacer (λ i p. behind_d i p ≡ suc (length (s ++ (c ∷ [])))) s (c ∷ []) u h (no_space c u (v.0, v.1)) (rw (ne_eqb c 70 f) (omega (arith, length-append s (c ∷ []))))
letters_long l t (of_DF s s₂ c u h h₂ v) =
    let w : List ℕ = 70 ∷ (s₂ ++ (c ∷ [])) in
    behind-spacer (λ i p. behind_d i p ≡ suc (length (s ++ w))) s w u h refl
    (behind-spacer (λ i p. length s + 3 + i ≡ suc (length (s ++ w))) s₂ (c ∷ []) u h₂ (no_space c u (v.0, v.1)) (omega (arith, length-append s w, length-append s₂ (c ∷ []))))
letters_long l t (of_x s w u h some v e) =
    behind-spacer (λ i p. i + 1 + string p ≡ suc (length (s ++ w))) s w u h (string_stops w w u (refl, some, v, e)) (omega (arith, string_long w u v e, length-append s w))

-- ---- the first argument outside its limit

abbrev head_or : Argument → List Argument → Argument
head_or d [] = d
head_or d (x ∷ xs) = x

same_before : (xs ys : List Argument) (x y : Argument) (us vs : List Argument) → xs ++ x ∷ us ≡ ys ++ y ∷ vs → AllWithin xs → AllWithin ys → (ArgumentWithin x → ⊥) → (ArgumentWithin y → ⊥) → xs ≡ ys
same_before [] [] x y us vs e h g p q = refl
same_before [] (z ∷ ys) x y us vs e h g p q = absurd (p (subst ArgumentWithin (sym (ap (head_or x) e)) g.0))
same_before (z ∷ xs) [] x y us vs e h g p q = absurd (q (subst ArgumentWithin (ap (head_or x) e) h.0))
same_before (z ∷ xs) (w ∷ ys) x y us vs e h g p q = ap₂ ◌∷◌ (ap (head_or x) e) (same_before xs ys x y us vs (ap (drop 1) e) h.1 g.1 p q)

pub all_behind : (xs : List Argument) (x : Argument) (us : List Argument) → AllWithin (xs ++ x ∷ us) → ArgumentWithin x
all_behind [] x us h = h.0
all_behind (z ∷ xs) x us h = all_behind xs x us h.1

pub all_written : (b : ℕ) (xs : List Argument) → AllWithin xs → AllWithin (written_by b xs)
all_written b xs h = if_both AllWithin (is "t" b) (drop 1 xs) xs (rest xs h) h
  where
    rest : (xs : List Argument) → AllWithin xs → AllWithin (drop 1 xs)
    rest [] h = tt
    rest (x ∷ xs) h = h.1

no_text-before : (xs : List Argument) (x : Argument) (us : List Argument) → NoText (xs ++ x ∷ us) ⊎ (length (xs ++ x ∷ us) ≡ 1) → NoText xs
no_text-before [] x us h = tt
no_text-before (z ∷ xs) x us (inl q) = (q.0, no_text-before xs x us (inl q.1))
no_text-before (z ∷ xs) x us (inr e) = absurd (omega (arith, e, length-append xs (x ∷ us)))

abbrev place_in : ℕ → List ℕ → List Argument → ℕ
place_in b r xs = place_behind (letters_length (b ∷ r)) (drop (letters_length (b ∷ r)) (b ∷ r)) xs

is_there : (b : ℕ) (r : List ℕ) (k : ℕ) (x : OutsideAt b r k) → k ≡ place_in b r x.before
is_there b r k x = go (subst (DraftLaid b r) x.complete (letter_laid b r))
  where
    all : List Argument
    all = arguments_of x.cmd x.dummies

    go : Unlaid b all ⊎ LaidOut b r all x.places → k ≡ place_in b r x.before
    go (inl h) = absurd (x.outside (all_behind x.before x.argument x.after (subst AllWithin x.order (all_written b all (unlaid_within b all h)))))
    go (inr h) =
        let texts : NoText x.before = no_text-before x.before x.argument x.after (subst (λ xs. NoText xs ⊎ (length xs ≡ 1)) (sym h.by_letter ∙ x.order) h.texts) in
        let there : k ≡ place_behind (length x.letters) x.arguments x.before = x.place
        ∙ place_behind_lem (length x.letters) x.arguments x.before x.at (x.gap ++ (x.text ++ x.behind)) x.laid texts x.gap x.text x.behind x.argument refl x.spaced x.written in
        subst (λ (y : List ℕ). k ≡ place_behind (letters_length y) (drop (letters_length y) y) x.before) (sym x.bytes)
        (front_is (λ (i : ℕ) (p : List ℕ). k ≡ place_behind i p x.before) (letters_length (x.letters ++ x.arguments)) x.letters x.arguments (letters_long x.letters x.arguments x.are_letters) there)

abbrev arguments_in : Draft → List Argument
arguments_in (fault n) = []
arguments_in (draft c ds ks a l t) = arguments_of c ds

pub one_place_at : (b : ℕ) (r : List ℕ) (k j : ℕ) → OutsideAt b r k → OutsideAt b r j → k ≡ j
one_place_at b r k j x y =
    let same : x.before ++ x.argument ∷ x.after ≡ y.before ++ y.argument ∷ y.after = sym x.order ∙ ap (λ (d : Draft). written_by b (arguments_in d)) (sym x.complete ∙ y.complete) ∙ y.order in
    is_there b r k x ∙ ap (place_in b r) (same_before x.before y.before x.argument y.argument x.after y.after same x.within y.within x.outside y.outside) ∙ sym (is_there b r j y)
