-- Families: in a sound list no name stands twice, so that the names that match a name are those of its family.
use Prim.Native.Nat.{ℕ}
use mathlib.Core.Bool.{true, false, ◌&&◌}
use mathlib.Core.List.{List, [], ◌∷◌, ◌++◌}
use mathlib.Core.Logic.{◌⊎◌, inl, inr}
use mathlib.Core.Option.{Option, none, some}
use mathlib.Core.Path.{◌≡◌, refl, sym, ◌∙◌}
use lib.Dec.{ltb}
use lib.ListN.{length}
use Rattle.std.proofs.Math.Option.{some-ne-none}
use Rattle.std.proofs.lemmas.Bool.{or_cases, or_left, or_right}
use Rattle.rules.specs.Bytes.{bytes, same}
use Rattle.rules.specs.Widths.{Line, lines_from, behind, is_list_name}
use Rattle.rules.specs.Families.{Family, names_in, is_in, family_of, names_of, is_none, is_new_name, is_whole, families_most, others_most, name_line, same_line, family_line, family_read, FamilyList, ill_grouped, grouped, families_on, family_lines, family_list}
use Rattle.rules.specs.Find.{Wanted, sought, same_name}
use Rattle.laws.proofs.Cases.{on, no, and_left, and_right, if_on}
use Rattle.laws.proofs.Same.{same_eq, eq_same}
use Rattle.laws_find.specs.Occurs.{Among, Has, InOne, Match}
use Rattle.laws_find.specs.Written.{GoodName}
use Rattle.laws_find.proofs.Written.{listed_good}

-- ---- the test of a name among names

pub in_among : (n : List ℕ) (ms : List (List ℕ)) → is_in n ms ≡ true → Among n ms
unfolding is_in
in_among n [] h = no h
in_among n (m ∷ ms) h = go (or_cases (same n m) (is_in n ms) h) (λ e. in_among n ms e)
  where
    go : (same n m ≡ true) ⊎ (is_in n ms ≡ true) → (is_in n ms ≡ true → Among n ms) → (n ≡ m) ⊎ Among n ms
    go (inl e) more = inl (same_eq n m e)
    go (inr e) more = inr (more e)

pub among_in : (n : List ℕ) (ms : List (List ℕ)) → Among n ms → is_in n ms ≡ true
unfolding is_in
among_in n [] h = absurd h
among_in n (m ∷ ms) (inl e) = or_left (same n m) (is_in n ms) (eq_same n m e)
among_in n (m ∷ ms) (inr h) = or_right (same n m) (is_in n ms) (among_in n ms h)

among_append : (n : List ℕ) (xs ys : List (List ℕ)) → Among n (xs ++ ys) → Among n xs ⊎ Among n ys
among_append n [] ys h = inr h
among_append n (x ∷ xs) ys (inl e) = inl (inl e)
among_append n (x ∷ xs) ys (inr h) = go (among_append n xs ys h)
  where
    go : Among n xs ⊎ Among n ys → Among n (x ∷ xs) ⊎ Among n ys
    go (inl a) = inl (inr a)
    go (inr a) = inr a

append_left : (n : List ℕ) (xs ys : List (List ℕ)) → Among n xs → Among n (xs ++ ys)
append_left n [] ys h = absurd h
append_left n (x ∷ xs) ys (inl e) = inl e
append_left n (x ∷ xs) ys (inr h) = inr (append_left n xs ys h)

append_right : (n : List ℕ) (xs ys : List (List ℕ)) → Among n ys → Among n (xs ++ ys)
append_right n [] ys h = h
append_right n (x ∷ xs) ys h = inr (append_right n xs ys h)

-- ---- a family's names

pub in_has : (n : List ℕ) (f : Family) → is_in n (names_in f) ≡ true → Has f n
in_has n f h = go (among_append n f.others (f.first ∷ []) (in_among n (names_in f) h))
  where
    go : Among n f.others ⊎ Among n (f.first ∷ []) → Has f n
    go (inl a) = inr a
    go (inr (inl e)) = inl e
    go (inr (inr z)) = absurd z

pub has_in : (n : List ℕ) (f : Family) → Has f n → is_in n (names_in f) ≡ true
has_in n f (inl e) = among_in n (names_in f) (append_right n f.others (f.first ∷ []) (inl e))
has_in n f (inr a) = among_in n (names_in f) (append_left n f.others (f.first ∷ []) a)

-- ---- "no name in two families or twice in one", and every name is one of a list

abbrev pub Apart : Family → List Family → Type 0
Apart f fs = (n : List ℕ) → Has f n → family_of n fs ≡ none

abbrev pub AllGood : Family → Type 0
AllGood f = (n : List ℕ) → Has f n → GoodName n

abbrev pub Parted : List Family → Type 0
Parted [] = Unit {0}
Parted (f ∷ fs) = Apart f fs × AllGood f × Parted fs

none_is : (o : Option Family) → is_none o ≡ true → o ≡ none
none_is none h = refl
none_is (some f) h = no h

pub new_none : (n : List ℕ) (fs : List Family) → is_new_name n fs ≡ true → family_of n fs ≡ none
new_none n fs h = none_is (family_of n fs) (and_right (is_list_name n) (is_none (family_of n fs)) h)

pub new_good : (n : List ℕ) (fs : List Family) → is_new_name n fs ≡ true → GoodName n
new_good n fs h = listed_good n (and_left (is_list_name n) (is_none (family_of n fs)) h)

-- a name that is in none of these is in none of the older ones
older_none : (n : List ℕ) (f : Family) (fs : List Family) → family_of n (f ∷ fs) ≡ none → family_of n fs ≡ none
unfolding family_of
older_none n f fs h = on (is_in n (names_in f)) (λ e. absurd (some-ne-none f (rw e at h))) (λ e. rw e at h)

begun_parted : (at : ℕ) (n : List ℕ) (fs : List Family) → is_new_name n fs ≡ true → Parted fs → Parted (record { place = at; first = n; others = [] } ∷ fs)
begun_parted at n fs h p = (apart, good, p)
  where
    apart : Apart (record { place = at; first = n; others = [] }) fs
    apart m (inl e) = rw e (new_none n fs h)
    apart m (inr z) = absurd z

    good : AllGood (record { place = at; first = n; others = [] })
    good m (inl e) = rw e (new_good n fs h)
    good m (inr z) = absurd z

grown_parted : (n : List ℕ) (f : Family) (fs : List Family) → is_new_name n (f ∷ fs) ≡ true → Parted (f ∷ fs) → Parted (record { place = f.place; first = f.first; others = n ∷ f.others } ∷ fs)
grown_parted n f fs h p = (apart, good, p.2)
  where
    apart : Apart (record { place = f.place; first = f.first; others = n ∷ f.others }) fs
    apart m (inl e) = p.0 m (inl e)
    apart m (inr (inl e)) = rw e (older_none n f fs (new_none n (f ∷ fs) h))
    apart m (inr (inr a)) = p.0 m (inr a)

    good : AllGood (record { place = f.place; first = f.first; others = n ∷ f.others })
    good m (inl e) = p.1 m (inl e)
    good m (inr (inl e)) = rw e (new_good n (f ∷ fs) h)
    good m (inr (inr a)) = p.1 m (inr a)

-- line by line
abbrev PartedOr : Option (List Family) → Type 0
PartedOr none = Unit {0}
PartedOr (some fs) = Parted fs

name_parted : (fs : List Family) (at : ℕ) (n : List ℕ) → Parted fs → PartedOr (name_line fs at n)
name_parted fs at n p =
    if_on PartedOr (is_whole fs && (ltb (length fs) families_most && is_new_name n fs)) _ _
    (λ e. begun_parted at n fs (and_right (ltb (length fs) families_most) (is_new_name n fs) (and_right (is_whole fs) (ltb (length fs) families_most && is_new_name n fs) e)) p)
    (λ e. tt)

same_parted : (fs : List Family) (o : Option (List ℕ)) → Parted fs → PartedOr (same_line fs o)
same_parted fs none p = tt
same_parted [] (some n) p = tt
same_parted (f ∷ fs) (some n) p =
    if_on PartedOr (ltb (length f.others) others_most && is_new_name n (f ∷ fs)) _ _
    (λ e. grown_parted n f fs (and_right (ltb (length f.others) others_most) (is_new_name n (f ∷ fs)) e) p)
    (λ e. tt)

line_parted : (fs : List Family) (at : ℕ) (t : List ℕ) (o : Option (List ℕ)) → Parted fs → PartedOr (family_line fs at t o)
line_parted fs at t (some n) p = name_parted fs _ n p
line_parted fs at t none p = same_parted fs (behind (bytes "same=") t) p

read_parted : (fs : List Family) (l : Line) → Parted fs → PartedOr (family_read fs l)
read_parted fs l p = if_on PartedOr l.ended _ _ (λ e. line_parted fs l.place l.text (behind (bytes "name=") l.text) p) (λ e. tt)

abbrev ListParted : FamilyList → Type 0
ListParted (ill_grouped at) = Unit {0}
ListParted (grouped fs) = Parted fs

on_parted : (at : ℕ) (go : List Family → FamilyList) → ((fs : List Family) → Parted fs → ListParted (go fs)) → (o : Option (List Family)) → PartedOr o → ListParted (families_on at go o)
on_parted at go h none p = tt
on_parted at go h (some fs) p = h fs p

lines_parted : (ls : List Line) (n : ℕ) (fs : List Family) → Parted fs → ListParted (family_lines n fs ls)
unfolding family_lines
lines_parted [] n fs p = if_on ListParted (is_whole fs) _ _ (λ e. p) (λ e. tt)
lines_parted (l ∷ ls) n fs p = on_parted l.place (λ gs. family_lines n gs ls) (λ gs q. lines_parted ls n gs q) (family_read fs l) (read_parted fs l p)

pub grouped_parted : (fl : List ℕ) (fs : List Family) → family_list fl ≡ grouped fs → Parted fs
unfolding family_list
grouped_parted fl fs h = rw h at (lines_parted (lines_from 0 fl) (length fl) [] tt)

-- ---- "Two names match if they are equal or in one family."

-- a name of the family that m is in
family_one : (fs : List Family) (n m : List ℕ) → is_in n (names_of (family_of m fs)) ≡ true → InOne fs n m
unfolding family_of is_in
family_one [] n m h = no h
family_one (f ∷ fs) n m h =
    on (is_in m (names_in f))
    (λ e. inl (in_has n f (rw e at h), in_has m f e))
    (λ e. inr (family_one fs n m (rw e at h)))

none_empty : (n : List ℕ) (o : Option Family) → o ≡ none → is_in n (names_of o) ≡ false
unfolding is_in
none_empty n o e = rw e

one_family : (fs : List Family) (n m : List ℕ) → Parted fs → InOne fs n m → is_in n (names_of (family_of m fs)) ≡ true
unfolding family_of
one_family [] n m p h = absurd h
one_family (f ∷ fs) n m p (inl (a, b)) = rw (has_in m f b) (has_in n f a)
one_family (f ∷ fs) n m p (inr h) =
    let k : is_in n (names_of (family_of m fs)) ≡ true = one_family fs n m p.2 h in
    on (is_in m (names_in f))
    (λ e. no (sym (none_empty n (family_of m fs) (p.0 m (in_has m f e))) ∙ k))
    (λ e. rw e k)

module _ (fs : List Family) (n : List ℕ) (q : Wanted) where
  pub name_match : same_name n (sought fs q) ≡ true → Match fs n q.name
  name_match h = go (or_cases (same n q.name) (is_in n (names_of (family_of q.name fs))) h)
    where
      go : (same n q.name ≡ true) ⊎ (is_in n (names_of (family_of q.name fs)) ≡ true) → Match fs n q.name
      go (inl e) = inl (same_eq n q.name e)
      go (inr e) = inr (family_one fs n q.name e)

  pub match_name : Parted fs → Match fs n q.name → same_name n (sought fs q) ≡ true
  match_name p (inl e) = or_left (same n q.name) (is_in n (names_of (family_of q.name fs))) (eq_same n q.name e)
  match_name p (inr h) = or_right (same n q.name) (is_in n (names_of (family_of q.name fs))) (one_family fs n q.name p h)

-- "an empty list gives the old answers"
pub match_none : (n m : List ℕ) → Match [] n m → n ≡ m
match_none n m (inl e) = e
match_none n m (inr z) = absurd z

-- a name that matches one of a list is one too
one_good : (fs : List Family) (n m : List ℕ) → Parted fs → InOne fs n m → GoodName n
one_good [] n m p h = absurd h
one_good (f ∷ fs) n m p (inl (a, b)) = p.1 n a
one_good (f ∷ fs) n m p (inr h) = one_good fs n m p.2 h

pub match_good : (fs : List Family) (n m : List ℕ) → Parted fs → Match fs n m → GoodName m → GoodName n
match_good fs n m p (inl e) g = rw e g
match_good fs n m p (inr h) g = one_good fs n m p h
