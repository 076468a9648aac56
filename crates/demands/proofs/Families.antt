-- Family lists (2026-01): which are sound, and what a name has of one: one family, or none.
use Prim.Native.Nat.{ℕ, ◌+◌, ◌≤◌}
use native.Mathlib.Omega.{arith}
use mathlib.Core.Bool.{false}
use mathlib.Core.List.{List, [], ◌∷◌, ◌++◌}
use mathlib.Core.Logic.{◌⊎◌, inl, inr}
use mathlib.Core.Option.{Option, none, some}
use mathlib.Core.Path.{◌≡◌, refl, sym, ap, ap₂, subst, ◌∙◌}
use lib.ListN.{length, take, drop, length-append}
use borrow.Author.Tests.{ltb-true, ltb-false}
use lib.Seq.{take-append_seam, drop-append_seam}
use Rattle.std.proofs.lemmas.List.{append_assoc}
use Rattle.std.proofs.Math.Option.{some-injective, none-ne-some}
use Rattle.rules.specs.Bytes.{bytes}
use Rattle.rules.specs.Families.{Family, names_in, is_in, family_of, FamilyList, ill_grouped, grouped, family_list}
use Rattle.rules.specs.Answers.{is_over}
use Rattle.laws.proofs.Cases.{on, no, if_on}
use Rattle.laws_find.specs.Occurs.{Has, InOne, Match}
use Rattle.laws_find.specs.Written.{GoodName}
use Rattle.laws_find.proofs.Families.{in_has, has_in, Parted, grouped_parted}
use Rattle.laws_offsets.specs.Groups.{name_text, others_text, family_text, AtNames, GoodFamilies}
use Rattle.laws_offsets.proofs.Families.{is_grouped, Claim, family_claim, family_texts}
use Rattle.laws_offsets.proofs.FamilyLines.{family_lines}
use Rattle.laws_offsets.proofs.Exactly.{exactly}
use Rattle.demands.specs.Demands.{SoundFamilies, UnsoundFamilies, FamilyIn, FamilyLists}

pub sound_parted : (fl : List ℕ) (fs : List Family) → SoundFamilies fl fs → Parted fs
sound_parted fl fs h = grouped_parted fl fs h.says

-- ---- every list is sound or not

pub each_list : (fl : List ℕ) → ((fs : List Family) × SoundFamilies fl fs) ⊎ UnsoundFamilies fl
each_list fl = on (is_over 65_536 fl) (λ e. inr (inl (ltb-true 65_536 (length fl) e))) (λ e. go (family_list fl) refl (family_claim fl) (ltb-false 65_536 (length fl) e))
  where
    go : (x : FamilyList) → family_list fl ≡ x → Claim fl (family_list fl) → length fl ≤ 65_536 → ((fs : List Family) × SoundFamilies fl fs) ⊎ UnsoundFamilies fl
    go (ill_grouped at) e c l = inr (inr (at, subst (Claim fl) e c))
    go (grouped fs) e c l = inl (fs, record { short = l; says = e })

pub not_both : (fl : List ℕ) (fs : List Family) → SoundFamilies fl fs → UnsoundFamilies fl → ⊥
not_both fl fs h (inl l) = omega (arith, h.short, l)
not_both fl fs h (inr (at, o)) = no (ap is_grouped (sym (exactly.families fl at o) ∙ h.says))

abbrev families_of : FamilyList → List Family
families_of (ill_grouped at) = []
families_of (grouped fs) = fs

one_row : (fl : List ℕ) (fs fs₂ : List Family) → SoundFamilies fl fs → SoundFamilies fl fs₂ → fs ≡ fs₂
one_row fl fs fs₂ h k = ap families_of (sym h.says ∙ k.says)

-- ---- the family of a name

pub family_is : (fs : List Family) (f : Family) (n : List ℕ) → Parted fs → FamilyIn f fs → Has f n → family_of n fs ≡ some f
unfolding family_of
family_is [] f n p i h = absurd i
family_is (g ∷ fs) f n p (inl e) h = rw (has_in n g (subst (λ (x : Family). Has x n) e h)) (ap some (sym e))
family_is (g ∷ fs) f n p (inr i) h =
    let k : family_of n fs ≡ some f = family_is fs f n p.2 i h in
    on (is_in n (names_in g)) (λ e. absurd (none-ne-some f (sym (p.0 n (in_has n g e)) ∙ k))) (λ e. rw e k)

pub family_none : (fs : List Family) (n : List ℕ) → ((f : Family) → FamilyIn f fs → Has f n → ⊥) → family_of n fs ≡ none
unfolding family_of
family_none [] n h = refl
family_none (g ∷ fs) n h = on (is_in n (names_in g)) (λ e. absurd (h g (inl refl) (in_has n g e))) (λ e. rw e (family_none fs n (λ f i. h f (inr i))))

-- the other way: what the rules say of a name
abbrev pub InOrNot : List Family → List ℕ → Option Family → Type 0
InOrNot fs n none = (f : Family) → FamilyIn f fs → Has f n → ⊥
InOrNot fs n (some f) = FamilyIn f fs × Has f n

pub in_or_not : (fs : List Family) (n : List ℕ) → InOrNot fs n (family_of n fs)
unfolding family_of
in_or_not [] n = λ f i h. i
in_or_not (g ∷ fs) n =
    if_on (InOrNot (g ∷ fs) n) (is_in n (names_in g)) (some g) (family_of n fs) (λ e. (inl refl, in_has n g e)) (λ e. wider e (family_of n fs) (in_or_not fs n))
  where
    wider : is_in n (names_in g) ≡ false → (o : Option Family) → InOrNot fs n o → InOrNot (g ∷ fs) n o
    wider e none k = apart
      where
        apart : (f : Family) → FamilyIn f (g ∷ fs) → Has f n → ⊥
        apart f (inl i) h = no (sym e ∙ has_in n g (subst (λ (x : Family). Has x n) i h))
        apart f (inr i) h = k f i h
    wider e (some f) k = (inr k.0, k.1)

pub one_family : (fs : List Family) (f g : Family) (n : List ℕ) → Parted fs → FamilyIn f fs → FamilyIn g fs → Has f n → Has g n → f ≡ g
one_family fs f g n p i j h k = some-injective f g (sym (family_is fs f n p i h) ∙ family_is fs g n p j k)

pub family_lists : FamilyLists
family_lists = record {
  texts = family_texts;
  lines = family_lines;
  each = each_list;
  not_both = not_both;
  one = one_row;
  one_family = λ fl fs f g n s i j h k. one_family fs f g n (sound_parted fl fs s) i j h k;
}

-- ---- names that match: an equivalence, no name being in two families

shared : (fs : List Family) (n m : List ℕ) → InOne fs n m → (f : Family) × FamilyIn f fs × Has f n × Has f m
shared [] n m h = absurd h
shared (g ∷ fs) n m (inl (a, b)) = (g, inl refl, a, b)
shared (g ∷ fs) n m (inr h) = let z = shared fs n m h in (z.0, inr z.1, z.2, z.3)

in_one : (fs : List Family) (f : Family) (n m : List ℕ) → FamilyIn f fs → Has f n → Has f m → InOne fs n m
in_one [] f n m i a b = absurd i
in_one (g ∷ fs) f n m (inl e) a b = inl (subst (λ (x : Family). Has x n) e a, subst (λ (x : Family). Has x m) e b)
in_one (g ∷ fs) f n m (inr i) a b = inr (in_one fs f n m i a b)

pub match_back : (fs : List Family) (n m : List ℕ) → Match fs n m → Match fs m n
match_back fs n m (inl e) = inl (sym e)
match_back fs n m (inr h) = let z = shared fs n m h in inr (in_one fs z.0 m n z.1 z.3 z.2)

pub match_on : (fs : List Family) (n m o : List ℕ) → Parted fs → Match fs n m → Match fs m o → Match fs n o
match_on fs n m o p (inl e) k = subst (λ (x : List ℕ). Match fs x o) (sym e) k
match_on fs n m o p (inr h) (inl e) = inr (subst (InOne fs n) e h)
match_on fs n m o p (inr h) (inr k) =
    let z = shared fs n m h in
    let y = shared fs m o k in
    let e : y.0 ≡ z.0 = one_family fs y.0 z.0 m p y.1 z.1 y.2 z.3 in
    inr (in_one fs z.0 n o z.1 z.2 (subst (λ (x : Family). Has x o) e y.3))

-- ---- where a family's first name stands

pub record Standing (fl : List ℕ) (f : Family) : Type 0 where
  pub before : List ℕ
  pub behind : List ℕ
  pub text : fl ≡ before ++ (f.first ++ behind)
  pub place : f.place ≡ length before

standing_in : (fs : List Family) (f : Family) → AtNames fs → FamilyIn f fs → Standing (family_text fs) f
unfolding family_text
standing_in [] f a i = absurd i
standing_in (g ∷ fs) f a (inl e) = subst (Standing (family_text (g ∷ fs))) (sym e) (record {
  before = family_text fs ++ bytes "name=";
  behind = bytes "\n" ++ others_text g.others;
  text =
      ap (λ (l : List ℕ). family_text fs ++ l) (append_assoc (bytes "name=") (g.first ++ bytes "\n") (others_text g.others) ∙ ap (λ (l : List ℕ). bytes "name=" ++ l) (append_assoc g.first (bytes "\n") (others_text g.others)))
      ∙ sym (append_assoc (family_text fs) (bytes "name=") (g.first ++ (bytes "\n" ++ others_text g.others)));
  place = a.0 ∙ sym (length-append (family_text fs) (bytes "name="));
})
standing_in (g ∷ fs) f a (inr i) =
    let x : Standing (family_text fs) f = standing_in fs f a.1 i in
    let more : List ℕ = name_text g.first ++ others_text g.others in
    record {
      before = x.before;
      behind = x.behind ++ more;
      text =
          ap (λ (l : List ℕ). l ++ more) x.text
          ∙ append_assoc x.before (f.first ++ x.behind) more
          ∙ ap (λ (l : List ℕ). x.before ++ l) (append_assoc f.first x.behind more);
      place = x.place;
    }

pub standing : (fl : List ℕ) (fs : List Family) (f : Family) → SoundFamilies fl fs → FamilyIn f fs → Standing fl f
standing fl fs f h i =
    let t : (fl ≡ family_text fs) × GoodFamilies fs = family_texts.only fl fs h.says in
    subst (λ (l : List ℕ). Standing l f) (sym t.0) (standing_in fs f t.1.places i)

pub stands : (fl : List ℕ) (fs : List Family) (f : Family) → SoundFamilies fl fs → FamilyIn f fs → take (length f.first) (drop f.place fl) ≡ f.first
stands fl fs f h i =
    let x : Standing fl f = standing fl fs f h i in
    ap (take (length f.first)) (ap₂ (λ (k : ℕ) (l : List ℕ). drop k l) x.place x.text ∙ drop-append_seam x.before (f.first ++ x.behind)) ∙ take-append_seam f.first x.behind

pub stands_inside : (fl : List ℕ) (fs : List Family) (f : Family) → SoundFamilies fl fs → FamilyIn f fs → f.place + length f.first ≤ length fl
stands_inside fl fs f h i =
    let x : Standing fl f = standing fl fs f h i in
    let a : length fl ≡ length x.before + length (f.first ++ x.behind) = ap length x.text ∙ length-append x.before (f.first ++ x.behind) in
    let b : length (f.first ++ x.behind) ≡ length f.first + length x.behind = length-append f.first x.behind in
    let c : f.place ≡ length x.before = x.place in
    omega (arith, a, b, c)

pub name_good : (fs : List Family) (f : Family) (n : List ℕ) → Parted fs → FamilyIn f fs → Has f n → GoodName n
name_good [] f n p i h = absurd i
name_good (g ∷ fs) f n p (inl e) h = p.1 n (subst (λ (x : Family). Has x n) e h)
name_good (g ∷ fs) f n p (inr i) h = name_good fs f n p.2 i h
