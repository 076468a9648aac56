-- Refusal 14 points at the start of the family list's first wrong line, or at its end; and which family lists are sound.
use Prim.Native.Nat.{ℕ, suc, ◌+◌, ◌*◌, ◌<◌, ◌≤◌}
use native.Mathlib.Omega.{arith}
use mathlib.Core.Bool.{Bool, true, false, not, ◌&&◌, ◌||◌}
use mathlib.Core.List.{List, [], ◌∷◌, ◌++◌, append_assoc, append-nil}
use mathlib.Core.Logic.{◌⊎◌, inl, inr}
use mathlib.Core.Option.{Option, none, some}
use mathlib.Core.Path.{◌≡◌, refl, sym, ap, ◌∙◌}
use borrow.Author.Tests.{ltb-true, ltb-false, lt-ltb}
use lib.Dec.{ltb}
use lib.ListN.{length, length-append}
use lib.Seq.{take-append_seam}
use Rattle.std.proofs.Math.Bool.{or-false}
use Rattle.rules.specs.Bytes.{bytes, same}
use Rattle.rules.specs.Widths.{lines_from, behind, is_list_name}
use Rattle.rules.specs.Families.{Family, is_in, family_of, is_none, is_new_name, is_whole, name_line, same_line, family_line, FamilyList, ill_grouped, grouped, families_end, families_on, family_lines, family_list}
use Rattle.laws.proofs.Cases.{on, no, and_left, and_right, if_on}
use Rattle.laws_find.specs.Occurs.{Among}
use Rattle.laws_find.specs.Written.{GoodName}
use Rattle.laws_find.proofs.Written.{OneLine, line_front, listed_good, good_listed, no_white_line, behind_front}
use Rattle.laws_find.proofs.Families.{in_among, among_in}
use Rattle.laws_offsets.specs.Groups.{name_text, same_text, others_text, family_text, all_names, EachGood, Different, OneToSeven, AtNames, GoodFamilies, FamilyTexts}
use Rattle.laws_offsets.specs.Lists.{LineStart, first_line, GroupedTo, GroupedWrongAt, unended_family, wrong_family, missing_same, FamilyOffset}
use Rattle.laws_offsets.proofs.Fresh.{fresh}
use Rattle.laws_offsets.proofs.Lines.{Lines, no_line, open_line, one_more, lines, open_front, longer, longer_on, longer_length, longer_start, line_inside, line_taken, open_inside, open_end}

abbrev pub is_grouped : FamilyList → Bool
is_grouped (ill_grouped at) = false
is_grouped (grouped fs) = true

-- ---- a new name is one that no family has

is_in_append : (n : List ℕ) (xs ys : List (List ℕ)) → is_in n (xs ++ ys) ≡ (is_in n xs || is_in n ys)
unfolding is_in
is_in_append n [] ys = refl
is_in_append n (x ∷ xs) ys = on (same n x) (λ e. rw e) (λ e. rw e (is_in_append n xs ys))

in_none : (n m : List ℕ) → is_in n (m ∷ []) ≡ same n m
unfolding is_in
in_none n m = or-false (same n m)

family_none : (n : List ℕ) (fs : List Family) → is_none (family_of n fs) ≡ not (is_in n (all_names fs))
unfolding family_of is_in
family_none n [] = refl
family_none n (f ∷ fs) =
    rw (is_in_append n f.others (f.first ∷ all_names fs), is_in_append n f.others (f.first ∷ []), in_none n f.first)
    (on (is_in n f.others) (λ e. rw e) (λ e. rw e (on (same n f.first) (λ k. rw k) (λ k. rw k (family_none n fs)))))

module _ (n : List ℕ) (fs : List Family) where
  pub new_away : is_new_name n fs ≡ true → GoodName n × (Among n (all_names fs) → ⊥)
  new_away h = (
    listed_good n (and_left (is_list_name n) (is_none (family_of n fs)) h),
    λ a. no (let z : not (is_in n (all_names fs)) ≡ true = sym (family_none n fs) ∙ and_right (is_list_name n) (is_none (family_of n fs)) h in rw (among_in n (all_names fs) a) at z),
  )

  pub away_new : GoodName n → (Among n (all_names fs) → ⊥) → is_new_name n fs ≡ true
  away_new g a = rw (good_listed n g, family_none n fs) (on (is_in n (all_names fs)) (λ e. absurd (a (in_among n (all_names fs) e))) (λ e. rw e))

-- ---- families whose last one may still want its `same` line

abbrev Begun : List Family → Type 0
Begun [] = Unit {0}
Begun (f ∷ fs) = (length f.others ≤ 7) × OneToSeven fs

record SoFar (fs : List Family) : Type 0 where
  few : length fs ≤ 256
  others : Begun fs
  names : EachGood (all_names fs)
  differ : Different (all_names fs)
  places : AtNames fs

whole_others : (fs : List Family) → Begun fs → is_whole fs ≡ true → OneToSeven fs
whole_others [] b h = tt
whole_others (f ∷ fs) b h = (omega (arith, ltb-true 0 (length f.others) h), b.0, b.1)

whole_good : (fs : List Family) → SoFar fs → is_whole fs ≡ true → GoodFamilies fs
whole_good fs g h = record { few = g.few; others = whole_others fs g.others h; names = g.names; differ = g.differ; places = g.places }

-- behind its text: a family begun, a family with one name more
abbrev pub begun : ℕ → List ℕ → Family
begun at n = record { place = at; first = n; others = [] }

abbrev pub grown : List ℕ → Family → Family
grown n f = record { place = f.place; first = f.first; others = n ∷ f.others }

begun_good : (fs : List Family) (at : ℕ) (n : List ℕ) → SoFar fs → is_whole fs ≡ true → length fs < 256 → GoodName n → (Among n (all_names fs) → ⊥) → at ≡ length (family_text fs) + 5
    → SoFar (begun at n ∷ fs)
begun_good fs at n g h l k a e = record {
  few = omega arith;
  others = (omega arith, whole_others fs g.others h);
  names = (k, g.names);
  differ = (a, g.differ);
  places = (e, g.places);
}

grown_good : (f : Family) (fs : List Family) (n : List ℕ) → SoFar (f ∷ fs) → length f.others < 7 → GoodName n → (Among n (all_names (f ∷ fs)) → ⊥) → SoFar (grown n f ∷ fs)
grown_good f fs n g l k a = record {
  few = g.few;
  others = (omega arith, g.others.1);
  names = (k, g.names);
  differ = (a, g.differ);
  places = g.places;
}

begun_text : (fs : List Family) (at : ℕ) (n : List ℕ) → longer (family_text fs) (bytes "name=" ++ n) ≡ family_text (begun at n ∷ fs)
unfolding family_text others_text
begun_text fs at n =
    append_assoc (family_text fs) (bytes "name=" ++ n) (10 ∷ [])
    ∙ ap (λ (l : List ℕ). family_text fs ++ l) (sym (append-nil (name_text n)))

grown_text : (f : Family) (fs : List Family) (n : List ℕ) → longer (family_text (f ∷ fs)) (bytes "same=" ++ n) ≡ family_text (grown n f ∷ fs)
unfolding family_text others_text
grown_text f fs n =
    append_assoc (family_text (f ∷ fs)) (bytes "same=" ++ n) (10 ∷ [])
    ∙ append_assoc (family_text fs) (name_text f.first ++ others_text f.others) (same_text n)
    ∙ ap (λ (l : List ℕ). family_text fs ++ l) (append_assoc (name_text f.first) (others_text f.others) (same_text n))

-- ---- the lines of pre are right, and these are their families

-- what a line of the text t comes to, at a place
abbrev pub says : List Family → ℕ → List ℕ → Option (List Family)
says fs at t = family_line fs at t (behind (bytes "name=") t)

pub record ReadTo (pre : List ℕ) (fs : List Family) : Type 0 where
  on_it : (n : ℕ) (m : List ℕ) → family_lines n [] (lines_from 0 (pre ++ m)) ≡ family_lines n fs (lines_from (length pre) m)
  pub start : (m : List ℕ) → LineStart (pre ++ m) (length pre)
  pub text : pre ≡ family_text fs
  good : SoFar fs

module _ (pre : List ℕ) (fs : List Family) (h : ReadTo pre fs) where
  -- a line of the text t that is right, and one that is wrong
  right_so : (n : ℕ) (t m : List ℕ) (gs : List Family) → OneLine t → says fs (length pre) t ≡ some gs
      → family_lines n [] (lines_from 0 (pre ++ (t ++ 10 ∷ m))) ≡ family_lines n gs (lines_from (length pre + length t + 1) m)
  unfolding family_lines
  right_so n t m gs k e = h.on_it n (t ++ 10 ∷ m) ∙ rw (line_front t (length pre) m k, e)

  pub wrong_so : (t m : List ℕ) → OneLine t → says fs (length pre) t ≡ none → family_list (pre ++ (t ++ 10 ∷ m)) ≡ ill_grouped (length pre)
  unfolding family_list family_lines
  wrong_so t m k e = h.on_it (length (pre ++ (t ++ 10 ∷ m))) (t ++ 10 ∷ m) ∙ rw (line_front t (length pre) m k, e)

  next_line : (t : List ℕ) (gs : List Family) → OneLine t → says fs (length pre) t ≡ some gs → longer pre t ≡ family_text gs → SoFar gs → ReadTo (longer pre t) gs
  next_line t gs k e x g = record {
    on_it = λ n m. rw (longer_on pre t m, right_so n t m gs k e, longer_length pre t);
    start = λ m. longer_start pre t m;
    text = x;
    good = g;
  }

  pub ends_so : family_list pre ≡ families_end (length pre) fs
  unfolding family_list lines_from family_lines
  ends_so = rw append-nil at (h.on_it (length pre) [])

  grouped_to : (post : List ℕ) → GroupedTo (pre ++ post) (length pre)
  grouped_to post = rw (take-append_seam pre post) (go (is_whole fs) refl)
    where
      go : (b : Bool) → is_whole fs ≡ b → ((gs : List Family) × (family_list pre ≡ grouped gs)) ⊎ (family_list pre ≡ ill_grouped (length pre))
      go true e = inl (fs, ends_so ∙ rw e)
      go false e = inr (ends_so ∙ rw e)

  empty-wrong : (m : List ℕ) → family_list (pre ++ 10 ∷ m) ≡ ill_grouped (length pre)
  unfolding behind
  empty-wrong m = wrong_so [] m tt refl

  -- the first line behind pre is wrong
  offset : (post : List ℕ) → GroupedWrongAt (pre ++ post) (length pre) → FamilyOffset (pre ++ post) (length pre)
  offset post e = record { line = h.start post; before = grouped_to post; first = λ m. rw (take-append_seam pre post) (empty-wrong m); here = e }

  open_offset : (b : ℕ) (t : List ℕ) → OneLine (b ∷ t) → FamilyOffset (pre ++ b ∷ t) (length pre)
  open_offset b t k = offset (b ∷ t) (unended_family (open_inside pre b t) (open_end pre b t k))

  wrong_offset : (t m : List ℕ) → OneLine t → says fs (length pre) t ≡ none → FamilyOffset (pre ++ (t ++ 10 ∷ m)) (length pre)
  wrong_offset t m k e = offset (t ++ 10 ∷ m) (wrong_family (line_inside pre t m k)
      (λ m'. rw (line_taken pre t m k, longer_on pre t m') (wrong_so t m' k e)))

  -- a line is missing: with one more it would be sound
  end_offset : (n : List ℕ) (gs : List Family) → is_whole fs ≡ false → GoodName n → OneLine (bytes "same=" ++ n) → says fs (length pre) (bytes "same=" ++ n) ≡ some gs → is_whole gs ≡ true
      → FamilyOffset pre (length pre)
  unfolding family_list lines_from family_lines
  end_offset n gs u g l e z =
      let i : family_list pre ≡ ill_grouped (length pre) = rw u at ends_so in
      let x : GroupedWrongAt pre (length pre) = missing_same refl (λ ws y. no (ap is_grouped (sym i ∙ y))) n gs g (rw (right_so (length (pre ++ same_text n)) (bytes "same=" ++ n) [] gs l e, z)) in
      rw append-nil at (offset [] (rw append-nil x))

-- ---- one line

pub key_line : (n : List ℕ) → OneLine n → OneLine (bytes "name=" ++ n) × OneLine (bytes "same=" ++ n)
key_line n h = ((refl, (refl, (refl, (refl, (refl, h))))), (refl, (refl, (refl, (refl, (refl, h))))))

module _ (pre : List ℕ) (fs : List Family) (h : ReadTo pre fs) where
  pub name_on : (n : List ℕ) → is_whole fs ≡ true → length fs < 256 → GoodName n → (Among n (all_names fs) → ⊥) → ReadTo (longer pre (bytes "name=" ++ n)) (begun (length pre + 5) n ∷ fs)
  unfolding behind
  name_on n w l g a =
      next_line pre fs h (bytes "name=" ++ n) (begun (length pre + 5) n ∷ fs) (key_line n (no_white_line n g.no_white)).0
      (rw (w, lt-ltb (length fs) 256 l, away_new n fs g a))
      (ap (λ (u : List ℕ). longer u (bytes "name=" ++ n)) h.text ∙ begun_text fs (length pre + 5) n)
      (begun_good fs (length pre + 5) n h.good w l g a (ap (λ (u : List ℕ). length u + 5) h.text))

pub same_on : (pre : List ℕ) (f : Family) (fs : List Family) (n : List ℕ) → ReadTo pre (f ∷ fs) → length f.others < 7 → GoodName n → (Among n (all_names (f ∷ fs)) → ⊥)
    → ReadTo (longer pre (bytes "same=" ++ n)) (grown n f ∷ fs)
unfolding behind
same_on pre f fs n h l g a =
    next_line pre (f ∷ fs) h (bytes "same=" ++ n) (grown n f ∷ fs) (key_line n (no_white_line n g.no_white)).1
    (rw (lt-ltb (length f.others) 7 l, away_new n (f ∷ fs) g a))
    (ap (λ (u : List ℕ). longer u (bytes "same=" ++ n)) h.text ∙ grown_text f fs n)
    (grown_good f fs n h.good l g a)

-- what a line of the text t comes to: it is wrong, or the lines are right up to behind it
abbrev NextOr : List ℕ → Option (List Family) → Type 0
NextOr pre none = Unit {0}
NextOr pre (some gs) = ReadTo pre gs

next_name : (pre : List ℕ) (fs : List Family) (n : List ℕ) → ReadTo pre fs → NextOr (longer pre (bytes "name=" ++ n)) (name_line fs (length pre + 5) n)
next_name pre fs n h =
    if_on (NextOr (longer pre (bytes "name=" ++ n))) (is_whole fs && (ltb (length fs) 256 && is_new_name n fs)) _ _
    (λ e.
    let k : (ltb (length fs) 256 && is_new_name n fs) ≡ true = and_right (is_whole fs) (ltb (length fs) 256 && is_new_name n fs) e in
    let x : GoodName n × (Among n (all_names fs) → ⊥) = new_away n fs (and_right (ltb (length fs) 256) (is_new_name n fs) k) in
    name_on pre fs h n (and_left (is_whole fs) (ltb (length fs) 256 && is_new_name n fs) e) (ltb-true (length fs) 256 (and_left (ltb (length fs) 256) (is_new_name n fs) k)) x.0 x.1)
    (λ e. tt)

next_same : (pre : List ℕ) (fs : List Family) (n : List ℕ) → ReadTo pre fs → NextOr (longer pre (bytes "same=" ++ n)) (same_line fs (some n))
next_same pre [] n h = tt
next_same pre (f ∷ fs) n h =
    if_on (NextOr (longer pre (bytes "same=" ++ n))) (ltb (length f.others) 7 && is_new_name n (f ∷ fs)) _ _
    (λ e.
    let x : GoodName n × (Among n (all_names (f ∷ fs)) → ⊥) = new_away n (f ∷ fs) (and_right (ltb (length f.others) 7) (is_new_name n (f ∷ fs)) e) in
    same_on pre f fs n h (ltb-true (length f.others) 7 (and_left (ltb (length f.others) 7) (is_new_name n (f ∷ fs)) e)) x.0 x.1)
    (λ e. tt)

next : (pre : List ℕ) (fs : List Family) (t : List ℕ) → ReadTo pre fs → NextOr (longer pre t) (says fs (length pre) t)
next pre fs t h = go (behind (bytes "name=") t) refl
  where
    then_same : (o : Option (List ℕ)) → behind (bytes "same=") t ≡ o → NextOr (longer pre t) (same_line fs o)
    then_same none e = tt
    then_same (some n) e = rw (behind_front (bytes "same=") t n e) (next_same pre fs n h)

    go : (o : Option (List ℕ)) → behind (bytes "name=") t ≡ o → NextOr (longer pre t) (family_line fs (length pre) t o)
    go none e = then_same (behind (bytes "same=") t) refl
    go (some n) e = rw (behind_front (bytes "name=") t n e) (next_name pre fs n h)

-- ---- the whole list

-- what is said of a list that is refused; of one that is not, that its lines are right and nothing is missing
abbrev pub Claim : List ℕ → FamilyList → Type 0
Claim fl (ill_grouped at) = FamilyOffset fl at
Claim fl (grouped fs) = ReadTo fl fs × (is_whole fs ≡ true)

older_names : (fs : List Family) → OneToSeven fs → length (all_names fs) ≤ 8 * length fs
older_names [] h = omega arith
older_names (f ∷ fs) h =
    let a : length (f.others ++ (f.first ∷ all_names fs)) ≡ length f.others + suc (length (all_names fs)) = length-append f.others (f.first ∷ all_names fs) in
    let b : length f.others ≤ 7 = h.1 in
    omega (arith, a, older_names fs h.2)

names_few : (fs : List Family) → SoFar fs → length (all_names fs) < 4_096
names_few [] g = omega arith
names_few (f ∷ fs) g =
    let a : length (f.others ++ (f.first ∷ all_names fs)) ≡ length f.others + suc (length (all_names fs)) = length-append f.others (f.first ∷ all_names fs) in
    let b : length f.others ≤ 7 = g.others.0 in
    let c : suc (length fs) ≤ 256 = g.few in
    omega (arith, a, older_names fs g.others.1)

wanting : (pre : List ℕ) (fs : List Family) → ReadTo pre fs → is_whole fs ≡ false → FamilyOffset pre (length pre)
unfolding behind
wanting pre [] h e = no (sym e)
wanting pre (f ∷ fs) h e = go (fresh (all_names (f ∷ fs)) (names_few (f ∷ fs) h.good))
  where
    go : (n : List ℕ) × GoodName n × (Among n (all_names (f ∷ fs)) → ⊥) → FamilyOffset pre (length pre)
    go (n, g, a) =
        let l : length f.others ≤ 0 = ltb-false 0 (length f.others) e in
        end_offset pre (f ∷ fs) h n (grown n f ∷ fs) e g (key_line n (no_white_line n g.no_white)).1 (rw (lt-ltb (length f.others) 7 (omega arith), away_new n (f ∷ fs) g a)) (lt-ltb 0 (suc (length f.others)) (omega arith))

end_claim : (pre : List ℕ) (fs : List Family) → ReadTo pre fs → Claim pre (families_end (length pre) fs)
end_claim pre fs h = if_on (Claim pre) (is_whole fs) _ _ (λ e. (h, e)) (λ e. wanting pre fs h e)

claims : {post : List ℕ} → Lines post → (pre : List ℕ) (fs : List Family) → ReadTo pre fs → Claim (pre ++ post) (family_lines (length (pre ++ post)) fs (lines_from (length pre) post))
unfolding family_lines lines_from
claims no_line pre fs h = rw append-nil (end_claim pre fs h)
claims (open_line b t k) pre fs h = rw (open_front b t (length pre) k) (open_offset pre fs h b t k)
claims (one_more t r k more) pre fs h = rw (line_front t (length pre) r k) (go (says fs (length pre) t) refl (next pre fs t h) (λ gs g. claims more (longer pre t) gs g))
  where
    go : (x : Option (List Family)) → says fs (length pre) t ≡ x → NextOr (longer pre t) x
        → ((gs : List Family) → ReadTo (longer pre t) gs → Claim (longer pre t ++ r) (family_lines (length (longer pre t ++ r)) gs (lines_from (length (longer pre t)) r)))
        → Claim (pre ++ (t ++ 10 ∷ r)) (families_on (length pre) (λ gs. family_lines (length (pre ++ (t ++ 10 ∷ r))) gs (lines_from (length pre + length t + 1) r)) x)
    go none e g f = wrong_offset pre fs h t r k e
    go (some gs) e g f = rw (longer_on pre t r, longer_length pre t) at (f gs g)

nothing_read : ReadTo [] []
unfolding family_text
nothing_read = record { on_it = λ n m. refl; start = λ m. first_line; text = refl; good = record { few = omega arith; others = tt; names = tt; differ = tt; places = tt } }

pub family_claim : (fl : List ℕ) → Claim fl (family_list fl)
unfolding family_list
family_claim fl = claims (lines fl) [] [] nothing_read

-- ---- the text of families

-- one family, its names added one by one
module _ (fs : List Family) (h : ReadTo (family_text fs) fs) (w : is_whole fs ≡ true) (l : length fs < 256) (at : ℕ) (first : List ℕ) (e : length (family_text fs) + 5 ≡ at) where
  family_read : (ns : List (List ℕ)) → length ns ≤ 7 → EachGood (ns ++ (first ∷ all_names fs)) → Different (ns ++ (first ∷ all_names fs))
      → ReadTo (family_text (record { place = at; first = first; others = ns } ∷ fs)) (record { place = at; first = first; others = ns } ∷ fs)
  family_read [] k g d =
      let x : ReadTo (longer (family_text fs) (bytes "name=" ++ first)) (begun (length (family_text fs) + 5) first ∷ fs) = name_on (family_text fs) fs h first w l g.0 d.0 in
      rw (begun_text fs at first, e) at x
  family_read (n ∷ ns) k g d =
      let f : Family = record { place = at; first = first; others = ns } in
      let x : ReadTo (longer (family_text (f ∷ fs)) (bytes "same=" ++ n)) (grown n f ∷ fs) = same_on (family_text (f ∷ fs)) f fs n (family_read ns (omega arith) g.1 d.1) (omega arith) g.0 d.0 in
      rw (grown_text f fs n) at x

-- what holds of the names of all families holds of those of the older ones
good_older : (xs ys : List (List ℕ)) → EachGood (xs ++ ys) → EachGood ys
good_older [] ys g = g
good_older (x ∷ xs) ys g = good_older xs ys g.1

differ_older : (xs ys : List (List ℕ)) → Different (xs ++ ys) → Different ys
differ_older [] ys d = d
differ_older (x ∷ xs) ys d = differ_older xs ys d.1

all_whole : (fs : List Family) → OneToSeven fs → is_whole fs ≡ true
all_whole [] h = refl
all_whole (f ∷ fs) h = let k : 1 ≤ length f.others = h.0 in lt-ltb 0 (length f.others) (omega arith)

text-read : (fs : List Family) → GoodFamilies fs → ReadTo (family_text fs) fs
unfolding family_text
text-read [] g = nothing_read
text-read (f ∷ fs) g =
    let k : suc (length fs) ≤ 256 = g.few in
    let older : GoodFamilies fs = record {
      few = omega arith;
      others = g.others.2;
      names = (good_older f.others (f.first ∷ all_names fs) g.names).1;
      differ = (differ_older f.others (f.first ∷ all_names fs) g.differ).1;
      places = g.places.1;
    } in
    family_read fs (text-read fs older) (all_whole fs older.others) (omega arith) f.place f.first (sym g.places.0) f.others g.others.1 g.names g.differ

pub family_texts : FamilyTexts
family_texts = record {
  given = λ fs g. ends_so (family_text fs) fs (text-read fs g) ∙ rw (all_whole fs g.others);
  only = λ t fs e. let c : ReadTo t fs × (is_whole fs ≡ true) = rw e at (family_claim t) in (c.0.text, whole_good fs c.0.good c.1);
}
