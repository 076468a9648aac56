-- Behind a sound family list: which `name` and `same` lines are right, and that every other line is the first wrong one.
use Prim.Native.Nat.{ℕ, suc, ◌+◌}
use native.Mathlib.Omega.{arith}
use mathlib.Core.Bool.{true, ◌&&◌}
use mathlib.Core.List.{List, [], ◌∷◌, ◌++◌, append_assoc}
use mathlib.Core.Option.{Option, none, some}
use mathlib.Core.Path.{◌≡◌, refl, sym, ap, ◌∙◌}
use borrow.Author.Tests.{ltb-true, lt-ltb}
use lib.Dec.{ltb}
use lib.ListN.{length}
use Rattle.rules.specs.Bytes.{bytes}
use Rattle.rules.specs.Widths.{behind}
use Rattle.rules.specs.Families.{Family, is_new_name, is_whole, same_line, family_line, ill_grouped, grouped, family_list}
use Rattle.laws.proofs.Cases.{on, and_left, and_right}
use Rattle.laws_find.specs.Occurs.{Among}
use Rattle.laws_find.specs.Written.{GoodName}
use Rattle.laws_find.proofs.Written.{behind_front}
use Rattle.laws_offsets.specs.Groups.{NoNewline, name_text, same_text, all_names, MayBegin, MayJoin, with_family, with_name, NoKey, FamilyLines}
use Rattle.laws_offsets.proofs.Lines.{longer}
use Rattle.laws_offsets.proofs.FontLines.{one_line_lem}
use Rattle.laws_offsets.proofs.Families.{new_away, begun, grown, says, ReadTo, wrong_so, ends_so, key_line, name_on, same_on, family_claim}

-- ---- the texts

name_longer : (pre n : List ℕ) → longer pre (bytes "name=" ++ n) ≡ pre ++ name_text n
name_longer pre n = append_assoc pre (bytes "name=" ++ n) (10 ∷ [])

same_longer : (pre n : List ℕ) → longer pre (bytes "same=" ++ n) ≡ pre ++ same_text n
same_longer pre n = append_assoc pre (bytes "same=" ++ n) (10 ∷ [])

name_text_lem : (n m : List ℕ) → name_text n ++ m ≡ (bytes "name=" ++ n) ++ 10 ∷ m
name_text_lem n m = ap (λ (l : List ℕ). bytes "name=" ++ l) (append_assoc n (10 ∷ []) m)

same_text_lem : (n m : List ℕ) → same_text n ++ m ≡ (bytes "same=" ++ n) ++ 10 ∷ m
same_text_lem n m = ap (λ (l : List ℕ). bytes "same=" ++ l) (append_assoc n (10 ∷ []) m)

-- behind a `name` line
name_then : (fl n m : List ℕ) → longer fl (bytes "name=" ++ n) ++ m ≡ fl ++ (name_text n ++ m)
name_then fl n m = ap (λ (l : List ℕ). l ++ m) (name_longer fl n) ∙ append_assoc fl (name_text n) m

-- ---- the rules' tests

test_begin : (n : List ℕ) (fs : List Family) → (is_whole fs && (ltb (length fs) 256 && is_new_name n fs)) ≡ true → MayBegin n fs
test_begin n fs e =
    let k : (ltb (length fs) 256 && is_new_name n fs) ≡ true = and_right (is_whole fs) (ltb (length fs) 256 && is_new_name n fs) e in
    let x : GoodName n × (Among n (all_names fs) → ⊥) = new_away n fs (and_right (ltb (length fs) 256) (is_new_name n fs) k) in
    record { good = x.0; few = ltb-true (length fs) 256 (and_left (ltb (length fs) 256) (is_new_name n fs) k); new = x.1 }

test_join : (n : List ℕ) (f : Family) (fs : List Family) → (ltb (length f.others) 7 && is_new_name n (f ∷ fs)) ≡ true → MayJoin n (f ∷ fs)
test_join n f fs e =
    let x : GoodName n × (Among n (all_names (f ∷ fs)) → ⊥) = new_away n (f ∷ fs) (and_right (ltb (length f.others) 7) (is_new_name n (f ∷ fs)) e) in
    record { good = x.0; room = ltb-true (length f.others) 7 (and_left (ltb (length f.others) 7) (is_new_name n (f ∷ fs)) e); new = x.1 }

-- a line whose name may not join, and one with neither key
join_none : (n : List ℕ) (fs : List Family) → (MayJoin n fs → ⊥) → same_line fs (some n) ≡ none
join_none n [] h = refl
join_none n (f ∷ fs) h = on (ltb (length f.others) 7 && is_new_name n (f ∷ fs)) (λ y. absurd (h (test_join n f fs y))) (λ y. rw y)

same_none : (fs : List Family) (t : List ℕ) → ((k : List ℕ) → t ≡ bytes "same=" ++ k → MayJoin k fs → ⊥) → same_line fs (behind (bytes "same=") t) ≡ none
same_none fs t h = go (behind (bytes "same=") t) refl
  where
    go : (o : Option (List ℕ)) → behind (bytes "same=") t ≡ o → same_line fs o ≡ none
    go none e = refl
    go (some k) e = join_none k fs (h k (behind_front (bytes "same=") t k e))

no_key_none : (fs : List Family) (at : ℕ) (t : List ℕ) → NoKey (bytes "name=") t → NoKey (bytes "same=") t → says fs at t ≡ none
no_key_none fs at t h k = go (behind (bytes "name=") t) refl
  where
    go : (o : Option (List ℕ)) → behind (bytes "name=") t ≡ o → family_line fs at t o ≡ none
    go none e = same_none fs t (λ n x j. k n x)
    go (some n) e = absurd (h n (behind_front (bytes "name=") t n e))

-- behind a `name` line: its family is not whole
begun_none : (fs : List Family) (p at : ℕ) (n t : List ℕ) → ((k : List ℕ) → t ≡ bytes "same=" ++ k → GoodName k → (Among k (n ∷ all_names fs) → ⊥) → ⊥) → says (begun p n ∷ fs) at t ≡ none
begun_none fs p at n t h = go (behind (bytes "name=") t)
  where
    go : (o : Option (List ℕ)) → family_line (begun p n ∷ fs) at t o ≡ none
    go none = same_none (begun p n ∷ fs) t (λ k x j. h k x j.good j.new)
    go (some k) = refl

-- ---- the lines

module _ (fl : List ℕ) (fs : List Family) (e : family_list fl ≡ grouped fs) where
  read_to : ReadTo fl fs × (is_whole fs ≡ true)
  read_to = rw e at (family_claim fl)

  name_wrong : (n m : List ℕ) → NoNewline n → (MayBegin n fs → ⊥) → family_list (fl ++ (name_text n ++ m)) ≡ ill_grouped (length fl)
  unfolding behind
  name_wrong n m k h =
      on (is_whole fs && (ltb (length fs) 256 && is_new_name n fs)) (λ y. absurd (h (test_begin n fs y)))
      (λ y. rw (name_text_lem n m) (wrong_so fl fs read_to.0 (bytes "name=" ++ n) m (key_line n (one_line_lem n k)).0 (rw y)))

  same_wrong : (n m : List ℕ) → NoNewline n → (MayJoin n fs → ⊥) → family_list (fl ++ (same_text n ++ m)) ≡ ill_grouped (length fl)
  unfolding behind
  same_wrong n m k h = rw (same_text_lem n m) (wrong_so fl fs read_to.0 (bytes "same=" ++ n) m (key_line n (one_line_lem n k)).1 (join_none n fs h))

  other-wrong : (t m : List ℕ) → NoNewline t → NoKey (bytes "name=") t → NoKey (bytes "same=") t → family_list (fl ++ (t ++ 10 ∷ m)) ≡ ill_grouped (length fl)
  other-wrong t m l h k = wrong_so fl fs read_to.0 t m (one_line_lem t l) (no_key_none fs (length fl) t h k)

  -- a `name` line, and what stands behind it
  module _ (n : List ℕ) (b : MayBegin n fs) where
    abbrev named : List ℕ
    named = longer fl (bytes "name=" ++ n)

    abbrev first : Family
    first = begun (length fl + 5) n

    begun_to : ReadTo named (first ∷ fs)
    begun_to = name_on fl fs read_to.0 n read_to.1 b.few b.good b.new

    name_right : (k : List ℕ) → GoodName k → (Among k (n ∷ all_names fs) → ⊥) → family_list (fl ++ (name_text n ++ same_text k)) ≡ grouped (with_family (length fl + 5) n (k ∷ []) fs)
    name_right k g a =
        let z : ReadTo (longer named (bytes "same=" ++ k)) (grown k first ∷ fs) = same_on named first fs k begun_to (omega arith) g a in
        ap family_list (sym (same_longer named k ∙ name_then fl n (same_text k))) ∙ ends_so (longer named (bytes "same=" ++ k)) (grown k first ∷ fs) z

    alone : family_list (fl ++ name_text n) ≡ ill_grouped (length (fl ++ name_text n))
    alone = ap family_list (sym (name_longer fl n)) ∙ ends_so named (first ∷ fs) begun_to ∙ ap (λ (l : List ℕ). ill_grouped (length l)) (name_longer fl n)

    else_wrong : (t m : List ℕ) → NoNewline t → ((k : List ℕ) → t ≡ bytes "same=" ++ k → GoodName k → (Among k (n ∷ all_names fs) → ⊥) → ⊥)
        → family_list (fl ++ (name_text n ++ (t ++ 10 ∷ m))) ≡ ill_grouped (length (fl ++ name_text n))
    else_wrong t m l h =
        ap family_list (sym (name_then fl n (t ++ 10 ∷ m)))
        ∙ wrong_so named (first ∷ fs) begun_to t m (one_line_lem t l) (begun_none fs (length fl + 5) (length named) n t h)
        ∙ ap (λ (l : List ℕ). ill_grouped (length l)) (name_longer fl n)

    second_wrong : (k m : List ℕ) → NoNewline k → family_list (fl ++ (name_text n ++ (name_text k ++ m))) ≡ ill_grouped (length (fl ++ name_text n))
    unfolding behind
    second_wrong k m l =
        ap (λ (u : List ℕ). family_list (fl ++ (name_text n ++ u))) (name_text_lem k m)
        ∙ ap family_list (sym (name_then fl n ((bytes "name=" ++ k) ++ 10 ∷ m)))
        ∙ wrong_so named (first ∷ fs) begun_to (bytes "name=" ++ k) m (key_line k (one_line_lem k l)).0 refl
        ∙ ap (λ (l : List ℕ). ill_grouped (length l)) (name_longer fl n)

same_right : (fl : List ℕ) (f : Family) (fs : List Family) (n : List ℕ) → family_list fl ≡ grouped (f ∷ fs) → MayJoin n (f ∷ fs) → family_list (fl ++ same_text n) ≡ grouped (with_name n f ∷ fs)
same_right fl f fs n e j =
    let z : ReadTo (longer fl (bytes "same=" ++ n)) (grown n f ∷ fs) = same_on fl f fs n (read_to fl (f ∷ fs) e).0 j.room j.good j.new in
    let w : is_whole (grown n f ∷ fs) ≡ true = lt-ltb 0 (suc (length f.others)) (omega arith) in
    ap family_list (sym (same_longer fl n)) ∙ ends_so (longer fl (bytes "same=" ++ n)) (grown n f ∷ fs) z ∙ rw w

pub family_lines : FamilyLines
family_lines = record {
  name_given = λ fl fs n k e b g a. name_right fl fs e n b k g a;
  name_only = λ fl fs n m e. name_wrong fl fs e n m;
  name_alone = λ fl fs n e b. alone fl fs e n b;
  name_behind_name = λ fl fs n k m e b. second_wrong fl fs e n b k m;
  else_behind_name = λ fl fs n t m e b. else_wrong fl fs e n b t m;
  same_given = same_right;
  same_only = λ fl fs n m e. same_wrong fl fs e n m;
  other_line = λ fl fs t m e. other-wrong fl fs e t m;
}
