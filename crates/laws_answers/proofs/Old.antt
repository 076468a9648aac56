-- An empty family list gives the answers of the rule as it was without families.
use Rattle.std.specs.Prelude.{if◌then◌else◌}
use Prim.Native.Nat.{ℕ, ◌+◌}
use mathlib.Core.Bool.{Bool, ◌&&◌, ◌||◌}
use mathlib.Core.List.{List, [], ◌∷◌, ◌++◌, map}
use mathlib.Core.Logic.{◌⊎◌, inl, inr}
use mathlib.Core.Path.{◌≡◌, refl, sym, ap, ap₂, ◌∙◌}
use Rattle.rules.specs.Bytes.{same}
use Rattle.rules.specs.Scan.{commands}
use Rattle.rules.specs.Widths.{lines_from, Widths, WidthList, unsound, sound, width_list}
use Rattle.rules.specs.State.{start}
use Rattle.rules.specs.Record.{Answer, refuse, answer, follow}
use Rattle.rules.specs.Families.{is_in, family_of, grouped, family_lines, family_list}
use Rattle.rules.specs.Find.{Wanted, Query, ill_formed, well_formed, query, Key, sought, glyph_test, passes, goes_on, hits_from}
use Rattle.rules.specs.Answers.{stream_most, is_over, not_found, found, key_of, hits_in, find_asked, find_with, find, found_in, find_into}
use Rattle.laws.proofs.Cases.{on, no}
use Rattle.laws_find.specs.Occurs.{key_at, wanted_at, OccursAt}
use Rattle.laws_find.proofs.Families.{match_none}
use Rattle.laws_offsets.specs.Offsets.{InTableTo, Said}
use Rattle.laws_offsets.proofs.Families.{is_grouped}
use Rattle.laws_offsets.proofs.ByNumber.{by_number}
use Rattle.laws_offsets.proofs.Exactly.{exactly}
use Rattle.laws_answers.specs.Old.{old_test, old_goes_on, old_hits_from, old_hits_in, old_find_asked, old_find_with, old_find, OldOccursAt, EmptyFamilies}
use Rattle.laws_answers.proofs.Numbers.{less_14, numbers}

no_family : family_list [] ≡ grouped []
unfolding family_list family_lines lines_from
no_family = refl

-- ---- where it occurs

now_old : (qs : List Wanted) (ks : List Key) (i : ℕ) → OccursAt [] qs ks i → OldOccursAt qs ks i
now_old qs ks i o = record { exist = o.exist; page = o.page; name = λ j l. match_none (key_at ks (i + j)).name (wanted_at qs j).name (o.name j l); gap = o.gap }

old_now : (qs : List Wanted) (ks : List Key) (i : ℕ) → OldOccursAt qs ks i → OccursAt [] qs ks i
old_now qs ks i o = record { exist = o.exist; page = o.page; name = λ j l. inl (o.name j l); gap = o.gap }

-- ---- the list of hits

test_old : (o : ℕ) (q : Wanted) (k : Key) → glyph_test o (sought [] q) k ≡ old_test o q k
unfolding family_of is_in
test_old o q k = on (same k.name q.name) (λ e. rw e) (λ e. rw e)

goes_old : (o : ℕ) (qs : List Wanted) (ks : List Key) → goes_on o (map (sought []) qs) ks ≡ old_goes_on o qs ks
unfolding goes_on old_goes_on
goes_old o [] ks = refl
goes_old o (q ∷ qs) [] = refl
goes_old o (q ∷ qs) (k ∷ ks) = ap₂ (λ (a b : Bool). a && b) (ap passes (test_old o q k)) (goes_old o qs ks)

hits_old : (qs : List Wanted) (i : ℕ) (ks : List Key) → hits_from (map (sought []) qs) i ks ≡ old_hits_from qs i ks
unfolding hits_from old_hits_from
hits_old qs i [] = refl
hits_old qs i (k ∷ ks) =
    ap₂ (λ (a : Bool) (l : List ℕ). (if a then i ∷ [] else []) ++ l) (goes_old k.ordinal qs (k ∷ ks)) (hits_old qs (i + 1) ks)

-- ---- the answer

in_old : (qs : List Wanted) (a : Answer) → hits_in (map (sought []) qs) a ≡ old_hits_in qs a
in_old qs (refuse n at) = refl
in_old qs (answer rs xs e) = ap (found rs) (hits_old qs 0 (map key_of rs))

asked_old : (s : List ℕ) (w : Widths) (x : Query) → find_asked s w [] x ≡ old_find_asked s w x
asked_old s w (ill_formed at) = refl
asked_old s w (well_formed qs) = in_old qs (follow w start (commands 0 0 s))

with_old : (s q : List ℕ) (x : WidthList) → find_with s [] q x ≡ old_find_with s q x
unfolding family_list family_lines lines_from
with_old s q (unsound at) = refl
with_old s q (sound w) = asked_old s w (query q)

find_old : (s list q : List ℕ) → find s list [] q ≡ old_find s list q
unfolding find old_find
find_old s list q = on (is_over stream_most s || (is_over 65_536 list || is_over 8_192 q)) (λ e. rw e) (λ e. rw e (with_old s q (width_list list)))

finder_old : (records hits : ℕ) (s list q : List ℕ) → find_into records hits s list [] q ≡ found_in records hits (old_find s list q)
unfolding find_into
finder_old records hits s list q = ap (found_in records hits) (find_old s list q)

-- ---- never 14

never_14 : (records hits : ℕ) (s list q : List ℕ) (n at : ℕ) → find_into records hits s list [] q ≡ not_found n at → n ≡ 14 → ⊥
never_14 records hits s list q n at e k =
    let x : Said s list [] q n at = by_number.finder records hits s list [] q n at e in
    no (ap is_grouped (sym (exactly.families [] at (x.of_14 k)) ∙ no_family))

find_numbers_old : (s list q : List ℕ) (n at : ℕ) → find s list [] q ≡ not_found n at → InTableTo 12 n
unfolding find_into
find_numbers_old s list q n at e = go (numbers.find_numbers s list [] q n at e)
  where
    go : InTableTo 12 n ⊎ (n ≡ 14) → InTableTo 12 n
    go (inl h) = h
    go (inr h) = absurd (never_14 0 0 s list q n at (ap (found_in 0 0) e) h)

finder_numbers_old : (records hits : ℕ) (s list q : List ℕ) (n at : ℕ) → find_into records hits s list [] q ≡ not_found n at → InTableTo 13 n
finder_numbers_old records hits s list q n at e = less_14 n (numbers.finder records hits s list [] q n at e) (never_14 records hits s list q n at e)

pub empty_families : EmptyFamilies
empty_families = record {
  no_family = no_family;
  occurs = now_old;
  occurred = old_now;
  hits = hits_old;
  finds = find_old;
  finder = finder_old;
  find_numbers = find_numbers_old;
  finder_numbers = finder_numbers_old;
}
