-- Request 2026-01: "an empty list gives the old answers". The rule for finding as it was before the request, without families, and what an
-- empty family list gives. Proofs: `proofs/Old.antt`.
use Rattle.std.specs.Prelude.{ℕ, ◌+◌, ◌<◌, ◌≤◌, Bool, true, false, ◌&&◌, ◌||◌, List, [], ◌∷◌, ◌++◌, map, ◌≡◌, eqb, length, if◌then◌else◌}
use Rattle.std.proofs.Math.Option.{Option, some}
use Rattle.rules.specs.Bytes.{same}
use Rattle.rules.specs.Scan.{commands}
use Rattle.rules.specs.Widths.{Widths, WidthList, unsound, sound, width_list}
use Rattle.rules.specs.State.{start}
use Rattle.rules.specs.Record.{Answer, refuse, answer, follow}
use Rattle.rules.specs.Families.{grouped, family_list}
use Rattle.rules.specs.Find.{Wanted, Query, ill_formed, well_formed, query, Key, sought, Reason, other_page, other_name, gap_test, passes, hits_from}
use Rattle.rules.specs.Answers.{stream_most, is_over, Found, not_found, found, key_of, find, found_in, find_into}
use Rattle.laws_find.specs.Occurs.{key_at, wanted_at, GapAsAsked, OccursAt}
use Rattle.laws_offsets.specs.Offsets.{InTableTo}

-- ---- the old rule: "have the same name bytes"

abbrev pub old_test : ℕ → Wanted → Key → Option Reason
old_test o q k =
    if eqb k.ordinal o then (if same k.name q.name then gap_test q.gap k.gap else some other_name) else some other_page

unfoldable pub old_goes_on : ℕ → List Wanted → List Key → Bool
old_goes_on o [] ks = true
old_goes_on o (q ∷ qs) [] = false
old_goes_on o (q ∷ qs) (k ∷ ks) = let more = old_goes_on o qs ks in passes (old_test o q k) && more

abbrev pub old_occurs : List Wanted → List Key → Bool
old_occurs qs [] = false
old_occurs qs (k ∷ ks) = old_goes_on k.ordinal qs (k ∷ ks)

unfoldable pub old_hits_from : List Wanted → ℕ → List Key → List ℕ
old_hits_from qs i [] = []
old_hits_from qs i (k ∷ ks) = (if old_occurs qs (k ∷ ks) then i ∷ [] else []) ++ old_hits_from qs (i + 1) ks

-- the old finder: "Order: 1, 2, 12, then the stream from its start"
abbrev pub old_hits_in : List Wanted → Answer → Found
old_hits_in qs (refuse n at) = not_found n at
old_hits_in qs (answer rs xs e) = found rs (old_hits_from qs 0 (map key_of rs))

abbrev pub old_find_asked : List ℕ → Widths → Query → Found
old_find_asked s w (ill_formed at) = not_found 12 at
old_find_asked s w (well_formed qs) = old_hits_in qs (follow w start (commands 0 0 s))

abbrev pub old_find_with : List ℕ → List ℕ → WidthList → Found
old_find_with s q (unsound at) = not_found 2 at
old_find_with s q (sound w) = old_find_asked s w (query q)

unfoldable pub old_find : List ℕ → List ℕ → List ℕ → Found
old_find s list q =
    if is_over stream_most s || (is_over 65_536 list || is_over 8_192 q) then not_found 1 0 else old_find_with s q (width_list list)

-- as a statement about record numbers
pub record OldOccursAt (qs : List Wanted) (ks : List Key) (i : ℕ) : Type 0 where
  pub exist : i + length qs ≤ length ks
  pub page : (j : ℕ) → j < length qs → (key_at ks (i + j)).ordinal ≡ (key_at ks i).ordinal
  pub name : (j : ℕ) → j < length qs → (key_at ks (i + j)).name ≡ (wanted_at qs j).name
  pub gap : (j : ℕ) → j < length qs → GapAsAsked (wanted_at qs j).gap (key_at ks (i + j)).gap

-- ---- what an empty family list gives

pub record EmptyFamilies : Type 0 where
  -- it is sound, and has no family
  pub no_family : family_list [] ≡ grouped []
  -- a query occurs where it did
  pub occurs : (qs : List Wanted) (ks : List Key) (i : ℕ) → OccursAt [] qs ks i → OldOccursAt qs ks i
  pub occurred : (qs : List Wanted) (ks : List Key) (i : ℕ) → OldOccursAt qs ks i → OccursAt [] qs ks i
  pub hits : (qs : List Wanted) (i : ℕ) (ks : List Key) → hits_from (map (sought []) qs) i ks ≡ old_hits_from qs i ks
  -- every answer is the old one, refusals too, with whatever room
  pub finds : (s list q : List ℕ) → find s list [] q ≡ old_find s list q
  pub finder : (records hits : ℕ) (s list q : List ℕ) → find_into records hits s list [] q ≡ found_in records hits (old_find s list q)
  -- never 14: the old numbers
  pub find_numbers : (s list q : List ℕ) (n at : ℕ) → find s list [] q ≡ not_found n at → InTableTo 12 n
  pub finder_numbers : (records hits : ℕ) (s list q : List ℕ) (n at : ℕ) → find_into records hits s list [] q ≡ not_found n at → InTableTo 13 n
