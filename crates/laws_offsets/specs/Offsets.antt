-- Document 01, "Refusal numbers and their order", with 14 by 2026-01 and 16 by 2026-06: which numbers each routine refuses with, for which
-- reason, where each of them points, and which comes first. The proofs stand in `proofs/`.
use Rattle.std.specs.Prelude.{ℕ, ◌<◌, ◌≤◌, List, [], ◌⊎◌, ◌≡◌, eqb, length, Err, if◌then◌else◌}
use Rattle.rules.specs.Widths.{Widths, unsound, sound, width_list}
use Rattle.rules.specs.Record.{refuse}
use Rattle.rules.specs.Families.{Family, ill_grouped, grouped, family_list}
use Rattle.rules.specs.Find.{Wanted, ill_formed, well_formed, query}
use Rattle.rules.specs.Answers.{read, read_into, not_spelled, respell, respell_into, not_found, find, find_into, refusal, judge}
use Rattle.laws_offsets.specs.Stream.{FirstByte, ArgumentAt, BarredAt, StreamOffset}
use Rattle.laws_offsets.specs.Lists.{ListOffset, FamilyOffset, QueryOffset}

-- 1: "stream over 16,777,216 bytes, list over 65,536, query over 8,192; offset 0". A stream and a list of which this is not so:
pub record NotTooLong (s list : List ℕ) : Type 0 where
  pub stream_short : length s ≤ 16_777_216
  pub list_short : length list ≤ 65_536

-- The table's rows, each with its reason and its offset; "Order: 1, 2, 12, then the stream from its start": a row asks that the reasons
-- before it are not there. Of the reader, room aside: 1 at 0; 2 in the width list; 3 to 11 and 16 in the stream, read with a sound list.
pub data ReadOffset (s list : List ℕ) : ℕ → ℕ → Type 0 where
  too_long : (16_777_216 < length s) ⊎ (65_536 < length list) → ReadOffset s list 1 0
  in_list : (at : ℕ) → NotTooLong s list → ListOffset list at → ReadOffset s list 2 at
  in_stream : (n at : ℕ) (w : Widths) → NotTooLong s list → width_list list ≡ sound w → StreamOffset w s n at → ReadOffset s list n at

-- Of the finder, which has a family list fl and a query q besides: none of the four is too long; 2026-01: "over 65,536 bytes it is 1"
pub record NoneTooLong (s list fl q : List ℕ) : Type 0 where
  pub read_short : NotTooLong s list
  pub families_short : length fl ≤ 65_536
  pub query_short : length q ≤ 8_192

-- 14 in the family list, "checked after 2 and before 12", where the width list is sound; 12 in the query, where both lists are; then the
-- stream, where the query is well formed.
pub data FindOffset (s list fl q : List ℕ) : ℕ → ℕ → Type 0 where
  one_too_long : (16_777_216 < length s) ⊎ (65_536 < length list) ⊎ (65_536 < length fl) ⊎ (8_192 < length q) → FindOffset s list fl q 1 0
  then_in_list : (at : ℕ) → NoneTooLong s list fl q → ListOffset list at → FindOffset s list fl q 2 at
  then_in_families : (at : ℕ) (w : Widths) → NoneTooLong s list fl q → width_list list ≡ sound w → FamilyOffset fl at → FindOffset s list fl q 14 at
  then_in_query : (at : ℕ) (w : Widths) (fs : List Family) → NoneTooLong s list fl q → width_list list ≡ sound w → family_list fl ≡ grouped fs → QueryOffset q at
      → FindOffset s list fl q 12 at
  then_in_stream : (n at : ℕ) (w : Widths) (fs : List Family) (qs : List Wanted) → NoneTooLong s list fl q → width_list list ≡ sound w → family_list fl ≡ grouped fs
      → query q ≡ well_formed qs → StreamOffset w s n at → FindOffset s list fl q n at

-- "need more room than lent": 13 at 0 too
pub data OrRoom (P : ℕ → ℕ → Type 0) : ℕ → ℕ → Type 0 where
  room_aside : (n at : ℕ) → P n at → OrRoom P n at
  no_room : OrRoom P 13 0

pub record Offsets : Type 0 where
  pub reads : (s list : List ℕ) (n at : ℕ) → read s list ≡ refuse n at → ReadOffset s list n at
  pub reader : (records entries : ℕ) (s list : List ℕ) (n at : ℕ) → read_into records entries s list ≡ refuse n at → OrRoom (ReadOffset s list) n at
  pub respells : (s list : List ℕ) (n at : ℕ) → respell s list ≡ not_spelled n at → OrRoom (ReadOffset s list) n at
  pub rewriter : (room : ℕ) (s list : List ℕ) (n at : ℕ) → respell_into room s list ≡ not_spelled n at → OrRoom (ReadOffset s list) n at
  pub finds : (s list fl q : List ℕ) (n at : ℕ) → find s list fl q ≡ not_found n at → FindOffset s list fl q n at
  pub finder : (records hits : ℕ) (s list fl q : List ℕ) (n at : ℕ) → find_into records hits s list fl q ≡ not_found n at → OrRoom (FindOffset s list fl q) n at
  pub judges : (s list : List ℕ) (n at : ℕ) → judge s list ≡ Err (refusal n at) → ReadOffset s list n at

-- ---- the same by numbers, and: every offset lies in its input, at most its length

-- the input that a refusal's offset is a place of
abbrev pub input_of : ℕ → List ℕ → List ℕ → List ℕ → List ℕ → List ℕ
input_of n s list fl q = if eqb n 2 then list else if eqb n 14 then fl else if eqb n 12 then q else s

-- the table's numbers up to one of them, and 16 by 2026-06; the table has 1 to 13, 14 by 2026-01, and 16
abbrev pub InTableTo : ℕ → ℕ → Type 0
InTableTo most n = ((1 ≤ n) × (n ≤ most)) ⊎ (n ≡ 16)

pub record Said (s list fl q : List ℕ) (n at : ℕ) : Type 0 where
  pub number : InTableTo 14 n
  -- (the reader and the rewriter have no family list and no query, so empty ones here)
  pub of_1 : n ≡ 1 → (at ≡ 0) × ((16_777_216 < length s) ⊎ (65_536 < length list) ⊎ (65_536 < length fl) ⊎ (8_192 < length q))
  pub of_2 : n ≡ 2 → ListOffset list at
  pub of_3_to_5 : 3 ≤ n → n ≤ 5 → FirstByte s at
  pub of_6 : n ≡ 6 → ArgumentAt s at
  pub of_7_to_10 : 7 ≤ n → n ≤ 10 → FirstByte s at
  pub of_11 : n ≡ 11 → at ≡ length s
  pub of_12 : n ≡ 12 → QueryOffset q at
  pub of_13 : n ≡ 13 → at ≡ 0
  pub of_14 : n ≡ 14 → FamilyOffset fl at
  pub of_16 : n ≡ 16 → BarredAt s at
  pub inside : at ≤ length (input_of n s list fl q)

-- 12 and 14 are the finder's alone: the reader and the rewriter have 1 to 11, 13 and 16; the judge has no 13 either
pub record ByNumber : Type 0 where
  pub reader : (records entries : ℕ) (s list : List ℕ) (n at : ℕ) → read_into records entries s list ≡ refuse n at → Said s list [] [] n at × (n ≡ 12 → ⊥) × (n ≡ 14 → ⊥)
  pub rewriter : (room : ℕ) (s list : List ℕ) (n at : ℕ) → respell_into room s list ≡ not_spelled n at → Said s list [] [] n at × (n ≡ 12 → ⊥) × (n ≡ 14 → ⊥)
  pub finder : (records hits : ℕ) (s list fl q : List ℕ) (n at : ℕ) → find_into records hits s list fl q ≡ not_found n at → Said s list fl q n at
  pub judge : (s list : List ℕ) (n at : ℕ) → judge s list ≡ Err (refusal n at) → Said s list [] [] n at × InTableTo 11 n

-- ---- "Each is given exactly for its reason."

-- The other way: where a row's reason is there, that refusal is given, with whatever room; so no two rows are there at once, and no
-- second place has what is said of the place.
pub record Exactly : Type 0 where
  pub reads : (s list : List ℕ) (n at : ℕ) → ReadOffset s list n at → read s list ≡ refuse n at
  pub reader : (records entries : ℕ) (s list : List ℕ) (n at : ℕ) → ReadOffset s list n at → read_into records entries s list ≡ refuse n at
  pub respells : (s list : List ℕ) (n at : ℕ) → ReadOffset s list n at → respell s list ≡ not_spelled n at
  pub rewriter : (room : ℕ) (s list : List ℕ) (n at : ℕ) → ReadOffset s list n at → respell_into room s list ≡ not_spelled n at
  pub finds : (s list fl q : List ℕ) (n at : ℕ) → FindOffset s list fl q n at → find s list fl q ≡ not_found n at
  pub finder : (records hits : ℕ) (s list fl q : List ℕ) (n at : ℕ) → FindOffset s list fl q n at → find_into records hits s list fl q ≡ not_found n at
  pub judges : (s list : List ℕ) (n at : ℕ) → ReadOffset s list n at → judge s list ≡ Err (refusal n at)
  -- a place of a list or of a query that has what is said of it is the one at which the rules refuse it
  pub list : (list : List ℕ) (at : ℕ) → ListOffset list at → width_list list ≡ unsound at
  pub families : (fl : List ℕ) (at : ℕ) → FamilyOffset fl at → family_list fl ≡ ill_grouped at
  pub query : (q : List ℕ) (at : ℕ) → QueryOffset q at → query q ≡ ill_formed at
  -- a query's place is before its end, unless it is empty
  pub query_inside : (q : List ℕ) (at : ℕ) → QueryOffset q at → (q ≡ []) ⊎ (at < length q)
