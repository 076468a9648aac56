-- Every refusal's number is one of the table's; its reason and its offset are what the table says of that number.
use Rattle.std.specs.Prelude.{Result, Ok, Err}
use Prim.Native.Nat.{ℕ, ◌<◌}
use mathlib.Core.Bool.{Bool, true, false, ◌||◌}
use mathlib.Core.List.{List, map}
use mathlib.Core.Logic.{◌⊎◌, inl, inr}
use mathlib.Core.Path.{◌≡◌, refl, sym, subst}
use borrow.Author.Tests.{ltb-true, ltb-false}
use lib.Dec.{ltb}
use lib.ListN.{length}
use Rattle.rules.specs.declared.Judging.{Judging}
use Rattle.rules.specs.declared.Refusal.{Refusal}
use Rattle.rules.specs.Scan.{commands}
use Rattle.rules.specs.Widths.{Widths, WidthList, unsound, sound, width_list}
use Rattle.rules.specs.State.{start}
use Rattle.rules.specs.Record.{Answer, refuse, answer, follow}
use Rattle.rules.specs.Families.{Family, FamilyList, ill_grouped, grouped, family_list}
use Rattle.rules.specs.Find.{Query, ill_formed, well_formed, query, Sought, sought}
use Rattle.rules.specs.Answers.{stream_most, is_over, read_with, read, room_for, read_into, Spelling, not_spelled, spelled, spell_if, spell_with, respell, spelling_in, respell_into, Found, not_found, found, hits_in, find_asked, find_grouped, find_with, find, found_in, find_into, judging_of, judge}
use Rattle.laws.proofs.Cases.{on, no, if_both, if_on}
use Rattle.laws_offsets.specs.Stream.{StreamOffset}
use Rattle.laws_offsets.specs.Offsets.{NotTooLong, ReadOffset, too_long, in_list, in_stream, NoneTooLong, FindOffset, one_too_long, then_in_list, then_in_families, then_in_query, then_in_stream, OrRoom, room_aside, no_room, Offsets}
use Rattle.laws_offsets.proofs.Stream as P
use Rattle.laws_offsets.proofs.Widths as W
use Rattle.laws_offsets.proofs.Families as F
use Rattle.laws_offsets.proofs.Query as Q

-- a refusal of each answer
abbrev AnswerIn : (ℕ → ℕ → Type 0) → Answer → Type 0
AnswerIn P (refuse n at) = P n at
AnswerIn P (answer rs xs e) = Unit {0}

abbrev SpellingIn : (ℕ → ℕ → Type 0) → Spelling → Type 0
SpellingIn P (not_spelled n at) = P n at
SpellingIn P (spelled t) = Unit {0}

abbrev FoundIn : (ℕ → ℕ → Type 0) → Found → Type 0
FoundIn P (not_found n at) = P n at
FoundIn P (found rs xs) = Unit {0}

abbrev JudgingIn : (ℕ → ℕ → Type 0) → Result Judging Refusal → Type 0
JudgingIn P (Err r) = P r.number r.offset
JudgingIn P (Ok j) = Unit {0}

-- ---- the reader

module _ (s list : List ℕ) where
  -- an input is over its limit, or none is
  over_in : (is_over stream_most s || is_over 65_536 list) ≡ true → (16_777_216 < length s) ⊎ (65_536 < length list)
  over_in h = on (is_over stream_most s) (λ a. inl (ltb-true 16_777_216 (length s) a)) (λ a. inr (ltb-true 65_536 (length list) (rw a at h)))

  short_in : (is_over stream_most s || is_over 65_536 list) ≡ false → NotTooLong s list
  short_in h =
      on (is_over stream_most s) (λ a. no (sym (let z : true ≡ false = rw a at h in z)))
      (λ a. record { stream_short = ltb-false 16_777_216 (length s) a; list_short = ltb-false 65_536 (length list) (rw a at h) })

  stream_in : (Row : ℕ → ℕ → Type 0) (w : Widths) → ((n at : ℕ) → StreamOffset w s n at → Row n at) → AnswerIn Row (follow w start (commands 0 0 s))
  stream_in Row w f = go (follow w start (commands 0 0 s)) (P.points w s)
    where
      go : (x : Answer) → P.Points w s x → AnswerIn Row x
      go (refuse n at) h = f n at h
      go (answer rs xs d) h = tt

  list_in : NotTooLong s list → (x : WidthList) → width_list list ≡ x → W.Claim list x → AnswerIn (ReadOffset s list) (read_with s x)
  list_in i (unsound at) e h = in_list at i h
  list_in i (sound w) e h = stream_in (ReadOffset s list) w (λ n at o. in_stream n at w i e o)

  read_in : AnswerIn (ReadOffset s list) (read s list)
  unfolding read
  read_in =
      if_on (AnswerIn (ReadOffset s list)) (is_over stream_most s || is_over 65_536 list) _ _ (λ h. too_long (over_in h))
      (λ h. list_in (short_in h) (width_list list) refl (W.list-claim list))

  into_in : (records entries : ℕ) → AnswerIn (OrRoom (ReadOffset s list)) (read_into records entries s list)
  unfolding read_into
  into_in records entries = go (read s list) read_in
    where
      go : (x : Answer) → AnswerIn (ReadOffset s list) x → AnswerIn (OrRoom (ReadOffset s list)) (room_for records entries x)
      go (refuse n at) h = room_aside n at h
      go (answer rs xs e) h = if_both (AnswerIn (OrRoom (ReadOffset s list))) (ltb records (length rs) || ltb entries (length xs)) _ _ no_room tt

  judge_in : JudgingIn (ReadOffset s list) (judge s list)
  unfolding judge
  judge_in = go (read s list) read_in
    where
      go : (x : Answer) → AnswerIn (ReadOffset s list) x → JudgingIn (ReadOffset s list) (judging_of (spell_with s (width_list list)) x)
      go (refuse n at) h = h
      go (answer rs xs e) h = tt

  -- ---- the rewriter

  spell_in : SpellingIn (OrRoom (ReadOffset s list)) (respell s list)
  unfolding respell
  spell_in = go (spell_with s (width_list list)) (read s list) read_in
    where
      go : (t : List ℕ) (x : Answer) → AnswerIn (ReadOffset s list) x → SpellingIn (OrRoom (ReadOffset s list)) (spell_if t x)
      go t (refuse n at) h = room_aside n at h
      go t (answer rs xs e) h = if_both (SpellingIn (OrRoom (ReadOffset s list))) (is_over stream_most t) _ _ no_room tt

  spell_into_in : (room : ℕ) → SpellingIn (OrRoom (ReadOffset s list)) (respell_into room s list)
  unfolding respell_into
  spell_into_in room = go (respell s list) spell_in
    where
      go : (x : Spelling) → SpellingIn (OrRoom (ReadOffset s list)) x → SpellingIn (OrRoom (ReadOffset s list)) (spelling_in room x)
      go (not_spelled n at) h = h
      go (spelled t) h = if_both (SpellingIn (OrRoom (ReadOffset s list))) (is_over room t) _ _ no_room tt

  -- ---- the finder

  module _ (fl q : List ℕ) where
    abbrev is_long : Bool
    is_long = is_over stream_most s || (is_over 65_536 list || (is_over 65_536 fl || is_over 8_192 q))

    over_asked : is_long ≡ true → (16_777_216 < length s) ⊎ (65_536 < length list) ⊎ (65_536 < length fl) ⊎ (8_192 < length q)
    over_asked h =
        on (is_over stream_most s) (λ a. inl (ltb-true 16_777_216 (length s) a))
        (λ a. on (is_over 65_536 list) (λ b. inr (inl (ltb-true 65_536 (length list) b)))
        (λ b. on (is_over 65_536 fl) (λ c. inr (inr (inl (ltb-true 65_536 (length fl) c)))) (λ c. inr (inr (inr (ltb-true 8_192 (length q) (rw (a, b, c) at h)))))))

    short_asked : is_long ≡ false → NoneTooLong s list fl q
    short_asked h =
        on (is_over stream_most s) (λ a. no (sym (let z : true ≡ false = rw a at h in z)))
        (λ a. on (is_over 65_536 list) (λ b. no (sym (let z : true ≡ false = rw (a, b) at h in z)))
        (λ b. on (is_over 65_536 fl) (λ c. no (sym (let z : true ≡ false = rw (a, b, c) at h in z)))
        (λ c. record {
          read_short = record { stream_short = ltb-false 16_777_216 (length s) a; list_short = ltb-false 65_536 (length list) b };
          families_short = ltb-false 65_536 (length fl) c;
          query_short = ltb-false 8_192 (length q) (rw (a, b, c) at h);
        })))

    abbrev Row : ℕ → ℕ → Type 0
    Row n at = FindOffset s list fl q n at

    hits_in_lem : (P : ℕ → ℕ → Type 0) (qs : List Sought) (x : Answer) → AnswerIn P x → FoundIn P (hits_in qs x)
    hits_in_lem P qs (refuse n at) h = h
    hits_in_lem P qs (answer rs xs e) h = tt

    asked_in : NoneTooLong s list fl q → (w : Widths) → width_list list ≡ sound w → (fs : List Family) → family_list fl ≡ grouped fs → (x : Query) → query q ≡ x → Q.Claim q x
        → FoundIn Row (find_asked s w fs x)
    asked_in i w e fs g (ill_formed at) f h = then_in_query at w fs i e g h
    asked_in i w e fs g (well_formed qs) f h =
        hits_in_lem Row (map (sought fs) qs) (follow w start (commands 0 0 s)) (stream_in Row w (λ n at o. then_in_stream n at w fs qs i e g f o))

    grouped_in : NoneTooLong s list fl q → (w : Widths) → width_list list ≡ sound w → (x : FamilyList) → family_list fl ≡ x → F.Claim fl x → FoundIn Row (find_grouped s w q x)
    grouped_in i w e (ill_grouped at) g h = then_in_families at w i e h
    grouped_in i w e (grouped fs) g h = asked_in i w e fs g (query q) refl (Q.query-claim q)

    with_in : NoneTooLong s list fl q → (x : WidthList) → width_list list ≡ x → W.Claim list x → FoundIn Row (find_with s fl q x)
    with_in i (unsound at) e h = then_in_list at i h
    with_in i (sound w) e h = grouped_in i w e (family_list fl) refl (F.family_claim fl)

    find_in : FoundIn Row (find s list fl q)
    unfolding find
    find_in = if_on (FoundIn Row) is_long _ _ (λ h. one_too_long (over_asked h)) (λ h. with_in (short_asked h) (width_list list) refl (W.list-claim list))

    find_into_in : (records hits : ℕ) → FoundIn (OrRoom Row) (find_into records hits s list fl q)
    unfolding find_into
    find_into_in records hits = go (find s list fl q) find_in
      where
        go : (x : Found) → FoundIn Row x → FoundIn (OrRoom Row) (found_in records hits x)
        go (not_found n at) h = room_aside n at h
        go (found rs xs) h = if_both (FoundIn (OrRoom Row)) (ltb records (length rs) || ltb hits (length xs)) _ _ no_room tt

pub offsets : Offsets
offsets = record {
  reads = λ s list n at e. subst (AnswerIn (ReadOffset s list)) e (read_in s list);
  reader = λ records entries s list n at e. subst (AnswerIn (OrRoom (ReadOffset s list))) e (into_in s list records entries);
  respells = λ s list n at e. subst (SpellingIn (OrRoom (ReadOffset s list))) e (spell_in s list);
  rewriter = λ room s list n at e. subst (SpellingIn (OrRoom (ReadOffset s list))) e (spell_into_in s list room);
  finds = λ s list fl q n at e. subst (FoundIn (FindOffset s list fl q)) e (find_in s list fl q);
  finder = λ records hits s list fl q n at e. subst (FoundIn (OrRoom (FindOffset s list fl q))) e (find_into_in s list fl q records hits);
  judges = λ s list n at e. subst (JudgingIn (ReadOffset s list)) e (judge_in s list);
}
