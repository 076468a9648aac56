-- Where a row of the table is there, with what is said of its place, that refusal is given.
use Rattle.std.specs.Prelude.{Err}
use Prim.Native.Nat.{ℕ, zero, suc, ◌+◌, ◌-◌, ◌<◌, ◌≤◌}
use native.Mathlib.Omega.{arith}
use native.Mathlib.Nat.{add-zero}
use mathlib.Core.Bool.{Bool, true, false, ◌||◌}
use mathlib.Core.List.{List, [], ◌∷◌, ◌++◌, append_assoc, append-nil, map}
use mathlib.Core.Logic.{◌⊎◌, inl, inr}
use mathlib.Core.Path.{◌≡◌, refl, sym, ap, subst, ◌∙◌}
use borrow.Author.Tests.{eqb-true, eqb-false, ltb-true, ltb-false, lt-ltb, le-ltb}
use lib.Dec.{ltb}
use lib.ListN.{length, take, drop, get_or, length-drop, take-append-drop, get_or-eq_default}
use lib.Seq.{get_or-drop, take-take}
use Rattle.rules.specs.Bytes.{is, is_white, span, one_line}
use Rattle.rules.specs.Act.{Cmd}
use Rattle.rules.specs.Scan.{letter, got, bad, Scan, command, commands}
use Rattle.rules.specs.Widths.{lines_from, Widths, WidthList, unsound, sound, width_list}
use Rattle.rules.specs.State.{Env, start, Glyph, Item}
use Rattle.rules.specs.Record.{Answer, refuse, after_rows, glyph_rows, item_rows, follow}
use Rattle.rules.specs.Families.{Family, FamilyList, ill_grouped, grouped, family_list}
use Rattle.rules.specs.Find.{Wanted, sought, query_lines, Query, ill_formed, well_formed, query}
use Rattle.rules.specs.Answers.{stream_most, is_over, read, room_for, read_into, not_spelled, spell_if, spell_with, respell, spelling_in, respell_into, not_found, hits_in, find_asked, find_grouped, find_with, find, found_in, find_into, refusal, judging_of, judge}
use Rattle.laws.proofs.Cases.{on, no, or_true}
use Rattle.laws_scan.proofs.Bounds.{bad_place}
use Rattle.laws_arguments.proofs.Arguments.{points_at_argument}
use Rattle.laws_arguments.proofs.Names.{refuses_barred}
use Rattle.laws_scan.proofs.Walk.{from, from_end, from_white, from_comment, from_bad, from_got}
use Rattle.laws_find.specs.Written.{gap_line}
use Rattle.laws_offsets.specs.Stream.{byte_at, behind_at, command_at, FirstByte, ReadTo, from_start, past_white, past_comment, past_command, Fault, as_written, by_argument, by_name, as_done, behind-stop, StreamOffset, at_command, at_end}
use Rattle.laws_offsets.specs.Lists.{LineStart, first_line, behind_newline, line_end, WrongAt, unended, wrong_line_lem, missing, ListOffset, GroupedWrongAt, unended_family, wrong_family, missing_same, FamilyOffset, AskedWrongAt, empty, unended_line, wrong_asked, last_gap, QueryOffset}
use Rattle.laws_offsets.specs.Offsets.{ReadOffset, too_long, in_list, in_stream, NoneTooLong, FindOffset, one_too_long, then_in_list, then_in_families, then_in_query, then_in_stream, Exactly}
use Rattle.laws_offsets.proofs.ByNumber.{start_inside}
use Rattle.laws_offsets.proofs.Widths as W
use Rattle.laws_offsets.proofs.Families as F
use Rattle.laws_offsets.proofs.Query as Q

-- ---- lists

-- no newline before the end of a line
no_newline : (r : List ℕ) (i : ℕ) → i < one_line r → get_or r i 0 ≡ 10 → ⊥
unfolding span
no_newline [] i h e = omega arith
no_newline (b ∷ r) zero h e = on (is "\n" b) (λ k. let z : 0 < 0 = rw k at h in omega arith) (λ k. eqb-false b 10 k e)
no_newline (b ∷ r) (suc i) h e =
    on (is "\n" b) (λ k. let z : suc i < 0 = rw k at h in omega arith) (λ k. no_newline r i (let z : suc i < suc (one_line r) = rw k at h in omega arith) e)

-- a line that starts further on starts behind this one
start-behind : (t : List ℕ) (a b : ℕ) → LineStart t b → a < b → line_end t a < b
start-behind t a _ first_line h = absurd (omega arith)
start-behind t a _ (behind_newline p l e) h =
    on (ltb p (line_end t a))
    (λ k. absurd (no_newline (drop a t) (p - a) (omega (arith, ltb-true p (line_end t a) k)) (get_or-drop a t (p - a) 0 ∙ ap (λ (i : ℕ). get_or t i 0) (let z : a + (p - a) ≡ p = omega arith in z) ∙ e)))
    (λ k. omega (arith, ltb-false p (line_end t a) k))

-- Where a line is wrong, whatever stands behind it, none behind it is the first wrong one. g has the place of a text's refusal.
clash : (g : List ℕ → ℕ) (t : List ℕ) (a b : ℕ) → LineStart t b → a < b → ((m : List ℕ) → g (take (line_end t a + 1) t ++ m) ≡ a)
    → ((m : List ℕ) → g (take b t ++ 10 ∷ m) ≡ b) → ⊥
clash g t a b l h f k =
    let n : ℕ = line_end t a + 1 in
    let z : n ≤ b = omega (arith, start-behind t a b l h) in
    let e : take n t ++ drop n (take b t) ≡ take b t = ap (λ (u : List ℕ). u ++ drop n (take b t)) (sym (take-take n b t z)) ∙ take-append-drop n (take b t) in
    let w : g (take b t ++ 10 ∷ []) ≡ a = ap g (ap (λ (u : List ℕ). u ++ 10 ∷ []) (sym e) ∙ append_assoc (take n t) (drop n (take b t)) (10 ∷ [])) ∙ f (drop n (take b t) ++ 10 ∷ []) in
    let y : a ≡ b = sym w ∙ k [] in
    omega arith

-- one place where none is before another
one_place : (a b : ℕ) → (a < b → ⊥) → (b < a → ⊥) → a ≡ b
one_place a b f g =
    on (ltb a b) (λ h. absurd (f (ltb-true a b h)))
    (λ h. on (ltb b a) (λ k. absurd (g (ltb-true b a k))) (λ k. omega (arith, ltb-false a b h, ltb-false b a k)))

abbrev list_place : WidthList → ℕ
list_place (unsound at) = at
list_place (sound w) = 0

list_order : (list : List ℕ) (a b : ℕ) → ListOffset list a → ListOffset list b → a < b → ⊥
list_order list a b x y h = go x.here
  where
    go : WrongAt list a → ⊥
    go (unended i e) = omega (arith, start-behind list a b y.line h, start_inside list b y.line)
    go (wrong_line_lem i f) = clash (λ t. list_place (width_list t)) list a b y.line h (λ m. ap list_place (f m)) (λ m. ap list_place (y.first m))
    go (missing e n t w l s) = omega (arith, start_inside list b y.line)

-- what stands up to behind a line, and what stands behind that
whole_by : (t : List ℕ) (k : ℕ) (P : List ℕ → Type 0) → ((m : List ℕ) → P (take k t ++ m)) → P t
whole_by t k P f = subst P (take-append-drop k t) (f (drop k t))

list-refused : (list : List ℕ) (at : ℕ) → ListOffset list at → width_list list ≡ unsound at
list-refused list at x = go (width_list list) refl (W.list-claim list)
  where
    not_sound : (w : Widths) → width_list list ≡ sound w → LineStart list (length list) → WrongAt list at → ⊥
    not_sound w e c (unended i l) = omega (arith, start-behind list at (length list) c i)
    not_sound w e c (wrong_line_lem i f) = no (ap W.is_sound (sym (whole_by list (line_end list at + 1) (λ t. width_list t ≡ unsound at) f) ∙ e))
    not_sound w e c (missing z n t v l s) = n w e

    go : (a : WidthList) → width_list list ≡ a → W.Claim list a → width_list list ≡ unsound at
    go (unsound p) e c = e ∙ ap unsound (one_place p at (list_order list p at c x) (list_order list at p x c))
    go (sound w) e c = absurd (not_sound w e (rw append-nil at (c.start [])) x.here)

abbrev family_place : FamilyList → ℕ
family_place (ill_grouped at) = at
family_place (grouped fs) = 0

family_order : (fl : List ℕ) (a b : ℕ) → FamilyOffset fl a → FamilyOffset fl b → a < b → ⊥
family_order fl a b x y h = go x.here
  where
    go : GroupedWrongAt fl a → ⊥
    go (unended_family i e) = omega (arith, start-behind fl a b y.line h, start_inside fl b y.line)
    go (wrong_family i f) = clash (λ t. family_place (family_list t)) fl a b y.line h (λ m. ap family_place (f m)) (λ m. ap family_place (y.first m))
    go (missing_same e n m fs g s) = omega (arith, start_inside fl b y.line)

families_refused : (fl : List ℕ) (at : ℕ) → FamilyOffset fl at → family_list fl ≡ ill_grouped at
families_refused fl at x = go (family_list fl) refl (F.family_claim fl)
  where
    not-grouped : (fs : List Family) → family_list fl ≡ grouped fs → LineStart fl (length fl) → GroupedWrongAt fl at → ⊥
    not-grouped fs e c (unended_family i l) = omega (arith, start-behind fl at (length fl) c i)
    not-grouped fs e c (wrong_family i f) = no (ap F.is_grouped (sym (whole_by fl (line_end fl at + 1) (λ t. family_list t ≡ ill_grouped at) f) ∙ e))
    not-grouped fs e c (missing_same z n m gs g s) = n fs e

    go : (a : FamilyList) → family_list fl ≡ a → F.Claim fl a → family_list fl ≡ ill_grouped at
    go (ill_grouped p) e c = e ∙ ap ill_grouped (one_place p at (family_order fl p at c x) (family_order fl at p x c))
    go (grouped fs) e c = absurd (not-grouped fs e (rw append-nil at (c.0.start [])) x.here)

abbrev query_place : Query → ℕ
query_place (ill_formed at) = at
query_place (well_formed qs) = 0

gap_length : (q : List ℕ) (a : ℕ) → drop a q ≡ gap_line → a + 8 ≡ length q
gap_length q a e = omega (arith, sym (length-drop a q) ∙ ap length e)

query_inside : (q : List ℕ) (at : ℕ) → QueryOffset q at → (q ≡ []) ⊎ (at < length q)
query_inside q at x = go x.here
  where
    go : AskedWrongAt q at → (q ≡ []) ⊎ (at < length q)
    go (empty e z) = inl e
    go (unended_line i e) = inr i
    go (wrong_asked i f) = inr (omega arith)
    go (last_gap e qs f) = inr (omega (arith, gap_length q at e))

query_order : (q : List ℕ) (a b : ℕ) → QueryOffset q a → QueryOffset q b → a < b → ⊥
unfolding span
query_order q a b x y h = go x.here (query_inside q b y)
  where
    go : AskedWrongAt q a → (q ≡ []) ⊎ (b < length q) → ⊥
    go w (inl e) = omega (arith, start_inside q b y.line, ap length e)
    go (empty e z) (inr i) = omega (arith, ap length e)
    go (unended_line k e) (inr i) = omega (arith, start-behind q a b y.line h)
    go (wrong_asked k f) (inr i) = clash (λ t. query_place (query t)) q a b y.line h (λ m. ap query_place (f m)) (λ m. ap query_place (y.first m))
    go (last_gap e qs f) (inr i) = omega (arith, gap_length q a e, start-behind q a b y.line h, ap one_line e)

abbrev is_well : Query → Bool
is_well (ill_formed at) = false
is_well (well_formed qs) = true

query-refused : (q : List ℕ) (at : ℕ) → QueryOffset q at → query q ≡ ill_formed at
unfolding query query_lines lines_from
query-refused q at x = go (query q) refl (Q.query-claim q)
  where
    gap_behind : (qs : List Wanted) → query (take at q) ≡ well_formed qs → query (take at q ++ gap_line) ≡ ill_formed (length (take at q))
    gap_behind qs e = let c : Q.Claim (take at q) (well_formed qs) = rw e at (Q.query-claim (take at q)) in Q.gap_last (take at q) c.0 c.1

    not_well : (qs : List Wanted) → query q ≡ well_formed qs → LineStart q (length q) → AskedWrongAt q at → ⊥
    not_well qs e c (empty z y) = no (ap is_well (ap query (sym z) ∙ e))
    not_well qs e c (unended_line i l) = omega (arith, start-behind q at (length q) c i)
    not_well qs e c (wrong_asked i f) = no (ap is_well (sym (whole_by q (line_end q at + 1) (λ t. query t ≡ ill_formed at) f) ∙ e))
    not_well qs e c (last_gap z ws f) =
        no (ap is_well (sym (gap_behind ws f) ∙ ap (λ (u : List ℕ). query (take at q ++ u)) (sym z) ∙ ap query (take-append-drop at q) ∙ e))

    go : (a : Query) → query q ≡ a → Q.Claim q a → query q ≡ ill_formed at
    go (ill_formed p) e c = e ∙ ap ill_formed (one_place p at (query_order q p at c x) (query_order q at p x c))
    go (well_formed qs) e c = absurd (not_well qs e (rw append-nil at (c.1.start [])) x.here)

-- ---- streams

-- whitespace and `#` begin no command
pub white-bad : (b : ℕ) (r : List ℕ) → is_white b ≡ true → command b r ≡ bad 3 0
unfolding letter
white-bad b r h =
    on (is " " b) (λ e. rw (eqb-true b 32 e))
    (λ e. on (is "\t" b) (λ f. rw (eqb-true b 9 f))
    (λ f. rw (eqb-true b 10 (rw (e, f) at h))))

pub hash_bad : (b : ℕ) (r : List ℕ) → is "#" b ≡ true → command b r ≡ bad 3 0
unfolding letter
hash_bad b r h = rw (eqb-true b 35 h)

abbrev is_got : Scan → Bool
is_got (bad n k) = false
is_got (got c a l) = true

pub got_no : (p : Bool) (x : Scan) (c : Cmd) (a l : ℕ) → x ≡ got c a l → (p ≡ true → x ≡ bad 3 0) → p ≡ false
got_no p x c a l e f = on p (λ h. no (ap is_got (sym (f h) ∙ e))) (λ h. h)

module _ (w : Widths) (s : List ℕ) where
  -- a byte that passes a test that 0 does not pass is one of the stream's
  pub inside_of : (p : ℕ → Bool) (at : ℕ) → p 0 ≡ false → p (byte_at s at) ≡ true → at < length s
  inside_of p at z h =
      on (ltb at (length s)) (λ k. ltb-true at (length s) k)
      (λ k. no (sym z ∙ ap p (sym (get_or-eq_default s 0 (ltb-false at (length s) k))) ∙ h))

  pub got_inside : (at : ℕ) (c : Cmd) (a l : ℕ) → command_at s at ≡ got c a l → at < length s
  unfolding letter
  got_inside at c a l e =
      on (ltb at (length s)) (λ k. ltb-true at (length s) k)
      (λ k. no (ap is_got (sym (let z : command (byte_at s at) (behind_at s at) ≡ bad 3 0 = rw (get_or-eq_default s 0 (ltb-false at (length s) k)) in z) ∙ e)))

  after_refuse : (x : Answer) (gs : List Glyph) (xs : List Item) (at a l n p : ℕ) → x ≡ refuse n p → after_rows (glyph_rows a gs) (item_rows at l xs) x ≡ refuse n p
  after_refuse x gs xs at a l n p e = rw e

  -- what is refused from a place on is refused from the start
  carried : (at : ℕ) (e : Env) → ReadTo w s at e → (n p : ℕ) → follow w e (from s at) ≡ refuse n p → follow w start (commands 0 0 s) ≡ refuse n p
  unfolding follow
  carried _ _ from_start n p f = f
  carried _ _ (past_white at e h q) n p f = carried at e h n p (rw (from_white s at (inside_of is_white at refl q) q) f)
  carried _ _ (past_comment at e h q) n p f =
      let k : is_white (byte_at s at) ≡ false = rw (eqb-true (byte_at s at) 35 q) in
      carried at e h n p (rw (from_comment s at (inside_of (λ b. is "#" b) at refl q) k q (at + 1 + one_line (behind_at s at)) refl) f)
  carried _ _ (past_command at e d c a l gs xs h q r) n p f =
      let i : at < length s = got_inside at c a l q in
      let k : is_white (byte_at s at) ≡ false = got_no (is_white (byte_at s at)) (command_at s at) c a l q (white-bad (byte_at s at) (behind_at s at)) in
      let j : is "#" (byte_at s at) ≡ false = got_no (is "#" (byte_at s at)) (command_at s at) c a l q (hash_bad (byte_at s at) (behind_at s at)) in
      carried at e h n p (rw (from_got s at i k j c a l q, r) (after_refuse (follow w d (from s (at + l))) gs xs at (at + a) l n p f))

  fault-refused : (p : ℕ) (e : Env) (n at : ℕ) → FirstByte s p → Fault w s p e n at → follow w e (from s p) ≡ refuse n at
  unfolding follow
  fault-refused p e _ _ b (as_written n k h q lo hi) =
      rw (from_bad s p b.inside b.no_white b.no_comment n k h, q, bad_place (byte_at s p) (behind_at s p) n k h (λ z. omega arith), add-zero)
  fault-refused p e _ _ b (by_argument k o q) = rw (from_bad s p b.inside b.no_white b.no_comment 6 k (points_at_argument.given (byte_at s p) (behind_at s p) k o), q)
  fault-refused p e _ _ b (by_name o q) = rw (from_bad s p b.inside b.no_white b.no_comment 16 0 (refuses_barred.given (byte_at s p) (behind_at s p) o), q, add-zero)
  fault-refused p e _ _ b (as_done n c a l h q lo hi) = rw (from_got s p b.inside b.no_white b.no_comment c a l h, q)
  fault-refused p e _ _ b (behind-stop n k h q) = rw (from_bad s p b.inside b.no_white b.no_comment n k h, q)

  stream-refused : (n at : ℕ) → StreamOffset w s n at → follow w start (commands 0 0 s) ≡ refuse n at
  unfolding follow
  stream-refused _ _ (at_command n at f) = carried f.place f.env f.read_to n at (fault-refused f.place f.env n at f.first f.fault)
  stream-refused _ _ (at_end e h q) = carried (length s) e h 11 (length s) (rw (from_end s (length s) (omega arith), q))

-- ---- answers

module _ (s list : List ℕ) where
  read-refused : (n at : ℕ) → ReadOffset s list n at → read s list ≡ refuse n at
  unfolding read
  read-refused _ _ (too_long (inl h)) = rw (lt-ltb 16_777_216 (length s) h)
  read-refused _ _ (too_long (inr h)) = rw (or_true (is_over stream_most s) (is_over 65_536 list) (lt-ltb 65_536 (length list) h))
  read-refused _ _ (in_list at i o) = rw (le-ltb 16_777_216 (length s) i.stream_short, le-ltb 65_536 (length list) i.list_short, list-refused list at o)
  read-refused _ _ (in_stream n at w i e o) =
      rw (le-ltb 16_777_216 (length s) i.stream_short, le-ltb 65_536 (length list) i.list_short, e) (stream-refused w s n at o)

  reader_refused : (records entries n at : ℕ) → ReadOffset s list n at → read_into records entries s list ≡ refuse n at
  unfolding read_into
  reader_refused records entries n at o = ap (room_for records entries) (read-refused n at o)

  respell-refused : (n at : ℕ) → ReadOffset s list n at → respell s list ≡ not_spelled n at
  unfolding respell
  respell-refused n at o = ap (spell_if (spell_with s (width_list list))) (read-refused n at o)

  rewriter_refused : (room n at : ℕ) → ReadOffset s list n at → respell_into room s list ≡ not_spelled n at
  unfolding respell_into
  rewriter_refused room n at o = ap (spelling_in room) (respell-refused n at o)

  judge-refused : (n at : ℕ) → ReadOffset s list n at → judge s list ≡ Err (refusal n at)
  unfolding judge
  judge-refused n at o = ap (judging_of (spell_with s (width_list list))) (read-refused n at o)

  module _ (fl q : List ℕ) where
    -- none of the four is over its limit
    find_short : NoneTooLong s list fl q → find s list fl q ≡ find_with s fl q (width_list list)
    unfolding find
    find_short i =
        rw (
          le-ltb 16_777_216 (length s) i.read_short.stream_short,
          le-ltb 65_536 (length list) i.read_short.list_short,
          le-ltb 65_536 (length fl) i.families_short,
          le-ltb 8_192 (length q) i.query_short,
        )

    find_long : (is_over stream_most s || (is_over 65_536 list || (is_over 65_536 fl || is_over 8_192 q))) ≡ true → find s list fl q ≡ not_found 1 0
    unfolding find
    find_long h = rw h

    find-refused : (n at : ℕ) → FindOffset s list fl q n at → find s list fl q ≡ not_found n at
    find-refused _ _ (one_too_long (inl h)) = find_long (rw (lt-ltb 16_777_216 (length s) h))
    find-refused _ _ (one_too_long (inr (inl h))) = find_long (or_true (is_over stream_most s) _ (rw (lt-ltb 65_536 (length list) h)))
    find-refused _ _ (one_too_long (inr (inr (inl h)))) = find_long (or_true (is_over stream_most s) _ (or_true (is_over 65_536 list) _ (rw (lt-ltb 65_536 (length fl) h))))
    find-refused _ _ (one_too_long (inr (inr (inr h)))) =
        find_long (or_true (is_over stream_most s) _ (or_true (is_over 65_536 list) _ (or_true (is_over 65_536 fl) _ (lt-ltb 8_192 (length q) h))))
    find-refused _ _ (then_in_list at i o) = find_short i ∙ ap (find_with s fl q) (list-refused list at o)
    find-refused _ _ (then_in_families at w i e o) = find_short i ∙ ap (find_with s fl q) e ∙ ap (find_grouped s w q) (families_refused fl at o)
    find-refused _ _ (then_in_query at w fs i e g o) = find_short i ∙ ap (find_with s fl q) e ∙ ap (find_grouped s w q) g ∙ ap (find_asked s w fs) (query-refused q at o)
    find-refused _ _ (then_in_stream n at w fs qs i e g f o) =
        find_short i ∙ ap (find_with s fl q) e ∙ ap (find_grouped s w q) g ∙ ap (find_asked s w fs) f ∙ ap (hits_in (map (sought fs) qs)) (stream-refused w s n at o)

    finder_refused : (records hits n at : ℕ) → FindOffset s list fl q n at → find_into records hits s list fl q ≡ not_found n at
    unfolding find_into
    finder_refused records hits n at o = ap (found_in records hits) (find-refused n at o)

pub exactly : Exactly
exactly = record {
  reads = read-refused;
  reader = λ records entries s list n at o. reader_refused s list records entries n at o;
  respells = respell-refused;
  rewriter = λ room s list n at o. rewriter_refused s list room n at o;
  finds = find-refused;
  finder = λ records hits s list fl q n at o. finder_refused s list fl q records hits n at o;
  judges = judge-refused;
  list = list-refused;
  families = families_refused;
  query = query-refused;
  query_inside = query_inside;
}
