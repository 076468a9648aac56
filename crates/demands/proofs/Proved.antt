-- Every demand, proved: each is put together from what was proved of calls.
use Rattle.std.specs.Prelude.{Result, Ok, Err}
use Prim.Native.Nat.{ℕ, ◌<◌, ◌≤◌}
use native.Mathlib.Omega.{arith}
use mathlib.Core.List.{List, [], map}
use mathlib.Core.Logic.{◌⊎◌, inl, inr}
use mathlib.Core.Path.{◌≡◌, refl, sym, ap, subst, ◌∙◌}
use lib.ListN.{length, length-map}
use borrow.Author.Tests.{ltb-true, ltb-false}
use Rattle.rules.specs.declared.Record.{Record}
use Rattle.rules.specs.declared.Entry.{Entry}
use Rattle.rules.specs.declared.Reading.{Reading}
use Rattle.rules.specs.declared.Judging.{Judging}
use Rattle.rules.specs.declared.Refusal.{Refusal}
use Rattle.rules.specs.State.{Env, Glyph, Item}
use Rattle.rules.specs.Widths.{Widths, width_list}
use Rattle.rules.specs.Record.{GlyphRow, ItemRow, Answer, refuse, answer}
use Rattle.rules.specs.Answers.{stream_most, is_over, length_of, read, room_for, read_into, reading_of, records_over, entries_over, respell_into, respelling_of, buffer_over, found_in, find_into, finding_of, records_found, hits_over, spell_with, refusal, judging_of, judge}
use Rattle.rules.specs.Calls.{ReadCall, JudgeCall}
use Rattle.rules.specs.Rules.{rules}
use Rattle.laws.proofs.Cases.{on}
use Rattle.laws_scan.proofs.Written.{integers_as_written}
use Rattle.laws_scan.proofs.LineBreaks.{line_breaks}
use Rattle.laws_scan.proofs.Ignored.{ignored_in_limit}
use Rattle.laws_motion.proofs.Moved.{numbers_hold, motions_hold, refusal_10}
use Rattle.laws_motion.proofs.Worded.{advances_hold, words_hold}
use Rattle.laws_motion.proofs.Runs.{in_every_run, in_every_list}
use Rattle.laws_motion.proofs.Needed.{reasons_hold, phases_hold}
use Rattle.laws_motion.proofs.Held.{recorded_holds, entered_holds, settings_hold, ends_hold}
use Rattle.laws_arguments.proofs.Names.{refuses_barred}
use Rattle.laws_find.proofs.Families.{match_none}
use Rattle.laws_offsets.specs.Offsets.{InTableTo}
use Rattle.laws_offsets.proofs.FontLines.{font_lines}
use Rattle.laws_offsets.proofs.Framed as frame
use Rattle.laws_answers.specs.Old.{old_find}
use Rattle.laws_answers.proofs.Judged.{judged}
use Rattle.laws_answers.proofs.Old.{empty_families}
use Rattle.demands.specs.Demands as D
use Rattle.demands.specs.Demands.{SoundList, Allowed, house_spelling}
use Rattle.demands.proofs.Allowed.{Stream, read_allowed}
use Rattle.demands.proofs.Forms as forms
use Rattle.demands.proofs.Clear.{each_clear, records_clear}
use Rattle.demands.proofs.ReadCalls as read-calls
use Rattle.demands.proofs.Places as places
use Rattle.demands.proofs.SpellCalls as spell-calls
use Rattle.demands.proofs.Families as families
use Rattle.demands.proofs.FindCalls as find-calls
use Rattle.demands.proofs.FirstNames as first

-- ---- 1

pub answer_all : D.Answer
answer_all = record {
  reader = λ s list rs es. (reading_of (read_into (length rs) (length es) s list), records_over rs (read_into (length rs) (length es) s list), entries_over es (read_into (length rs) (length es) s list), record { answer = refl; records = refl; entries = refl });
  reader_one = λ s list rs es r r₂ rs' rs₂' es' es₂' c c₂. (c.answer ∙ sym c₂.answer, c.records ∙ sym c₂.records, c.entries ∙ sym c₂.entries);
  reader_lengths = λ s list rs es r rs' es' c. read-calls.lengths s list rs es r rs' es' c;
  rewriter = λ s list o. (respelling_of (respell_into (length o) s list), buffer_over o (respell_into (length o) s list), record { answer = refl; buffer = refl });
  rewriter_one = λ s list o r r₂ o' o₂' c c₂. (c.answer ∙ sym c₂.answer, c.buffer ∙ sym c₂.buffer);
  rewriter_length = λ s list o r o' c. spell-calls.buffer_length s list o r o' c;
  finder = λ s list fl q rs hs. (finding_of (find_into (length rs) (length hs) s list fl q), records_found rs (find_into (length rs) (length hs) s list fl q), hits_over hs (find_into (length rs) (length hs) s list fl q), record { answer = refl; records = refl; hits = refl });
  finder_one = λ s list fl q rs hs r r₂ rs' rs₂' hs' hs₂' c c₂. (c.answer ∙ sym c₂.answer, c.records ∙ sym c₂.records, c.hits ∙ sym c₂.hits);
  finder_lengths = λ s list fl q rs hs r rs' hs' c. find-calls.lengths s list fl q rs hs r rs' hs' c;
}

pub refuse_from_the_table : D.Refuse
refuse_from_the_table = record {
  reader = λ s list rs es rs' es' number at c. read-calls.from_the_table s list rs es rs' es' number at c;
  rewriter = λ s list o o' number at c. spell-calls.from_the_table s list o o' number at c;
  finder = λ s list fl q rs hs rs' hs' number at c. find-calls.from_the_table s list fl q rs hs rs' hs' number at c;
}

pub refuse-exactly : D.RefuseExactly
refuse-exactly = record {
  reader = λ s list rs es r rs' es' number at c h. read-calls.refuses s list rs es r rs' es' c number at h;
  rewriter = λ s list o r o' number at c h. spell-calls.refuses s list o r o' c number at h;
  finder = λ s list fl q rs hs r rs' hs' number at c h. find-calls.refuses s list fl q rs hs r rs' hs' c number at h;
}

pub leave_alone : D.LeaveAlone
leave_alone = record {
  reader = λ s list rs es rs' es' number at c. read-calls.leaves s list rs es rs' es' number at c;
  rewriter = λ s list o o' number at c. spell-calls.leaves s list o o' number at c;
  finder = λ s list fl q rs hs rs' hs' number at c. find-calls.leaves s list fl q rs hs rs' hs' number at c;
}

-- ---- 2

pub accept_exactly : D.AcceptExactly
accept_exactly = record {
  where_allowed = λ s list rs es r rs' es' w end gs xs c l p q a. read-calls.accepts s list rs es r rs' es' c w end gs xs l a p q;
  only_where_allowed = λ s list rs es r rs' es' c h. read-calls.only_allowed s list rs es r rs' es' c h;
}

pub names_clear : D.NamesClear
names_clear = record {
  rule = refuses_barred;
  forms = forms.barred_forms;
  allowed = λ s w end gs xs a. each_clear s a.commands a.consists;
  records = records_clear;
  lists = font_lines;
}

pub framed : D.Framed
framed s w end gs xs a = frame.framed w end gs xs a.commands a.performed a.ended

pub record_each : D.RecordEach
record_each s list rs es r rs' es' w end gs xs c l p q a = read-calls.records_each s list rs es r rs' es' c w end gs xs l a p q

pub names_in_place : D.NamesInPlace
names_in_place s list rs es r rs' es' w end gs xs c l p q a = places.names_in_place s list rs es r rs' es' c w end gs xs l a p q

pub entries_in_place : D.EntriesInPlace
entries_in_place s list rs es r rs' es' w end gs xs c l p q a = places.entries_in_place s list rs es r rs' es' c w end gs xs l a p q

pub as_01_gives : D.As01Gives
as_01_gives = record {
  numbers = numbers_hold;
  motions = motions_hold;
  refusal_10 = refusal_10;
  advances = advances_hold;
  words = words_hold;
  in_every_run = in_every_run;
  in_every_list = in_every_list;
  reasons = reasons_hold;
  phases = phases_hold;
  records = recorded_holds;
  entries = entered_holds;
  settings = settings_hold;
  answer = ends_hold;
}

pub as_written_01 : D.AsWritten01
as_written_01 = record { integers = integers_as_written; line_breaks = line_breaks; ignored = ignored_in_limit }

pub number_forms : D.NumberForms
number_forms = forms.number_forms

-- the sample, read by the rules
abbrev counts : Answer → ℕ × ℕ
counts (refuse n at) = (0, 0)
counts (answer rs xs e) = (length rs, length xs)

sample-read : counts (read D.sample D.sample_list) ≡ (3, 5)
unfolding rules
sample-read = refl

pub sample_allowed : D.SampleAllowed
sample_allowed = go (read D.sample D.sample_list) refl sample-read
  where
    go : (x : Answer) → read D.sample D.sample_list ≡ x → counts x ≡ (3, 5) → D.SampleAllowed
    go (refuse n at) e h = absurd (omega (arith, ap (λ (k : ℕ × ℕ). k.0) h))
    go (answer rs xs d) e h =
        let y : Stream D.sample D.sample_list d (map (λ (r : GlyphRow). r.glyph) rs) (map (λ (x : ItemRow). x.item) xs) = read_allowed D.sample D.sample_list rs xs d e in (
          y.widths,
          d,
          map (λ (r : GlyphRow). r.glyph) rs,
          map (λ (x : ItemRow). x.item) xs,
          y.list_sound,
          y.allowed,
          length-map rs (λ (r : GlyphRow). r.glyph) ∙ ap (λ (k : ℕ × ℕ). k.0) h,
          length-map xs (λ (x : ItemRow). x.item) ∙ ap (λ (k : ℕ × ℕ). k.1) h,
        )

pub give_house-spelling : D.GiveHouseSpelling
give_house-spelling = record {
  where_allowed = λ s list o r o' w end gs xs c l a p q. spell-calls.gives s list o r o' c w end gs xs l a p q;
  only_where_allowed = λ s list o n o' c. spell-calls.only_allowed_spelt s list o n o' c;
  keeps = λ s list o n o' c w end gs xs l a b. spell-calls.keeps s list o n o' c w end gs xs l a b;
  places = λ s list o n o' c w end gs xs l a b. spell-calls.places s list o n o' c w end gs xs l a b;
  in_house_lines = λ s list o n o' c. spell-calls.in_house_lines s list o n o' c;
  no_motion_in_vain = λ s list o n o' c xs x k ys h. spell-calls.no_motion_in_vain s list o n o' c xs x k ys h;
}

pub spelling_reads_the_same : D.SpellingReadsTheSame
spelling_reads_the_same s list o n o' c = spell-calls.reads_the_same s list o n o' c

pub rewriting_changes_nothing : D.RewritingChangesNothing
rewriting_changes_nothing s list o n o' c o₂ r₂ o₂' d h = spell-calls.changes_nothing s list o n o' c o₂ r₂ o₂' d h

-- ---- 3

pub find-exactly : D.FindExactly
find-exactly = record {
  answered = λ s list fl q rs hs r rs' hs' fs gs qs is c z a w l p k. find-calls.answers s list fl q rs hs r rs' hs' c fs gs qs is z a w l p k;
  by_commands = find-calls.outline_keys;
  some = find-calls.some_list;
  one = find-calls.one_list;
  as_the_reader = λ s list fl q rs hs f rs' hs' es a rs₂' es' c d. find-calls.as_the_reader s list fl q rs hs f rs' hs' c es a rs₂' es' d;
  only = λ s list fl q rs hs f rs' hs' c. find-calls.only_found s list fl q rs hs f rs' hs' c;
}

pub by_any_command : D.ByAnyCommand
by_any_command = record {
  forms = forms.five_forms;
  no_difference = λ s list s₂ list₂ fl q rs rs₂ hs hs₂ r r₂ rs' rs₂' hs' hs₂' fs gs gs₂ qs is a a₂ o c c₂ z w l p p₂ k k₂.
      find-calls.same_list s list s₂ list₂ fl q rs rs₂ hs hs₂ r r₂ rs' rs₂' hs' hs₂' fs gs gs₂ qs is a a₂ (find-calls.keys_same fs gs gs₂ (find-calls.otherwise_keys s list s₂ list₂ gs gs₂ a a₂ o)) c c₂ z w l p p₂ k k₂;
}

pub alike_answer_alike : D.AlikeAnswerAlike
alike_answer_alike s list s₂ list₂ fl q rs rs₂ hs hs₂ r r₂ rs' rs₂' hs' hs₂' fs gs gs₂ qs is a a₂ h c c₂ z w l p p₂ k k₂ =
    find-calls.same_list s list s₂ list₂ fl q rs rs₂ hs hs₂ r r₂ rs' rs₂' hs' hs₂' fs gs gs₂ qs is a a₂ (find-calls.keys_same fs gs gs₂ (find-calls.alike_keys gs gs₂ h)) c c₂ z w l p p₂ k k₂

pub families_answer_alike : D.FamiliesAnswerAlike
families_answer_alike = find-calls.same_list

pub family_lists : D.FamilyLists
family_lists = families.family_lists

pub empty_is_old : D.EmptyIsOld
empty_is_old = record {
  empty_sound = record { short = omega arith; says = empty_families.no_family };
  is_old = λ s list q rs hs r rs' hs' c.
      let e : find_into (length rs) (length hs) s list [] q ≡ found_in (length rs) (length hs) (old_find s list q) = empty_families.finder (length rs) (length hs) s list q in
      record { answer = c.answer ∙ ap finding_of e; records = c.records ∙ ap (records_found rs) e; hits = c.hits ∙ ap (hits_over hs) e };
  was_so = λ s list q rs hs r rs' hs' c.
      let e : found_in (length rs) (length hs) (old_find s list q) ≡ find_into (length rs) (length hs) s list [] q = sym (empty_families.finder (length rs) (length hs) s list q) in
      record { answer = c.answer ∙ ap finding_of e; records = c.records ∙ ap (records_found rs) e; hits = c.hits ∙ ap (hits_over hs) e };
  never_14 = λ s list q rs hs rs' hs' number at c e.
      not_14 number (empty_families.finder_numbers (length rs) (length hs) s list q number at (find-calls.refused_into s list [] q rs hs rs' hs' number at c)) e;
  match = match_none;
  matches = λ n m e. inl e;
  occurs = λ qs gs i o. empty_families.occurs qs (map D.looked gs) i o;
  occurred = λ qs gs i o. empty_families.occurred qs (map D.looked gs) i o;
}
  where
    not_14 : (n : ℕ) → InTableTo 13 n → n ≡ 14 → ⊥
    not_14 n (inl h) e = omega (arith, h, e)
    not_14 n (inr h) e = omega (arith, h, e)

pub first_names : D.FirstNames
first_names = first.first_names

-- ---- room, and judging

pub no_room : D.NoRoom
no_room = record {
  reader = λ s list rs es r rs' es' w end gs xs c l a h. read-calls.no_room s list rs es r rs' es' c w end gs xs l a h;
  reader_only = read-calls.only_no_room;
  rewriter = λ s list o r o' w end gs xs c l a h. spell-calls.no_room s list o r o' c w end gs xs l a h;
  rewriter_only = spell-calls.only_no_room;
  finder = λ s list fl q rs hs r rs' hs' fs gs qs is c z a w l h. find-calls.no_room s list fl q rs hs r rs' hs' c fs gs qs is z a w l h;
  finder_only = find-calls.only_no_room;
}

module _ (s list : List ℕ) (j : Judging) (c : JudgeCall s list (Ok j)) where
  abbrev Spells : List ℕ → Type 0
  Spells t = ((j.spelling ≡ length t) × (j.spelling ≤ 16_777_216)) ⊎ ((j.spelling ≡ 16_777_217) × (16_777_216 < length t))

  told-length : (t : List ℕ) → j.spelling ≡ length_of t → Spells t
  told-length t e =
      on (is_over stream_most t) (λ k. inr (rw k at e, ltb-true stream_most (length t) k))
      (λ k. let z : j.spelling ≡ length t = rw k at e in inl (z, subst (λ (i : ℕ). i ≤ 16_777_216) (sym z) (ltb-false stream_most (length t) k)))

  abbrev Tells : Type 0
  Tells = (w : Widths) × (end : Env) × (gs : List Glyph) × (xs : List Item) × SoundList list w × (a : Allowed s w end gs xs)
      × (j.records ≡ length gs) × (j.entries ≡ length xs) × (j.pages ≡ end.ordinal) × Spells (house_spelling w a.commands)

  judge_accepted : Tells
  unfolding judge
  judge_accepted = go (read s list) refl c.answer
    where
      go : (x : Answer) → read s list ≡ x → Ok j ≡ judging_of (spell_with s (width_list list)) x → Tells
      go (refuse k at) e h = grind arith
      go (answer rs xs d) e h =
          let y : Stream s list d (map (λ (r : GlyphRow). r.glyph) rs) (map (λ (x : ItemRow). x.item) xs) = read_allowed s list rs xs d e in
          let z : j ≡ record { records = length rs; entries = length xs; spelling = length_of (spell_with s (width_list list)); pages = d.ordinal } = grind arith in
          let text : spell_with s (width_list list) ≡ house_spelling y.widths y.allowed.commands = rw (y.list_sound.says, y.commands_of) in (
            y.widths,
            d,
            map (λ (r : GlyphRow). r.glyph) rs,
            map (λ (x : ItemRow). x.item) xs,
            y.list_sound,
            y.allowed,
            ap (λ (i : Judging). i.records) z ∙ sym (length-map rs (λ (r : GlyphRow). r.glyph)),
            ap (λ (i : Judging). i.entries) z ∙ sym (length-map xs (λ (x : ItemRow). x.item)),
            ap (λ (i : Judging). i.pages) z,
            told-length (house_spelling y.widths y.allowed.commands) (ap (λ (i : Judging). i.spelling) z ∙ ap length_of text),
          )

judge-refused : (s list : List ℕ) (number at : ℕ) → JudgeCall s list (Err (refusal number at))
    → (rs : List Record) (es : List Entry) (r : Result Reading Refusal) (rs' : List Record) (es' : List Entry) → ReadCall s list rs es r rs' es' → r ≡ Err (refusal number at)
unfolding read_into
judge-refused s list number at j rs es r rs' es' c =
    c.answer ∙ ap (λ (x : Answer). reading_of (room_for (length rs) (length es) x)) (judged.refused s list number at (sym j.answer))

pub judge_tells : D.Judge
judge_tells = record { accepted = judge_accepted; refused = judge-refused }
