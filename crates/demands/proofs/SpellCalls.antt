-- The demands, proved of calls of the rewriter, and of reading what it gives.
use Rattle.std.specs.Prelude.{Result, Ok, Err}
use Prim.Native.Nat.{ℕ, ◌<◌, ◌≤◌}
use native.Mathlib.Omega.{arith}
use mathlib.Core.List.{List, [], ◌∷◌, ◌++◌, map}
use mathlib.Core.Logic.{◌⊎◌, inl, inr}
use mathlib.Core.Path.{◌≡◌, refl, sym, ap, ap₂, subst, ◌∙◌}
use lib.ListN.{length, take, drop}
use borrow.Author.Tests.{ltb-true, ltb-false, lt-ltb}
use Rattle.rules.specs.declared.Record.{Record}
use Rattle.rules.specs.declared.Entry.{Entry}
use Rattle.rules.specs.declared.Refusal.{Refusal}
use Rattle.rules.specs.declared.Reading.{Reading}
use Rattle.rules.specs.Act.{Axis, Act, to, just}
use Rattle.rules.specs.State.{Env, Glyph, Item, went, start}
use Rattle.rules.specs.Widths.{Widths, WidthList, unsound, sound}
use Rattle.rules.specs.Record.{GlyphRow, ItemRow, Answer, refuse, answer, seen}
use Rattle.rules.specs.Answers.{stream_most, is_over, read, Spelling, not_spelled, spelled, respell, spelling_in, respell_into, refusal, respelling_of, buffer_over}
use Rattle.rules.specs.Calls.{ReadCall, RespellCall}
use Rattle.laws.proofs.Cases.{on}
use Rattle.laws_read.specs.Kept.{all_kept}
use Rattle.laws_read.specs.Spots.{spots_of}
use Rattle.laws_answers.specs.Statements.{house_text}
use Rattle.laws_answers.proofs.Theorems.{again, fixed_point, roomy, one_spelling, limits_hold}
use Rattle.laws_offsets.specs.Offsets.{InTableTo}
use Rattle.laws_answers.proofs.Numbers.{not_13, numbers}
use Rattle.laws_offsets.specs.Offsets.{ReadOffset, OrRoom, Said}
use Rattle.laws_offsets.proofs.Offsets.{offsets}
use Rattle.laws_offsets.proofs.ByNumber.{by_number}
use Rattle.laws_offsets.proofs.Exactly.{exactly}
use Rattle.laws_house.specs.Lines.{HouseText}
use Rattle.laws_house.proofs.Spelt.{spelt_in_lines}
use Rattle.laws_needed.specs.Statement.{OnlyWhereItDiffers}
use Rattle.laws_needed.proofs.Theorem.{motions_needed}
use Rattle.demands.specs.Demands.{SoundList, ConsistsOf, Allowed, recorded, entered, RecordedAll, house_spelling, ReadTheSame}
use Rattle.demands.proofs.Allowed.{consists_read, ReadsTo, reads_to, allowed_reads, allowed_accepted, commands_are, Stream, read_allowed}
use Rattle.demands.proofs.ReadCalls.{take_over, length_over, records_each, only_allowed}

-- what the list says is one thing
abbrev widths_in : Widths → WidthList → Widths
widths_in w (unsound at) = w
widths_in w (sound v) = v

pub one_list : (list : List ℕ) (v w : Widths) → SoundList list v → SoundList list w → v ≡ w
one_list list v w a b = ap (widths_in v) (sym a.says ∙ b.says)

-- ---- what is given with the room lent

abbrev Given : ℕ → Spelling → Spelling → Type 0
Given room y (not_spelled n at) = (y ≡ not_spelled n at) ⊎ ((n ≡ 13) × (at ≡ 0) × (t : List ℕ) × (y ≡ spelled t) × (room < length t))
Given room y (spelled t) = (y ≡ spelled t) × (length t ≤ room)

given : (room : ℕ) (y : Spelling) → Given room y (spelling_in room y)
given room (not_spelled n at) = inl refl
given room (spelled t) = on (is_over room t) (λ e. rw e (inr (refl, refl, t, refl, ltb-true room (length t) e))) (λ e. rw e (refl, ltb-false room (length t) e))

pub given_into : (room : ℕ) (s list : List ℕ) → Given room (respell s list) (respell_into room s list)
unfolding respell_into
given_into room s list = given room (respell s list)

abbrev text_in : Spelling → List ℕ
text_in (not_spelled n at) = []
text_in (spelled t) = t

abbrev IsText : Spelling → Type 0
IsText (not_spelled n at) = ⊥
IsText (spelled t) = Unit {0}

abbrev number_in : Spelling → ℕ
number_in (not_spelled n at) = n
number_in (spelled t) = 0

-- ---- the spelling of a stream that is allowed

module _ (s list : List ℕ) (w : Widths) (end : Env) (gs : List Glyph) (xs : List Item) (l : SoundList list w) (a : Allowed s w end gs xs) where
  pub house_is : house_spelling w a.commands ≡ house_text w s
  house_is = ap (house_spelling w) (sym (commands_are s list end gs xs w l a))

  pub spelt_or : (respell s list ≡ spelled (house_spelling w a.commands)) ⊎ ((respell s list ≡ not_spelled 13 0) × (stream_most < length (house_spelling w a.commands)))
  spelt_or = rw house_is (one_spelling.accepted s list w l.says (allowed_accepted s list end gs xs w l a))

  pub short_spelling : length (house_spelling w a.commands) ≤ 16_777_216 → respell s list ≡ spelled (house_spelling w a.commands)
  short_spelling h =
      limits_hold.not_long_spelling s list w l.says (allowed_accepted s list end gs xs w l a) (subst (λ (t : List ℕ). length t ≤ 16_777_216) house_is h) ∙ ap spelled (sym house_is)

  pub long_spelling : 16_777_216 < length (house_spelling w a.commands) → respell s list ≡ not_spelled 13 0
  long_spelling h = limits_hold.long_spelling s list w l.says (allowed_accepted s list end gs xs w l a) (subst (λ (t : List ℕ). 16_777_216 < length t) house_is h)

-- a stream that is spelt or is refused with 13 is allowed
pub record Spelt (s list : List ℕ) : Type 0 where
  pub end : Env
  pub glyphs : List Glyph
  pub items : List Item
  pub stream : Stream s list end glyphs items

pub spelt : (s list : List ℕ) → ((n at : ℕ) → read s list ≡ refuse n at → ⊥) → Spelt s list
spelt s list f = go (read s list) refl
  where
    go : (x : Answer) → read s list ≡ x → Spelt s list
    go (refuse n at) e = absurd (f n at e)
    go (answer rs xs e) h = record { end = e; glyphs = map (λ (r : GlyphRow). r.glyph) rs; items = map (λ (x : ItemRow). x.item) xs; stream = read_allowed s list rs xs e h }

spelled_allowed : (s list t : List ℕ) → respell s list ≡ spelled t → Spelt s list
spelled_allowed s list t h = spelt s list (λ n at e. subst IsText (sym h ∙ one_spelling.refused s list n at e) tt)

-- ---- a call

module _ (s list o : List ℕ) (r : Result ℕ Refusal) (o' : List ℕ) (c : RespellCall s list o r o') where
  pub buffer_length : length o' ≡ length o
  buffer_length = go (respell_into (length o) s list) (given_into (length o) s list) c.buffer
    where
      go : (x : Spelling) → Given (length o) (respell s list) x → o' ≡ buffer_over o x → length o' ≡ length o
      go (not_spelled n at) g e = ap length e
      go (spelled t) g e = ap length e ∙ length_over t o g.1

  pub refuses : (number at : ℕ) → ReadOffset s list number at → r ≡ Err (refusal number at)
  refuses number at h = c.answer ∙ ap respelling_of (exactly.rewriter (length o) s list number at h)

  module _ (w : Widths) (end : Env) (gs : List Glyph) (xs : List Item) (l : SoundList list w) (a : Allowed s w end gs xs) where
    abbrev text : List ℕ
    text = house_spelling w a.commands

    pub gives : length text ≤ 16_777_216 → length text ≤ length o → (r ≡ Ok (length text)) × (o' ≡ text ++ drop (length text) o)
    gives p q =
        let e : respell_into (length o) s list ≡ spelled text = roomy.rewriter (length o) s list text (short_spelling s list w end gs xs l a p) q in
        (c.answer ∙ ap respelling_of e, c.buffer ∙ ap (buffer_over o) e)

    pub no_room : (length o < length text) ⊎ (16_777_216 < length text) → r ≡ Err (refusal 13 0)
    unfolding respell_into
    no_room h = c.answer ∙ ap respelling_of (go h (spelt_or s list w end gs xs l a))
      where
        short_in : length o < length text → spelling_in (length o) (spelled text) ≡ not_spelled 13 0
        short_in k = rw (lt-ltb (length o) (length text) k)

        go : (length o < length text) ⊎ (16_777_216 < length text) → (respell s list ≡ spelled text) ⊎ ((respell s list ≡ not_spelled 13 0) × (stream_most < length text))
            → spelling_in (length o) (respell s list) ≡ not_spelled 13 0
        go (inl k) (inl e) = ap (spelling_in (length o)) e ∙ short_in k
        go (inr k) (inl e) = ap (spelling_in (length o)) (long_spelling s list w end gs xs l a k)
        go h (inr e) = ap (spelling_in (length o)) e.0

-- the spelling is at the start of the buffer
pub record Text (s list o : List ℕ) (n : ℕ) (o' : List ℕ) : Type 0 where
  pub spelling : respell s list ≡ spelled (take n o')
  pub size : length (take n o') ≡ n

pub text_in_lem : (s list o : List ℕ) (n : ℕ) (o' : List ℕ) → RespellCall s list o (Ok n) o' → Text s list o n o'
text_in_lem s list o n o' c = go (respell_into (length o) s list) (given_into (length o) s list) c.answer c.buffer
  where
    go : (x : Spelling) → Given (length o) (respell s list) x → Ok n ≡ respelling_of x → o' ≡ buffer_over o x → Text s list o n o'
    go (not_spelled k at) f a b = grind arith
    go (spelled t) f a b =
        let e : n ≡ length t = grind arith in
        let g : take n o' ≡ t = take_over n t o o' e b in
        record { spelling = f.0 ∙ ap spelled (sym g); size = ap length g ∙ sym e }

module _ (s list o : List ℕ) (n : ℕ) (o' : List ℕ) (c : RespellCall s list o (Ok n) o') where
  abbrev t : List ℕ
  t = take n o'

  pub only_allowed_spelt : (w : Widths) × (end : Env) × (gs : List Glyph) × (xs : List Item) × SoundList list w × (a : Allowed s w end gs xs) × (t ≡ house_spelling w a.commands) × (length t ≡ n)
  only_allowed_spelt =
      let x : Text s list o n o' = text_in_lem s list o n o' c in
      let y : Spelt s list = spelled_allowed s list t x.spelling in
      let z : Stream s list y.end y.glyphs y.items = y.stream in
      (z.widths, y.end, y.glyphs, y.items, z.list_sound, z.allowed, go z.widths y.end y.glyphs y.items z.list_sound z.allowed x.spelling, x.size)
    where
      go : (w : Widths) (end : Env) (gs : List Glyph) (xs : List Item) → SoundList list w → (a : Allowed s w end gs xs) → respell s list ≡ spelled t → t ≡ house_spelling w a.commands
      go w end gs xs l a e = by_cases (spelt_or s list w end gs xs l a)
        where
          by_cases : (respell s list ≡ spelled (house_spelling w a.commands)) ⊎ ((respell s list ≡ not_spelled 13 0) × (stream_most < length (house_spelling w a.commands))) → t ≡ house_spelling w a.commands
          by_cases (inl f) = ap text_in (sym e ∙ f)
          by_cases (inr f) = absurd (subst IsText (sym e ∙ f.0) tt)

  pub in_house_lines : HouseText t
  in_house_lines = spelt_in_lines s list t (text_in_lem s list o n o' c).spelling

  pub no_motion_in_vain : (xs : List Act) (x : Axis) (k : ℕ) (ys : List Act) → ConsistsOf t (map just (xs ++ to x k ∷ ys)) → OnlyWhereItDiffers list t xs x k ys
  no_motion_in_vain xs x k ys h =
      motions_needed.each s list t (text_in_lem s list o n o' c).spelling xs x k ys (consists_read t (map just (xs ++ to x k ∷ ys)) h 0).1

  -- what holds of the commands of spelling and stream
  module _ (w : Widths) (end : Env) (gs : List Glyph) (xs : List Item) (l : SoundList list w) (a : Allowed s w end gs xs) (b : Allowed t w end gs xs) where
    pub keeps : all_kept b.commands ≡ all_kept a.commands
    keeps = rw (← commands_are t list end gs xs w l b, ← commands_are s list end gs xs w l a) (again s list t (text_in_lem s list o n o' c).spelling).kept_commands

    pub places : spots_of w start b.commands ≡ spots_of w start a.commands
    places = rw (← commands_are t list end gs xs w l b, ← commands_are s list end gs xs w l a) ((again s list t (text_in_lem s list o n o' c).spelling).places w l.says)

  -- the spelling is allowed, and says the same
  same_allowed : (w : Widths) (end : Env) (gs : List Glyph) (xs : List Item) → SoundList list w → Allowed s w end gs xs → Allowed t w end gs xs
  same_allowed w end gs xs l a =
      let x : ReadsTo s list end gs xs = allowed_reads s list end gs xs w l a in
      let alike : seen (read t list) ≡ went end gs xs = (again s list t (text_in_lem s list o n o' c).spelling).alike ∙ ap seen x.read_is ∙ ap₂ (went end) x.glyphs_are x.items_are in
      let y : ReadsTo t list end gs xs = reads_to t list end gs xs (read t list) refl alike in
      let z : Stream t list end (map (λ (r : GlyphRow). r.glyph) y.rows) (map (λ (i : ItemRow). i.item) y.items) = read_allowed t list y.rows y.items end y.read_is in
      subst (λ (v : Widths). Allowed t v end gs xs) (one_list list z.widths w z.list_sound l)
      (subst (λ (k : List Glyph). Allowed t z.widths end k xs) y.glyphs_are
      (subst (λ (k : List Item). Allowed t z.widths end (map (λ (r : GlyphRow). r.glyph) y.rows) k) y.items_are z.allowed))

  module _ (rs : List Record) (es : List Entry) (a : Reading) (rs' : List Record) (es' : List Entry) (d : ReadCall s list rs es (Ok a) rs' es')
      (rs₂ : List Record) (es₂ : List Entry) (r₂ : Result Reading Refusal) (rs₂' : List Record) (es₂' : List Entry) (d₂ : ReadCall t list rs₂ es₂ r₂ rs₂' es₂') (p : a.records ≤ length rs₂) (q : a.entries ≤ length es₂) where
    same_rows : (r₂ ≡ Ok a) × (map (recorded t) (take a.records rs₂') ≡ map (recorded s) (take a.records rs')) × (map entered (take a.entries es₂') ≡ map entered (take a.entries es'))
    same_rows = go (only_allowed s list rs es (Ok a) rs' es' d refl)
      where
        go : (w : Widths) × (end : Env) × (gs : List Glyph) × (xs : List Item) × SoundList list w × Allowed s w end gs xs × (length gs ≤ length rs) × (length xs ≤ length es)
            → (r₂ ≡ Ok a) × (map (recorded t) (take a.records rs₂') ≡ map (recorded s) (take a.records rs')) × (map entered (take a.entries es₂') ≡ map entered (take a.entries es'))
        go (w, end, gs, xs, l, b, i, j) =
            let x : RecordedAll s end gs xs rs es (Ok a) rs' es' = records_each s list rs es (Ok a) rs' es' d w end gs xs l b i j in
            let e : a.records ≡ length gs = let z = x.answer in grind arith in
            let f : a.entries ≡ length xs = let z = x.answer in grind arith in
            let y : RecordedAll t end gs xs rs₂ es₂ r₂ rs₂' es₂' =
            records_each t list rs₂ es₂ r₂ rs₂' es₂' d₂ w end gs xs l (same_allowed w end gs xs l b) (subst (λ (z : ℕ). z ≤ length rs₂) e p) (subst (λ (z : ℕ). z ≤ length es₂) f q) in
            (y.answer ∙ sym x.answer, rw (e) (y.glyphs ∙ sym x.glyphs), rw (f) (y.drawings_and_controls ∙ sym x.drawings_and_controls))

  pub reads_the_same : ReadTheSame s list t
  reads_the_same = record { allowed = same_allowed; rows = same_rows }

  pub changes_nothing : (o₂ : List ℕ) (r₂ : Result ℕ Refusal) (o₂' : List ℕ) → RespellCall t list o₂ r₂ o₂' → n ≤ length o₂ → (r₂ ≡ Ok n) × (take n o₂' ≡ t)
  changes_nothing o₂ r₂ o₂' d h =
      let x : Text s list o n o' = text_in_lem s list o n o' c in
      let e : respell_into (length o₂) t list ≡ spelled t = roomy.rewriter (length o₂) t list t (fixed_point s list t x.spelling) (omega (arith, x.size, h)) in
      (d.answer ∙ ap respelling_of e ∙ ap Ok x.size, take_over n t o₂ o₂' (sym x.size) (d.buffer ∙ ap (buffer_over o₂) e))

-- ---- a refusal

module _ (s list o o' : List ℕ) (number at : ℕ) (c : RespellCall s list o (Err (refusal number at)) o') where
  refused_is : (x : Spelling) → respell_into (length o) s list ≡ x → Given (length o) (respell s list) x → Err (refusal number at) ≡ respelling_of x → o' ≡ buffer_over o x
      → (respell_into (length o) s list ≡ not_spelled number at) × (o' ≡ o) × Given (length o) (respell s list) (not_spelled number at)
  refused_is (not_spelled n k) e g a b =
      let i : not_spelled n k ≡ not_spelled number at = grind arith in (e ∙ i, b, subst (Given (length o) (respell s list)) i g)
  refused_is (spelled t) e g a b = grind arith

  refused_call : (respell_into (length o) s list ≡ not_spelled number at) × (o' ≡ o) × Given (length o) (respell s list) (not_spelled number at)
  refused_call = refused_is (respell_into (length o) s list) refl (given_into (length o) s list) c.answer c.buffer

  pub leaves : o' ≡ o
  leaves = refused_call.1

  pub refused_into : respell_into (length o) s list ≡ not_spelled number at
  refused_into = refused_call.0

  pub from_the_table : OrRoom (ReadOffset s list) number at × Said s list [] [] number at × (number ≡ 12 → ⊥) × (number ≡ 14 → ⊥)
  from_the_table =
      let x = by_number.rewriter (length o) s list number at refused_into in (offsets.rewriter (length o) s list number at refused_into, x.0, x.1, x.2)

  pub refused_given : Given (length o) (respell s list) (not_spelled number at)
  refused_given = refused_call.2

pub only_no_room : (s list o o' : List ℕ) (at : ℕ) → RespellCall s list o (Err (refusal 13 at)) o'
    → (w : Widths) × (end : Env) × (gs : List Glyph) × (xs : List Item) × SoundList list w × (a : Allowed s w end gs xs) × ((length o < length (house_spelling w a.commands)) ⊎ (16_777_216 < length (house_spelling w a.commands)))
only_no_room s list o o' at c = with_stream (spelt s list refuted) (refused_given s list o o' 13 at c)
  where
    refuted : (n k : ℕ) → read s list ≡ refuse n k → ⊥
    refuted n k e = go (refused_given s list o o' 13 at c)
      where
        is : respell s list ≡ not_spelled n k
        is = one_spelling.refused s list n k e

        go : Given (length o) (respell s list) (not_spelled 13 at) → ⊥
        go (inl f) = let z : n ≡ 13 = ap number_in (sym is ∙ f) in not_13 11 (omega arith) (subst (InTableTo 11) z (numbers.read_numbers s list n k e))
        go (inr (f, g, t, i, j)) = subst IsText (sym i ∙ is) tt

    with_stream : Spelt s list → Given (length o) (respell s list) (not_spelled 13 at)
        → (w : Widths) × (end : Env) × (gs : List Glyph) × (xs : List Item) × SoundList list w × (a : Allowed s w end gs xs) × ((length o < length (house_spelling w a.commands)) ⊎ (16_777_216 < length (house_spelling w a.commands)))
    with_stream y g = (y.stream.widths, y.end, y.glyphs, y.items, y.stream.list_sound, y.stream.allowed, by_cases (house_spelling y.stream.widths y.stream.allowed.commands) (spelt_or s list y.stream.widths y.end y.glyphs y.items y.stream.list_sound y.stream.allowed) g)
      where
        by_cases : (u : List ℕ) → (respell s list ≡ spelled u) ⊎ ((respell s list ≡ not_spelled 13 0) × (stream_most < length u)) → Given (length o) (respell s list) (not_spelled 13 at) → (length o < length u) ⊎ (16_777_216 < length u)
        by_cases u (inl e) (inl f) = absurd (subst IsText (sym e ∙ f) tt)
        by_cases u (inl e) (inr (f, k, t, i, j)) = inl (subst (λ (x : List ℕ). length o < length x) (ap text_in (sym i ∙ e)) j)
        by_cases u (inr e) f = inr e.1
