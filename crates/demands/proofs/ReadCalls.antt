-- The demands, proved of calls of the reader.
use Rattle.std.specs.Prelude.{Result, Err, is_ok, IsOk}
use Prim.Native.Nat.{ℕ, ◌<◌, ◌≤◌}
use native.Mathlib.Omega.{arith}
use mathlib.Core.List.{List, [], ◌∷◌, map}
use mathlib.Core.Logic.{◌⊎◌, inl, inr}
use mathlib.Core.Path.{◌≡◌, refl, sym, ap, ap₂, subst, ◌∙◌}
use lib.Dec.{ltb}
use lib.ListN.{length, take, drop, length-append, length-drop, length-map}
use borrow.Author.Tests.{ltb-true, ltb-false, lt-ltb}
use lib.Seq.{take-append_seam, drop-append_seam}
use Rattle.rules.specs.declared.Record.{Record}
use Rattle.rules.specs.declared.Entry.{Entry}
use Rattle.rules.specs.declared.Refusal.{Refusal}
use Rattle.rules.specs.declared.Reading.{Reading}
use Rattle.rules.specs.State.{Env, Glyph, Item}
use Rattle.rules.specs.Widths.{Widths}
use Rattle.rules.specs.Record.{GlyphRow, ItemRow, Answer, refuse, answer, shown, record_of, entry_of, over}
use Rattle.rules.specs.Answers.{read, room_for, read_into, refusal, reading_of, records_over, entries_over}
use Rattle.rules.specs.Calls.{ReadCall}
use Rattle.laws.proofs.Cases.{on, or_true}
use Rattle.laws_scan.proofs.Names.{AllRows, RowIn, RowsOf, read_stands}
use Rattle.laws_answers.proofs.Theorems.{roomy}
use Rattle.laws_answers.proofs.Numbers.{not_13, numbers}
use Rattle.laws_offsets.specs.Offsets.{ReadOffset, OrRoom, Said}
use Rattle.laws_offsets.proofs.Offsets.{offsets}
use Rattle.laws_offsets.proofs.ByNumber.{by_number}
use Rattle.laws_offsets.proofs.Exactly.{exactly}
use Rattle.demands.specs.Demands.{SoundList, Allowed, SeenGlyph, recorded, set, entered, drawn, RecordedAll}
use Rattle.demands.proofs.Allowed.{ReadsTo, allowed_reads, Stream, read_allowed}

-- ---- rows

-- what is in front of what was there, and behind it
pub take_over {ℓ} : {A : Type ℓ} (n : ℕ) (new old l : List A) → n ≡ length new → l ≡ over new old → take n l ≡ new
take_over n new old l h e = ap₂ (λ (i : ℕ) (k : List _). take i k) h e ∙ take-append_seam new (drop (length new) old)

pub drop_over {ℓ} : {A : Type ℓ} (n : ℕ) (new old l : List A) → n ≡ length new → l ≡ over new old → drop n l ≡ drop n old
drop_over n new old l h e = ap₂ (λ (i : ℕ) (k : List _). drop i k) h e ∙ drop-append_seam new (drop (length new) old) ∙ ap (λ (i : ℕ). drop i old) (sym h)

pub length_over {ℓ} : {A : Type ℓ} (new old : List A) → length new ≤ length old → length (over new old) ≡ length old
length_over new old h = length-append new (drop (length new) old) ∙ (omega (arith, length-drop (length new) old, h))

-- records and entries, as they are seen
abbrev glyphs_in : List GlyphRow → List Glyph
glyphs_in rs = map (λ (r : GlyphRow). r.glyph) rs

abbrev items_in : List ItemRow → List Item
items_in xs = map (λ (x : ItemRow). x.item) xs

abbrev named : Glyph → List ℕ → SeenGlyph
named g n = record {
  ordinal = g.ordinal;
  page = shown g.number;
  h = shown g.spot.h;
  v = shown g.spot.v;
  font = g.font;
  size = g.size;
  name = n;
  len = length g.name;
  index = g.index;
  gap = g.gap;
}

pub glyphs-seen : (s : List ℕ) (gs : List GlyphRow) → AllRows s gs → map (recorded s) (map record_of gs) ≡ map set (glyphs_in gs)
glyphs-seen s [] h = refl
glyphs-seen s (g ∷ gs) h = ap₂ (λ (x : SeenGlyph) (l : List SeenGlyph). x ∷ l) (one g h.0) (glyphs-seen s gs h.1)
  where
    one : (r : GlyphRow) → RowIn s r → recorded s (record_of r) ≡ set r.glyph
    one r k = ap (named r.glyph) k.stands

items_seen : (xs : List ItemRow) → map entered (map entry_of xs) ≡ map drawn (items_in xs)
items_seen [] = refl
items_seen (x ∷ xs) = ap (◌∷◌ (drawn x.item)) (items_seen xs)

all_rows : (s : List ℕ) (gs : List GlyphRow) (xs : List ItemRow) (e : Env) (x : Answer) → x ≡ answer gs xs e → RowsOf s x → AllRows s gs
all_rows s gs xs e x f h = (subst (RowsOf s) f h).0

pub rows_stand : (s list : List ℕ) (gs : List GlyphRow) (xs : List ItemRow) (e : Env) → read s list ≡ answer gs xs e → AllRows s gs
rows_stand s list gs xs e f = all_rows s gs xs e (read s list) f (read_stands s list)

-- ---- what is answered with the room lent

abbrev Kept : ℕ → ℕ → Answer → Answer → Type 0
Kept records entries y (refuse n at) = (y ≡ refuse n at) ⊎ ((n ≡ 13) × (at ≡ 0) × (rs : List GlyphRow) × (xs : List ItemRow) × (e : Env) × (y ≡ answer rs xs e) × ((records < length rs) ⊎ (entries < length xs)))
Kept records entries y (answer rs xs e) = (y ≡ answer rs xs e) × (length rs ≤ records) × (length xs ≤ entries)

kept : (records entries : ℕ) (y : Answer) → Kept records entries y (room_for records entries y)
kept records entries (refuse n at) = inl refl
kept records entries (answer rs xs e) =
    on (ltb records (length rs)) (λ a. rw a (inr (refl, refl, rs, xs, e, refl, inl (ltb-true records (length rs) a))))
    (λ a. on (ltb entries (length xs)) (λ b. rw (a, b) (inr (refl, refl, rs, xs, e, refl, inr (ltb-true entries (length xs) b))))
    (λ b. rw (a, b) (refl, ltb-false records (length rs) a, ltb-false entries (length xs) b)))

pub kept_into : (records entries : ℕ) (s list : List ℕ) → Kept records entries (read s list) (read_into records entries s list)
unfolding read_into
kept_into records entries s list = kept records entries (read s list)

-- ---- a call

module _ (s list : List ℕ) (rs : List Record) (es : List Entry) (r : Result Reading Refusal) (rs' : List Record) (es' : List Entry) (c : ReadCall s list rs es r rs' es') where
  abbrev into : Answer
  into = read_into (length rs) (length es) s list

  pub lengths : (length rs' ≡ length rs) × (length es' ≡ length es)
  lengths = go (read_into (length rs) (length es) s list) (kept_into (length rs) (length es) s list) c.records c.entries
    where
      go : (x : Answer) → Kept (length rs) (length es) (read s list) x → rs' ≡ records_over rs x → es' ≡ entries_over es x → (length rs' ≡ length rs) × (length es' ≡ length es)
      go (refuse n at) k a b = (ap length a, ap length b)
      go (answer gs xs e) k a b =
          (ap length a ∙ length_over (map record_of gs) rs (omega (arith, length-map gs record_of, k.1)), ap length b ∙ length_over (map entry_of xs) es (omega (arith, length-map xs entry_of, k.2)))

  pub refuses : (number at : ℕ) → ReadOffset s list number at → r ≡ Err (refusal number at)
  refuses number at o = c.answer ∙ ap reading_of (exactly.reader (length rs) (length es) s list number at o)

  -- an acceptance
  pub record Rows : Type 0 where
    pub glyphs : List GlyphRow
    pub items : List ItemRow
    pub env : Env
    pub read_is : read s list ≡ answer glyphs items env
    pub answer_is : r ≡ reading_of (answer glyphs items env)
    pub room : length glyphs ≤ length rs
    pub entries_room : length items ≤ length es
    pub records : rs' ≡ over (map record_of glyphs) rs
    pub entries : es' ≡ over (map entry_of items) es

  pub accepted_call : IsOk r → Rows
  accepted_call h = go (read_into (length rs) (length es) s list) (kept_into (length rs) (length es) s list) c.answer c.records c.entries
    where
      go : (x : Answer) → Kept (length rs) (length es) (read s list) x → r ≡ reading_of x → rs' ≡ records_over rs x → es' ≡ entries_over es x → Rows
      go (refuse n at) k a b d = grind arith
      go (answer gs xs e) k a b d = record { glyphs = gs; items = xs; env = e; read_is = k.0; answer_is = a; room = k.1; entries_room = k.2; records = b; entries = d }

  -- what is read, with room for it
  abbrev pub roomy_call : (gs : List GlyphRow) (xs : List ItemRow) (e : Env) → read s list ≡ answer gs xs e → length gs ≤ length rs → length xs ≤ length es → Rows
  roomy_call gs xs e f a b =
      let z : read_into (length rs) (length es) s list ≡ answer gs xs e = roomy.reader (length rs) (length es) s list gs xs e f a b in
      record { glyphs = gs; items = xs; env = e; read_is = f; answer_is = c.answer ∙ ap reading_of z; room = a; entries_room = b; records = c.records ∙ ap (records_over rs) z; entries = c.entries ∙ ap (entries_over es) z }

  pub seen_records : (x : Rows) → map (recorded s) (take (length x.glyphs) rs') ≡ map set (glyphs_in x.glyphs)
  seen_records x =
      ap (map (recorded s)) (take_over (length x.glyphs) (map record_of x.glyphs) rs rs' (sym (length-map x.glyphs record_of)) x.records)
      ∙ glyphs-seen s x.glyphs (rows_stand s list x.glyphs x.items x.env x.read_is)

  pub seen_entries : (x : Rows) → map entered (take (length x.items) es') ≡ map drawn (items_in x.items)
  seen_entries x =
      ap (map entered) (take_over (length x.items) (map entry_of x.items) es es' (sym (length-map x.items entry_of)) x.entries) ∙ items_seen x.items

  recorded_all : (x : Rows) → RecordedAll s x.env (glyphs_in x.glyphs) (items_in x.items) rs es r rs' es'
  recorded_all x =
      let n : length (glyphs_in x.glyphs) ≡ length x.glyphs = length-map x.glyphs (λ (r : GlyphRow). r.glyph) in
      let m : length (items_in x.items) ≡ length x.items = length-map x.items (λ (y : ItemRow). y.item) in
      record {
        glyphs = rw n (seen_records x);
        drawings_and_controls = rw m (seen_entries x);
        answer = rw (n, m) x.answer_is;
        records_behind = rw n (drop_over (length x.glyphs) (map record_of x.glyphs) rs rs' (sym (length-map x.glyphs record_of)) x.records);
        entries_behind = rw m (drop_over (length x.items) (map entry_of x.items) es es' (sym (length-map x.items entry_of)) x.entries);
      }

  module _ (w : Widths) (end : Env) (gs : List Glyph) (xs : List Item) (l : SoundList list w) (a : Allowed s w end gs xs) where
    abbrev to : ReadsTo s list end gs xs
    to = allowed_reads s list end gs xs w l a

    pub counts : length to.rows ≡ length gs
    counts = sym (length-map to.rows (λ (r : GlyphRow). r.glyph)) ∙ ap length to.glyphs_are

    pub items_count : length to.items ≡ length xs
    items_count = sym (length-map to.items (λ (y : ItemRow). y.item)) ∙ ap length to.items_are

    module _ (p : length gs ≤ length rs) (q : length xs ≤ length es) where
      abbrev pub allowed_call : Rows
      allowed_call = roomy_call to.rows to.items end to.read_is (omega (arith, counts, p)) (omega (arith, items_count, q))

      pub accepts : IsOk r
      accepts = ap is_ok allowed_call.answer_is

      pub records_each : RecordedAll s end gs xs rs es r rs' es'
      records_each =
          subst (λ (k : List Glyph). RecordedAll s end k xs rs es r rs' es') to.glyphs_are
          (subst (λ (k : List Item). RecordedAll s end (glyphs_in to.rows) k rs es r rs' es') to.items_are (recorded_all allowed_call))

    short_room : (length rs < length gs) ⊎ (length es < length xs) → room_for (length rs) (length es) (answer to.rows to.items end) ≡ refuse 13 0
    short_room (inl h) = rw (lt-ltb (length rs) (length to.rows) (omega (arith, counts, h)))
    short_room (inr h) =
        rw (or_true (ltb (length rs) (length to.rows)) (ltb (length es) (length to.items)) (lt-ltb (length es) (length to.items) (omega (arith, items_count, h))))

    pub no_room : (length rs < length gs) ⊎ (length es < length xs) → r ≡ Err (refusal 13 0)
    unfolding read_into
    no_room h = c.answer ∙ ap (λ (x : Answer). reading_of (room_for (length rs) (length es) x)) to.read_is ∙ ap reading_of (short_room h)

  pub only_allowed : IsOk r
      → (w : Widths) × (end : Env) × (gs : List Glyph) × (xs : List Item) × SoundList list w × Allowed s w end gs xs × (length gs ≤ length rs) × (length xs ≤ length es)
  only_allowed h =
      let x : Rows = accepted_call h in
      let y : Stream s list x.env (glyphs_in x.glyphs) (items_in x.items) = read_allowed s list x.glyphs x.items x.env x.read_is in (
        y.widths,
        x.env,
        glyphs_in x.glyphs,
        items_in x.items,
        y.list_sound,
        y.allowed,
        rw (length-map x.glyphs (λ (r : GlyphRow). r.glyph)) x.room,
        rw (length-map x.items (λ (z : ItemRow). z.item)) x.entries_room,
      )

-- ---- a refusal

module _ (s list : List ℕ) (rs : List Record) (es : List Entry) (rs' : List Record) (es' : List Entry) (number at : ℕ) (c : ReadCall s list rs es (Err (refusal number at)) rs' es') where
  -- it is a refusal of the rules
  refused_is : (x : Answer) → read_into (length rs) (length es) s list ≡ x → Kept (length rs) (length es) (read s list) x
      → Err (refusal number at) ≡ reading_of x → rs' ≡ records_over rs x → es' ≡ entries_over es x
      → (read_into (length rs) (length es) s list ≡ refuse number at) × (rs' ≡ rs) × (es' ≡ es) × Kept (length rs) (length es) (read s list) (refuse number at)
  refused_is (refuse n o) e k a b d =
      let i : refuse n o ≡ refuse number at = grind arith in (e ∙ i, b, d, subst (Kept (length rs) (length es) (read s list)) i k)
  refused_is (answer gs xs e) f k a b d = grind arith

  refused_call : (read_into (length rs) (length es) s list ≡ refuse number at) × (rs' ≡ rs) × (es' ≡ es) × Kept (length rs) (length es) (read s list) (refuse number at)
  refused_call = refused_is (read_into (length rs) (length es) s list) refl (kept_into (length rs) (length es) s list) c.answer c.records c.entries

  pub leaves : (rs' ≡ rs) × (es' ≡ es)
  leaves = let z = refused_call in (z.1, z.2)

  pub refused_into : read_into (length rs) (length es) s list ≡ refuse number at
  refused_into = refused_call.0

  pub refused-kept : Kept (length rs) (length es) (read s list) (refuse number at)
  refused-kept = refused_call.3

  pub from_the_table : OrRoom (ReadOffset s list) number at × Said s list [] [] number at × (number ≡ 12 → ⊥) × (number ≡ 14 → ⊥)
  from_the_table =
      let x = by_number.reader (length rs) (length es) s list number at refused_into in (offsets.reader (length rs) (length es) s list number at refused_into, x.0, x.1, x.2)

pub only_no_room : (s list : List ℕ) (rs : List Record) (es : List Entry) (rs' : List Record) (es' : List Entry) (at : ℕ) → ReadCall s list rs es (Err (refusal 13 at)) rs' es'
    → (w : Widths) × (end : Env) × (gs : List Glyph) × (xs : List Item) × SoundList list w × Allowed s w end gs xs × ((length rs < length gs) ⊎ (length es < length xs))
only_no_room s list rs es rs' es' at c = go (refused-kept s list rs es rs' es' 13 at c)
  where
    go : Kept (length rs) (length es) (read s list) (refuse 13 at)
        → (w : Widths) × (end : Env) × (gs : List Glyph) × (xs : List Item) × SoundList list w × Allowed s w end gs xs × ((length rs < length gs) ⊎ (length es < length xs))
    go (inl e) = absurd (not_13 11 (omega arith) (numbers.read_numbers s list 13 at e))
    go (inr (e, z, gs, xs, d, f, less)) =
        let y : Stream s list d (glyphs_in gs) (items_in xs) = read_allowed s list gs xs d f in
        (y.widths, d, glyphs_in gs, items_in xs, y.list_sound, y.allowed, rw (length-map gs (λ (r : GlyphRow). r.glyph), length-map xs (λ (z : ItemRow). z.item)) less)
