-- The theorems of demands 2 and 3, as statements about the answer functions of the rules (`read`, `respell`, `find`, `judge`), for
-- every list of bytes, width list, family list and query. The proofs stand in `proofs/`.
use Rattle.std.specs.Prelude.{ℕ, suc, ◌+◌, ◌<◌, ◌≤◌, true, false, List, [], ◌∷◌, ◌++◌, map, ◌⊎◌, ◌≡◌, length, take, drop, Ok, Err}
use Rattle.rules.specs.declared.Judging.{Judging}
use Rattle.rules.specs.Act.{Act, glyph, raw, Cmd, just, word, pair}
use Rattle.rules.specs.House.{played, spelling, spell_all}
use Rattle.rules.specs.Scan.{limits, commands, bare}
use Rattle.rules.specs.Widths.{Widths, sound, width_list}
use Rattle.rules.specs.State.{Spot, corner, Paint, no_paint, Env, Glyph, Item, start}
use Rattle.rules.specs.Record.{GlyphRow, ItemRow, Answer, refuse, answer}
use Rattle.rules.specs.Families.{Family, grouped, family_list}
use Rattle.rules.specs.Find.{Wanted, Key, well_formed, query, sought, hits_from}
use Rattle.rules.specs.Answers.{stream_most, is_over, read_with, read, read_into, is_accepted, not_spelled, spelled, respell, respell_into, Found, not_found, found, key_of, find_with, find, find_into, refusal, judge}
use Rattle.laws_read.specs.Outline.{signs_of, outline}
use Rattle.laws_read.specs.Kept.{unmotioned, all_kept}
use Rattle.laws_read.specs.Spots.{spots_of}
use Rattle.laws_find.specs.Occurs.{key_at, QueryShape, OccursAt, Elem, Rising}
use Rattle.laws_find.specs.Written.{written, GoodQuery}
use Rattle.laws_offsets.specs.Offsets.{InTableTo}

-- "A stream is accepted where, with its width list, no reason but 13 is against it"
abbrev pub Accepted : List ℕ → List ℕ → Type 0
Accepted s list = is_accepted (read s list) ≡ true

-- ---- demand 2: "Whenever it gives one, reading that spelling yields the same glyphs, drawings, controls, pages and end position, and
-- rewriting it changes nothing"

-- what the reader yields, places in the stream aside: a glyph has all that its record holds and the bytes of its name; a drawing
-- or control has its letters and arguments, page, h and v
abbrev pub glyphs_in : Answer → List Glyph
glyphs_in (refuse n at) = []
glyphs_in (answer rs xs e) = map (λ (r : GlyphRow). r.glyph) rs

abbrev pub rows_in : Answer → List GlyphRow
rows_in (refuse n at) = []
rows_in (answer rs xs e) = rs

abbrev pub items_in : Answer → List Item
items_in (refuse n at) = []
items_in (answer rs xs e) = map (λ (x : ItemRow). x.item) xs

abbrev pub pages_in : Answer → ℕ
pages_in (refuse n at) = 0
pages_in (answer rs xs e) = e.ordinal

abbrev pub end_in : Answer → Spot
end_in (refuse n at) = corner
end_in (answer rs xs e) = e.spot

abbrev pub glyph_paint_in : Answer → Paint
glyph_paint_in (refuse n at) = no_paint
glyph_paint_in (answer rs xs e) = e.glyph_paint

abbrev pub fill_paint_in : Answer → Paint
fill_paint_in (refuse n at) = no_paint
fill_paint_in (answer rs xs e) = e.fill_paint

pub record SameReading (a b : Answer) : Type 0 where
  pub glyphs : glyphs_in a ≡ glyphs_in b
  pub drawings_and_controls : items_in a ≡ items_in b
  pub pages : pages_in a ≡ pages_in b
  pub end_position : end_in a ≡ end_in b
  pub glyph_colour : glyph_paint_in a ≡ glyph_paint_in b
  pub fill_colour : fill_paint_in a ≡ fill_paint_in b

-- the commands of a stream, and the single acts that they come to
abbrev pub cmds_of : List ℕ → List Cmd
cmds_of s = bare (commands 0 0 s)

abbrev pub acts_of : Widths → List ℕ → List Act
acts_of w s = played w start (cmds_of s)

-- "Every command but motions is kept in order, repeats too": the spelling's commands but motions are the stream's; and "Before a glyph, `N`,
-- any `D`, `x X` or `x s`, `H` and then `V` are written": before each of them a reader of the spelling is where a reader of the stream is
pub record ReadAgain (s list t : List ℕ) : Type 0 where
  pub stream_accepted : Accepted s list
  pub spelling_accepted : Accepted t list
  pub same : SameReading (read t list) (read s list)
  pub kept : (w : Widths) → width_list list ≡ sound w → unmotioned (acts_of w t) ≡ unmotioned (acts_of w s)
  pub kept_commands : all_kept (cmds_of t) ≡ all_kept (cmds_of s)
  pub places : (w : Widths) → width_list list ≡ sound w → spots_of w start (cmds_of t) ≡ spots_of w start (cmds_of s)

abbrev pub RoundTrip : Type 0
RoundTrip = (s list t : List ℕ) → respell s list ≡ spelled t → ReadAgain s list t

abbrev pub FixedPoint : Type 0
FixedPoint = (s list t : List ℕ) → respell s list ≡ spelled t → respell t list ≡ spelled t

-- the house text of a stream's commands
abbrev pub house_text : Widths → List ℕ → List ℕ
house_text w s = spell_all (spelling w (cmds_of s))

-- "the one house spelling": it goes by the commands alone; an accepted stream has a sound list and is given its house text, unless
-- that is too long, and any other stream is refused as the reader refuses it
pub record OneSpelling : Type 0 where
  pub by_commands : (s s' list : List ℕ) → Accepted s list → Accepted s' list → cmds_of s ≡ cmds_of s' → respell s list ≡ respell s' list
  pub sound-list : (s list : List ℕ) → Accepted s list → (w : Widths) × (width_list list ≡ sound w)
  pub accepted : (s list : List ℕ) (w : Widths) → width_list list ≡ sound w → Accepted s list
      → (respell s list ≡ spelled (house_text w s)) ⊎ ((respell s list ≡ not_spelled 13 0) × (stream_most < length (house_text w s)))
  pub refused : (s list : List ℕ) (n at : ℕ) → read s list ≡ refuse n at → respell s list ≡ not_spelled n at

-- ---- "name (its place and length in the stream)": the bytes at a record's place are its name

abbrev pub name_in : List ℕ → GlyphRow → List ℕ
name_in s r = take (length r.glyph.name) (drop r.place s)

abbrev pub NamesIn : List ℕ → List GlyphRow → Type 0
NamesIn s [] = Unit {0}
NamesIn s (r ∷ rs) = (name_in s r ≡ r.glyph.name) × NamesIn s rs

abbrev pub NamesOf : List ℕ → Answer → Type 0
NamesOf s (refuse n at) = Unit {0}
NamesOf s (answer rs xs e) = NamesIn s rs

abbrev pub NamesStand : Type 0
NamesStand = (s list : List ℕ) → NamesOf s (read s list)

-- ---- demand 3: "the number of every glyph record of the stream at which the query occurs by 01's rule, each once, earliest first, and no
-- other"; 2026-01: "demand 3 with a sound family list"

-- the records are the reader's, the numbers are rising, each is one at which the query occurs, and each of those is there
pub record Exact (s list fl q : List ℕ) (rs : List GlyphRow) (is : List ℕ) : Type 0 where
  pub families : List Family
  pub sound_families : family_list fl ≡ grouped families
  pub glyphs : List Wanted
  pub asked : query q ≡ well_formed glyphs
  pub shape : QueryShape glyphs
  pub accepted : Accepted s list
  pub records : rows_in (read s list) ≡ rs
  pub rising : Rising is
  pub only : (i : ℕ) → Elem i is → OccursAt families glyphs (map key_of rs) i
  pub every : (i : ℕ) → OccursAt families glyphs (map key_of rs) i → Elem i is
  pub below : (i : ℕ) → Elem i is → i < length rs

abbrev pub Exactness : Type 0
Exactness = (s list fl q : List ℕ) (rs : List GlyphRow) (is : List ℕ) → find s list fl q ≡ found rs is → Exact s list fl q rs is

-- with a sound family list that is not too long, a well-formed query on an accepted stream is answered, on any other stream refused as the
-- reader refuses it
pub record Answered : Type 0 where
  pub accepted : (s list fl q : List ℕ) (fs : List Family) (qs : List Wanted) → Accepted s list → family_list fl ≡ grouped fs → is_over 65_536 fl ≡ false → query q ≡ well_formed qs → is_over 8_192 q ≡ false
      → find s list fl q ≡ found (rows_in (read s list)) (hits_from (map (sought fs) qs) 0 (map key_of (rows_in (read s list))))
  pub refused : (s list fl q : List ℕ) (fs : List Family) (qs : List Wanted) (n at : ℕ) → family_list fl ≡ grouped fs → is_over 65_536 fl ≡ false → query q ≡ well_formed qs → is_over 8_192 q ≡ false
      → read s list ≡ refuse n at → find s list fl q ≡ not_found n at

-- "A query has lines `glyph=NAME` and `gap=any`, each ended by a newline: 1 to 64 glyph lines, first and last line a glyph, never two
-- gaps together. NAME is a string of 1 to 64 bytes": what is written for good glyphs asks for these, and nothing else is well formed
pub record QueryText : Type 0 where
  pub asks : (qs : List Wanted) → GoodQuery qs → query (written qs) ≡ well_formed qs
  pub only : (q : List ℕ) (qs : List Wanted) → query q ≡ well_formed qs → (q ≡ written qs) × GoodQuery qs
  -- "neither 1 nor 12 is against it": where 12 is not, 1 is not
  pub short : (q : List ℕ) (qs : List Wanted) → query q ≡ well_formed qs → length q ≤ 8_192
  -- "so an `N` record matches no query glyph": where the query occurs, with the families of any sound list, no name is empty
  pub named : (fl q : List ℕ) (fs : List Family) (qs : List Wanted) (ks : List Key) (i j : ℕ) → family_list fl ≡ grouped fs → query q ≡ well_formed qs → OccursAt fs qs ks i → j < length qs
      → 1 ≤ length (key_at ks (i + j)).name

-- what the finder tells of a stream: a refusal; or the list, and how many records there are
pub data Told : Type 0 where
  refused_at : ℕ → ℕ → Told
  listed : List ℕ → ℕ → Told

abbrev pub told : Found → Told
told (not_found n at) = refused_at n at
told (found rs is) = listed is (length rs)

-- ---- "by which of t, u, c, C or the old two-digit form a one-byte name was set"

-- the outline of a stream's commands has the names, gaps and pages alone; 2026-01: a family list, "the same one for both streams"
abbrev pub ByOutline : Type 0
ByOutline = (s list s' list' : List ℕ) → Accepted s list → Accepted s' list' → outline (cmds_of s) ≡ outline (cmds_of s')
    → (fl q : List ℕ) → told (find s list fl q) ≡ told (find s' list' fl q)

-- a command may stand for another of the same outline, anywhere; a word or two digits have the outline of single glyphs
abbrev pub single : ℕ → Cmd
single b = just (glyph (b ∷ []))

pub record ByAnyCommand : Type 0 where
  pub by_outline : ByOutline
  pub swap : (xs ys : List Cmd) (c c' : Cmd) → signs_of c ≡ signs_of c' → outline (xs ++ c ∷ ys) ≡ outline (xs ++ c' ∷ ys)
  pub by_word : (n b : ℕ) → signs_of (word n (b ∷ [])) ≡ signs_of (single b)
  pub by_two_digits : (n b : ℕ) → signs_of (pair n b) ≡ signs_of (single b)
  pub word_by_glyphs : (n : ℕ) (bs : List ℕ) (cs : List Cmd) → outline (word n bs ∷ cs) ≡ outline (map single bs ++ cs)

-- ---- "any two accepted streams .. that have equally many records, record by record alike in name bytes, gap mark and page ordinal. On both
-- .. every well-formed query gives the same list and the same numbers."; 2026-01: "with a sound family list, the same one for both streams it
-- compares" (here with any family list and any query)

abbrev pub Alike : List ℕ → List GlyphRow → List ℕ → List GlyphRow → Type 0
Alike s [] s' [] = Unit {0}
Alike s [] s' (r' ∷ rs') = ⊥
Alike s (r ∷ rs) s' [] = ⊥
Alike s (r ∷ rs) s' (r' ∷ rs') =
    (name_in s r ≡ name_in s' r') × (r.glyph.gap ≡ r'.glyph.gap) × (r.glyph.ordinal ≡ r'.glyph.ordinal) × Alike s rs s' rs'

abbrev pub Likeness : Type 0
Likeness = (s list s' list' : List ℕ) → Accepted s list → Accepted s' list' → Alike s (rows_in (read s list)) s' (rows_in (read s' list'))
    → (fl q : List ℕ) → told (find s list fl q) ≡ told (find s' list' fl q)

-- ---- "Rows with a place for each record and hit, in the reader for each record and entry, are large enough."

pub record Roomy : Type 0 where
  pub reader : (records entries : ℕ) (s list : List ℕ) (rs : List GlyphRow) (xs : List ItemRow) (e : Env) → read s list ≡ answer rs xs e → length rs ≤ records → length xs ≤ entries
      → read_into records entries s list ≡ answer rs xs e
  pub rewriter : (room : ℕ) (s list t : List ℕ) → respell s list ≡ spelled t → length t ≤ room → respell_into room s list ≡ spelled t
  pub finder : (records hits : ℕ) (s list fl q : List ℕ) (rs : List GlyphRow) (is : List ℕ) → find s list fl q ≡ found rs is → length rs ≤ records → length is ≤ hits
      → find_into records hits s list fl q ≡ found rs is

-- ---- what the judge's answer says of the other routines: whoever lends what it asks for is never refused for room (house)

-- j is what is answered of an acceptance
pub record Judged : Type 0 where
  -- it refuses as the reader does, room aside, and nothing else: the same number at the same place
  pub refused : (s list : List ℕ) (n at : ℕ) → judge s list ≡ Err (refusal n at) → read s list ≡ refuse n at
  pub refuses : (s list : List ℕ) (n at : ℕ) → read s list ≡ refuse n at → judge s list ≡ Err (refusal n at)
  -- never with 12, 13 or 14
  pub numbers : (s list : List ℕ) (n at : ℕ) → judge s list ≡ Err (refusal n at) → InTableTo 11 n
  -- what it accepts, the reader accepts, with just so many records, entries and pages
  pub accepted : (s list : List ℕ) (j : Judging) → judge s list ≡ Ok j
      → (rs : List GlyphRow) × (xs : List ItemRow) × (e : Env) × (read s list ≡ answer rs xs e) × (length rs ≡ j.records) × (length xs ≡ j.entries) × (e.ordinal ≡ j.pages)
  -- with so many places for records and for entries, or more, the reader answers as it does where room is no matter
  pub reader : (s list : List ℕ) (j : Judging) (records entries : ℕ) → judge s list ≡ Ok j → j.records ≤ records → j.entries ≤ entries → read_into records entries s list ≡ read s list
  -- a spelling within its limit has so many bytes, and the rewriter gives it to a buffer of so many or more
  pub rewriter : (s list : List ℕ) (j : Judging) (room : ℕ) → judge s list ≡ Ok j → j.spelling ≤ stream_most → j.spelling ≤ room
      → (u : List ℕ) × (respell_into room s list ≡ spelled u) × (length u ≡ j.spelling)
  -- a spelling over its limit is told by one byte more than the limit: no buffer is large enough. No more than that is told
  pub rewriter_over : (s list : List ℕ) (j : Judging) (room : ℕ) → judge s list ≡ Ok j → j.spelling ≡ suc stream_most → respell_into room s list ≡ not_spelled 13 0
  pub spelling-most : (s list : List ℕ) (j : Judging) → judge s list ≡ Ok j → j.spelling ≤ suc stream_most
  -- with so many places for records and as many for hits, or more, the finder answers any query as it does where room is no matter: never
  -- with 13, and a well-formed query, with a sound family list that is not too long, with so many records
  pub finder : (s list fl q : List ℕ) (j : Judging) (records hits : ℕ) → judge s list ≡ Ok j → j.records ≤ records → j.records ≤ hits → find_into records hits s list fl q ≡ find s list fl q
  pub finder_never_13 : (s list fl q : List ℕ) (j : Judging) (records hits n at : ℕ) → judge s list ≡ Ok j → j.records ≤ records → j.records ≤ hits
      → find_into records hits s list fl q ≡ not_found n at → n ≡ 13 → ⊥
  pub finder_found : (s list fl q : List ℕ) (fs : List Family) (qs : List Wanted) (j : Judging) (records hits : ℕ) → judge s list ≡ Ok j → j.records ≤ records → j.records ≤ hits
      → family_list fl ≡ grouped fs → length fl ≤ 65_536 → query q ≡ well_formed qs
      → (rs : List GlyphRow) × (is : List ℕ) × (find_into records hits s list fl q ≡ found rs is) × (length rs ≡ j.records)

-- ---- the limits that no sample reaches, as 01 and 2026-01 have them: 16,777,216 bytes of a stream and of a spelling, 65,536 of a width list
-- and of a family list, 8,192 of a query, 4,096 of a text; each number itself is allowed

pub record Limits : Type 0 where
  pub long_stream : (s list : List ℕ) → 16_777_216 < length s → read s list ≡ refuse 1 0
  pub long_list : (s list : List ℕ) → 65_536 < length list → read s list ≡ refuse 1 0
  pub long_families : (s list fl q : List ℕ) → 65_536 < length fl → find s list fl q ≡ not_found 1 0
  pub long_query : (s list fl q : List ℕ) → 8_192 < length q → find s list fl q ≡ not_found 1 0
  pub not_long : (s list : List ℕ) → length s ≤ 16_777_216 → length list ≤ 65_536 → read s list ≡ read_with s (width_list list)
  pub not_long_query : (s list fl q : List ℕ) → length s ≤ 16_777_216 → length list ≤ 65_536 → length fl ≤ 65_536 → length q ≤ 8_192 → find s list fl q ≡ find_with s fl q (width_list list)
  pub not_long_spelling : (s list : List ℕ) (w : Widths) → width_list list ≡ sound w → Accepted s list → length (house_text w s) ≤ 16_777_216 → respell s list ≡ spelled (house_text w s)
  pub long_spelling : (s list : List ℕ) (w : Widths) → width_list list ≡ sound w → Accepted s list → 16_777_216 < length (house_text w s) → respell s list ≡ not_spelled 13 0
  pub text : (t : List ℕ) → length t ≤ 4_096 → limits (raw t) ≡ true ∷ []
  pub long_text : (t : List ℕ) → 4_096 < length t → limits (raw t) ≡ false ∷ []

-- ---- "accept, or refuse with a number .. from the table in 01": the reader with 1 to 11 and 16 (2026-06), the finder with 12 and 14
-- (2026-01) too, "13 comes last"

pub record Numbers : Type 0 where
  pub read_numbers : (s list : List ℕ) (n at : ℕ) → read s list ≡ refuse n at → InTableTo 11 n
  pub find_numbers : (s list fl q : List ℕ) (n at : ℕ) → find s list fl q ≡ not_found n at → InTableTo 12 n ⊎ (n ≡ 14)
  pub reader : (records entries : ℕ) (s list : List ℕ) (n at : ℕ) → read_into records entries s list ≡ refuse n at → InTableTo 13 n
  pub rewriter : (room : ℕ) (s list : List ℕ) (n at : ℕ) → respell_into room s list ≡ not_spelled n at → InTableTo 13 n
  pub finder : (records hits : ℕ) (s list fl q : List ℕ) (n at : ℕ) → find_into records hits s list fl q ≡ not_found n at → InTableTo 14 n
