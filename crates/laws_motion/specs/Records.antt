-- Document 01, "What a record holds": the numbers of a record, an entry and the reader's answer, each said by what the environment holds
-- before the command, as an integer. The statements name what comes out of `act`, `record_of`, `entry_of` and `reading_of`, and nothing by
-- which these are put together, so a wrong `glyph_of`, `item_at`, `letters_of` or `new_page` does not meet them. Proofs: `proofs/Held.antt`.
use Rattle.std.specs.Prelude.{ℕ, suc, ◌*◌, ◌-◌, ◌/◌, ◌<◌, ◌≤◌, Bool, true, false, List, [], ◌∷◌, map, ◌⊎◌, ◌≡◌, ℤ, pos, negsuc, length, get_or, Ok}
use Prim.Native.Char.{Char, code}
use Prim.Native.String.{String}
use Rattle.std.proofs.Math.Option.{none, some}
use Rattle.rules.specs.declared.Record.{Record}
use Rattle.rules.specs.declared.Entry.{Entry}
use Rattle.rules.specs.declared.Colour.{Colour}
use Rattle.rules.specs.declared.Reading.{Reading}
use Rattle.rules.specs.Bytes.{bytes}
use Rattle.rules.specs.Act.{Scheme, cmy, default, gray, cmyk, rgb, Shape, line, arc, circle, solid_circle, ellipse, solid_ellipse, polygon, solid_polygon, spline, thickness, gray_fill, colour_fill, Plain, pause, trailer, height, slant, underline, Act, glyph, index, to, by, page, font, size, colour, break, space, draw, device, resolution, init, file, mount, plain, raw, stop}
use Rattle.rules.specs.State.{Paint, Env, start, Glyph, Item, mounted_at, went, act}
use Rattle.rules.specs.Record.{GlyphRow, ItemRow, answer, shown, record_of, entry_of}
use Rattle.rules.specs.Answers.{reading_of}

-- ---- a record

-- "Page ordinal (1 for the first `p`), page number, h and v before any advance, font position, size, name (its place and length in
-- the stream), index for `N` (else 0; ..), and the gap mark": of a glyph of this name and index, behind e, its name standing at p
pub record RecordHolds (e : Env) (name : List ℕ) (i p : ℕ) (r : Record) : Type 0 where
  pub ordinal : r.ordinal ≡ e.ordinal
  pub page_number : r.page ≡ shown e.number
  pub h : r.h ≡ shown e.spot.h
  pub v : r.v ≡ shown e.spot.v
  pub font_position : some r.font ≡ e.font
  pub size : r.size ≡ e.size
  pub name_place : r.place ≡ p
  pub name_length : r.len ≡ length name
  pub index : r.index ≡ i
  pub gap_mark : r.gap ≡ e.gap

-- one glyph and no other, and its record wherever its name stands
pub record OneRecord (e : Env) (name : List ℕ) (i : ℕ) (gs : List Glyph) : Type 0 where
  pub made : Glyph
  pub only : gs ≡ made ∷ []
  pub named : made.name ≡ name
  pub holds : (p : ℕ) → RecordHolds e name i p (record_of (record { glyph = made; place = p }))

-- `c`, `C` and `N` alone can make a record
abbrev pub may_record : Act → Bool
may_record (glyph n) = true
may_record (index n) = true
may_record (to x n) = false
may_record (by x n) = false
may_record (page n) = false
may_record (font n) = false
may_record (size n) = false
may_record (colour c ns) = false
may_record break = false
may_record space = false
may_record (draw s ns) = false
may_record (device n) = false
may_record (resolution n h v) = false
may_record init = false
may_record (file n) = false
may_record (mount n m) = false
may_record (plain c ns) = false
may_record (raw t) = false
may_record stop = false

pub record Recorded : Type 0 where
  -- "`c` g: glyph of one byte", "`C` name: glyph of that name"; its index is 0
  pub by_name : (e e' : Env) (gs : List Glyph) (xs : List Item) (n : List ℕ) → act e (glyph n) ≡ went e' gs xs → OneRecord e n 0 gs
  -- "`N` n >= 0: glyph by index, its record has an empty name"
  pub by_index : (e e' : Env) (gs : List Glyph) (xs : List Item) (n i : ℕ) → shown n ≡ pos i → act e (index n) ≡ went e' gs xs → OneRecord e [] i gs
  -- "n < 0: no record, a gap"
  pub below_0 : (e e' : Env) (gs : List Glyph) (xs : List Item) (n i : ℕ) → shown n ≡ negsuc i → act e (index n) ≡ went e' gs xs → (gs ≡ []) × (e'.gap ≡ 1)
  -- nothing else makes a record
  pub no_other : (e e' : Env) (gs : List Glyph) (xs : List Item) (a : Act) → may_record a ≡ false → act e a ≡ went e' gs xs → gs ≡ []

-- ---- an entry

-- "its letters (of an `x` word only the first)", as they are written; an act without an entry has none
abbrev pub drawing_letters : Shape → String
drawing_letters line = "Dl"
drawing_letters arc = "Da"
drawing_letters circle = "Dc"
drawing_letters solid_circle = "DC"
drawing_letters ellipse = "De"
drawing_letters solid_ellipse = "DE"
drawing_letters polygon = "Dp"
drawing_letters solid_polygon = "DP"
drawing_letters spline = "D~"
drawing_letters thickness = "Dt"
drawing_letters gray_fill = "Df"
drawing_letters (colour_fill cmy) = "DFc"
drawing_letters (colour_fill default) = "DFd"
drawing_letters (colour_fill gray) = "DFg"
drawing_letters (colour_fill cmyk) = "DFk"
drawing_letters (colour_fill rgb) = "DFr"

abbrev pub plain_letters : Plain → String
plain_letters pause = "xp"
plain_letters trailer = "xt"
plain_letters height = "xH"
plain_letters slant = "xS"
plain_letters underline = "xu"

abbrev pub letters : Act → String
letters (glyph n) = ""
letters (index n) = ""
letters (to x n) = ""
letters (by x n) = ""
letters (page n) = ""
letters (font n) = ""
letters (size n) = ""
letters (colour c ns) = ""
letters break = ""
letters space = ""
letters (draw s ns) = drawing_letters s
letters (device n) = "xT"
letters (resolution n h v) = "xr"
letters init = "xi"
letters (file n) = "xF"
letters (mount n m) = "xf"
letters (plain c ns) = plain_letters c
letters (raw t) = "xX"
letters stop = "xs"

-- three bytes, 0 where there is no letter
abbrev pub three : List ℕ → List ℕ
three [] = 0 ∷ 0 ∷ 0 ∷ []
three (a ∷ []) = a ∷ 0 ∷ 0 ∷ []
three (a ∷ b ∷ []) = a ∷ b ∷ 0 ∷ []
three (a ∷ b ∷ c ∷ r) = a ∷ b ∷ c ∷ []

-- "for `D` and `x X` only, h and v before it (else 0)"
abbrev pub place_in : Act → ℤ → ℤ
place_in (glyph n) z = pos 0
place_in (index n) z = pos 0
place_in (to x n) z = pos 0
place_in (by x n) z = pos 0
place_in (page n) z = pos 0
place_in (font n) z = pos 0
place_in (size n) z = pos 0
place_in (colour c ns) z = pos 0
place_in break z = pos 0
place_in space z = pos 0
place_in (draw s ns) z = z
place_in (device n) z = pos 0
place_in (resolution n h v) z = pos 0
place_in init z = pos 0
place_in (file n) z = pos 0
place_in (mount n m) z = pos 0
place_in (plain c ns) z = pos 0
place_in (raw t) z = z
place_in stop z = pos 0

-- "its letters .., page ordinal (0 before the first `p`), place and length in the stream .., and .. h and v": of the command of this
-- act, behind e, standing at p with this length
pub record EntryHolds (e : Env) (a : Act) (p len : ℕ) (x : Entry) : Type 0 where
  pub written : x.command ∷ x.letter ∷ x.scheme ∷ [] ≡ three (bytes (letters a))
  pub ordinal : x.ordinal ≡ e.ordinal
  pub place : x.place ≡ p
  pub len_is : x.len ≡ len
  pub h : x.h ≡ place_in a (shown e.spot.h)
  pub v : x.v ≡ place_in a (shown e.spot.v)

pub record OneEntry (e : Env) (a : Act) (xs : List Item) : Type 0 where
  pub made : Item
  pub only : xs ≡ made ∷ []
  pub said : made.act ≡ a
  pub holds : (p l : ℕ) → EntryHolds e a p l (entry_of (record { item = made; place = p; len = l }))

-- "one entry for each `D` or `x` command", and none for any other
abbrev pub is_some : List ℕ → Bool
is_some [] = false
is_some (b ∷ r) = true

pub record Entered : Type 0 where
  pub one : (e e' : Env) (gs : List Glyph) (xs : List Item) (a : Act) → is_some (bytes (letters a)) ≡ true → act e a ≡ went e' gs xs → OneEntry e a xs
  pub no_other : (e e' : Env) (gs : List Glyph) (xs : List Item) (a : Act) → is_some (bytes (letters a)) ≡ false → act e a ≡ went e' gs xs → xs ≡ []

-- ---- what the environment holds, the place aside

-- "`p` n: new page numbered n; ..; h, font, size and colours stay (house)"; "The mark is set on the first record of a page"
pub record NewPage (e e' : Env) (n : ℕ) : Type 0 where
  pub ordinal : e'.ordinal ≡ suc e.ordinal
  pub number : e'.number ≡ n
  pub font_stays : e'.font ≡ e.font
  pub size_stays : e'.size ≡ e.size
  pub glyph_colour_stays : e'.glyph_paint ≡ e.glyph_paint
  pub fill_colour_stays : e'.fill_paint ≡ e.fill_paint
  pub gap_set : e'.gap ≡ 1

-- "a scheme with four components, unused ones 0"
pub record PaintIs (c : Scheme) (is : List ℕ) (p : Paint) : Type 0 where
  pub scheme : p.scheme ≡ c
  pub components : p.parts ≡ get_or is 0 0 ∷ get_or is 1 0 ∷ get_or is 2 0 ∷ get_or is 3 0 ∷ []

-- the numbers ns stand for is, none of them below 0
abbrev pub StandFor : List ℕ → List ℕ → Type 0
StandFor ns is = map shown ns ≡ map pos is

-- what commands set
pub data Setting : Type 0 where
  the_page the_font the_size the_gap the_glyph_colour the_fill_colour the_mounts the_quantum : Setting

-- as it was
abbrev pub Stays : Setting → Env → Env → Type 0
Stays the_page e e' = (e'.ordinal ≡ e.ordinal) × (e'.number ≡ e.number)
Stays the_font e e' = e'.font ≡ e.font
Stays the_size e e' = e'.size ≡ e.size
Stays the_gap e e' = e'.gap ≡ e.gap
Stays the_glyph_colour e e' = e'.glyph_paint ≡ e.glyph_paint
Stays the_fill_colour e e' = e'.fill_paint ≡ e.fill_paint
Stays the_mounts e e' = e'.mounts ≡ e.mounts
Stays the_quantum e e' = e'.quantum ≡ e.quantum

-- which of it an act may change
abbrev pub may_fill : Shape → List Setting
may_fill line = []
may_fill arc = []
may_fill circle = []
may_fill solid_circle = []
may_fill ellipse = []
may_fill solid_ellipse = []
may_fill polygon = []
may_fill solid_polygon = []
may_fill spline = []
may_fill thickness = []
may_fill gray_fill = the_fill_colour ∷ []
may_fill (colour_fill c) = the_fill_colour ∷ []

abbrev pub may_set : Act → List Setting
may_set (glyph n) = the_gap ∷ []
may_set (index n) = the_gap ∷ []
may_set (to x n) = []
may_set (by x n) = []
may_set (page n) = the_page ∷ the_gap ∷ []
may_set (font n) = the_font ∷ []
may_set (size n) = the_size ∷ []
may_set (colour c ns) = the_glyph_colour ∷ []
may_set break = the_gap ∷ []
may_set space = the_gap ∷ []
may_set (draw s ns) = may_fill s
may_set (device n) = []
may_set (resolution n h v) = the_quantum ∷ []
may_set init = []
may_set (file n) = []
may_set (mount n m) = the_mounts ∷ []
may_set (plain c ns) = []
may_set (raw t) = []
may_set stop = []

abbrev pub Among : Setting → List Setting → Type 0
Among k [] = ⊥
Among k (j ∷ js) = (k ≡ j) ⊎ Among k js

pub record Settings : Type 0 where
  -- "h and v start at 0"; "Both [colours] start as the default scheme."; no page, no font, no size and no mount at the start
  pub starts : (shown start.spot.h ≡ pos 0) × (shown start.spot.v ≡ pos 0) × (start.ordinal ≡ 0) × (start.font ≡ none) × (start.size ≡ 0)
  pub starts_glyph_colour : PaintIs default [] start.glyph_paint
  pub starts_fill_colour : PaintIs default [] start.fill_paint
  pub starts_unmounted : (i : ℕ) → mounted_at i start.mounts ≡ []
  -- whatever an act does not set stays
  pub stays : (e e' : Env) (gs : List Glyph) (xs : List Item) (a : Act) (k : Setting) → (Among k (may_set a) → ⊥) → act e a ≡ went e' gs xs → Stays k e e'
  pub turns : (e e' : Env) (gs : List Glyph) (xs : List Item) (n : ℕ) → act e (page n) ≡ went e' gs xs → NewPage e e' n
  -- "`f` n, `s` n: font position 0..255; size 1..99,999,999": the environment holds the number itself
  pub sets_font : (e e' : Env) (gs : List Glyph) (xs : List Item) (n i : ℕ) → shown n ≡ pos i → act e (font n) ≡ went e' gs xs → e'.font ≡ some i
  pub sets_size : (e e' : Env) (gs : List Glyph) (xs : List Item) (n i : ℕ) → shown n ≡ pos i → act e (size n) ≡ went e' gs xs → e'.size ≡ i
  -- "the .. `x r` second number m" of the advance
  pub sets_quantum : (e e' : Env) (gs : List Glyph) (xs : List Item) (n h v i : ℕ) → shown h ≡ pos i → act e (resolution n h v) ≡ went e' gs xs → e'.quantum ≡ i
  -- "`mc` 3, `md` 0, `mg` 1, `mk` 4, `mr` 3: glyph colour, that many components"
  pub sets_glyph_colour : (e e' : Env) (gs : List Glyph) (xs : List Item) (c : Scheme) (ns is : List ℕ) → StandFor ns is → act e (colour c ns) ≡ went e' gs xs → PaintIs c is e'.glyph_paint
  -- "`DF` sets the fill colour"
  pub sets_fill_colour : (e e' : Env) (gs : List Glyph) (xs : List Item) (c : Scheme) (ns is : List ℕ) → StandFor ns is → act e (draw (colour_fill c) ns) ≡ went e' gs xs → PaintIs c is e'.fill_paint
  -- "`Df` n sets it to gray, the whole part of (1000-n)*65536/1000, for n 0..1000 (house), else to the glyph colour"
  pub sets_gray : (e e' : Env) (gs : List Glyph) (xs : List Item) (n i : ℕ) → shown n ≡ pos i → i ≤ 1000 → act e (draw gray_fill (n ∷ [])) ≡ went e' gs xs → PaintIs gray (((1000 - i) * 65536 / 1000) ∷ []) e'.fill_paint
  pub gray_above : (e e' : Env) (gs : List Glyph) (xs : List Item) (n i : ℕ) → shown n ≡ pos i → 1000 < i → act e (draw gray_fill (n ∷ [])) ≡ went e' gs xs → e'.fill_paint ≡ e.glyph_paint
  pub gray_below : (e e' : Env) (gs : List Glyph) (xs : List Item) (n i : ℕ) → shown n ≡ negsuc i → act e (draw gray_fill (n ∷ [])) ≡ went e' gs xs → e'.fill_paint ≡ e.glyph_paint
  -- "`f` n name (mount at 0..255, again allowed)": the name now mounted there is this one, every other is what it was
  pub mounts : (e e' : Env) (gs : List Glyph) (xs : List Item) (n i : ℕ) (m : List ℕ) → shown n ≡ pos i → i < length e.mounts → act e (mount n m) ≡ went e' gs xs → mounted_at i e'.mounts ≡ m
  pub mounts_no_other : (e e' : Env) (gs : List Glyph) (xs : List Item) (n i j : ℕ) (m : List ℕ) → shown n ≡ pos i → (j ≡ i → ⊥) → act e (mount n m) ≡ went e' gs xs → mounted_at j e'.mounts ≡ mounted_at j e.mounts
  -- "on a record with a `w`, `n` or negative `N` since the record before it": these set the mark (`N`: `Recorded.below_0`), a record
  -- takes it away
  pub w_marks : (e e' : Env) (gs : List Glyph) (xs : List Item) → act e space ≡ went e' gs xs → e'.gap ≡ 1
  pub n_marks : (e e' : Env) (gs : List Glyph) (xs : List Item) → act e break ≡ went e' gs xs → e'.gap ≡ 1
  pub name_unmarks : (e e' : Env) (gs : List Glyph) (xs : List Item) (n : List ℕ) → act e (glyph n) ≡ went e' gs xs → e'.gap ≡ 0
  pub index_unmarks : (e e' : Env) (gs : List Glyph) (xs : List Item) (n i : ℕ) → shown n ≡ pos i → act e (index n) ≡ went e' gs xs → e'.gap ≡ 0

-- ---- the reader's answer: "the numbers of records, entries and pages, the end h and v, and both colours"

abbrev pub scheme_char : Scheme → Char
scheme_char cmy = "c"
scheme_char default = "d"
scheme_char gray = "g"
scheme_char cmyk = "k"
scheme_char rgb = "r"

pub record ColourHolds (c : Paint) (x : Colour) : Type 0 where
  pub scheme : x.scheme ≡ code (scheme_char c.scheme)
  pub components : x.parts ≡ c.parts

pub record EndHolds (rs : List GlyphRow) (xs : List ItemRow) (e : Env) (r : Reading) : Type 0 where
  pub records : r.records ≡ length rs
  pub entries : r.entries ≡ length xs
  pub pages : r.pages ≡ e.ordinal
  pub h : r.h ≡ shown e.spot.h
  pub v : r.v ≡ shown e.spot.v
  pub glyph_colour : ColourHolds e.glyph_paint r.glyph
  pub fill_colour : ColourHolds e.fill_paint r.fill

abbrev pub AnswerHolds : Type 0
AnswerHolds = (rs : List GlyphRow) (xs : List ItemRow) (e : Env) → (r : Reading) × (reading_of (answer rs xs e) ≡ Ok r) × EndHolds rs xs e r
