-- The answers for C, field by field (`Flat` has them whole).
use Rattle.std.specs.Prelude.{ℕ, List, ◌≡◌, ℤ, pos, Ok, Err}
use Rattle.rules.specs.declared.Record.{Record}
use Rattle.rules.specs.declared.Entry.{Entry}
use Rattle.rules.specs.declared.Colour.{Colour}
use Rattle.rules.specs.declared.Refusal.{Refusal}
use Rattle.rules.specs.declared.NamePart.TheVariants as N
use Rattle.rules.specs.State.{no_paint}
use Rattle.rules.specs.Record.{colour_of}
use Rattle.rules.specs.Answers.{refusal}
use Rattle.rules.specs.Calls.{ReadCall}
use Rattle.capi_answers.specs.declared.ReadResult.{ReadResult}
use Rattle.capi_answers.specs.declared.FindResult.{FindResult}
use Rattle.capi_answers.specs.declared.RespellResult.{RespellResult}
use Rattle.capi_answers.specs.declared.JudgeResult.{JudgeResult}
use Rattle.capi_answers.specs.declared.FirstNameResult.{FirstNameResult}
use Rattle.capi_answers.specs.Flat.{default_colour, flat_reading, flat_finding, flat_respelling, flat_judging, flat_part}

-- what each result shows; refusal 0 is no number of 01, and says that nothing is refused
pub record ReadShows (r : ReadResult) (refusal offset records entries pages : ℕ) (h v : ℤ) (glyph fill : Colour) : Type 0 where
  pub refusal_is : r.refusal ≡ refusal
  pub offset_is : r.offset ≡ offset
  pub records_is : r.records ≡ records
  pub entries_is : r.entries ≡ entries
  pub pages_is : r.pages ≡ pages
  pub h_is : r.h ≡ h
  pub v_is : r.v ≡ v
  pub glyph_is : r.glyph ≡ glyph
  pub fill_is : r.fill ≡ fill

pub record FindShows (r : FindResult) (refusal offset records hits : ℕ) : Type 0 where
  pub refusal_is : r.refusal ≡ refusal
  pub offset_is : r.offset ≡ offset
  pub records_is : r.records ≡ records
  pub hits_is : r.hits ≡ hits

pub record RespellShows (r : RespellResult) (refusal offset len : ℕ) : Type 0 where
  pub refusal_is : r.refusal ≡ refusal
  pub offset_is : r.offset ≡ offset
  pub len_is : r.len ≡ len

pub record JudgeShows (r : JudgeResult) (refusal offset records entries pages spelling : ℕ) : Type 0 where
  pub refusal_is : r.refusal ≡ refusal
  pub offset_is : r.offset ≡ offset
  pub records_is : r.records ≡ records
  pub entries_is : r.entries ≡ entries
  pub pages_is : r.pages ≡ pages
  pub spelling_is : r.spelling ≡ spelling

pub record PartShows (r : FirstNameResult) (source place len : ℕ) : Type 0 where
  pub source_is : r.source ≡ source
  pub place_is : r.place ≡ place
  pub len_is : r.len ≡ len

-- an acceptance has refusal 0 at 0 and what was answered; a refusal has its number and offset, and 0 for all else but the colours, which
-- are those of a stream that sets none
pub record FieldsOf : Type 0 where
  pub read : (glyph fill : Colour) (records entries pages : ℕ) (h v : ℤ)
      → ReadShows (flat_reading (Ok (record { records = records; entries = entries; pages = pages; h = h; v = v; glyph = glyph; fill = fill }))) 0 0 records entries pages h v glyph fill
  pub read-refused : (number offset : ℕ) → ReadShows (flat_reading (Err (refusal number offset))) number offset 0 0 0 (pos 0) (pos 0) default_colour default_colour
  pub default : default_colour ≡ colour_of no_paint
  pub found : (records hits : ℕ) → FindShows (flat_finding (Ok (record { records = records; hits = hits }))) 0 0 records hits
  pub find-refused : (number offset : ℕ) → FindShows (flat_finding (Err (refusal number offset))) number offset 0 0
  pub respelt : (len : ℕ) → RespellShows (flat_respelling (Ok len)) 0 0 len
  pub respell-refused : (number offset : ℕ) → RespellShows (flat_respelling (Err (refusal number offset))) number offset 0
  pub judged : (records entries pages spelling : ℕ)
      → JudgeShows (flat_judging (Ok (record { records = records; entries = entries; pages = pages; spelling = spelling }))) 0 0 records entries pages spelling
  pub judge-refused : (number offset : ℕ) → JudgeShows (flat_judging (Err (refusal number offset))) number offset 0 0 0 0
  pub nowhere : PartShows (flat_part N.Nowhere) 0 0 0
  pub in_stream : (place len : ℕ) → PartShows (flat_part (N.InStream place len)) 1 place len
  pub in_families : (place len : ℕ) → PartShows (flat_part (N.InFamilies place len)) 2 place len

-- A refusal of the reader tells C the default scheme, `d`, with four zeros as both colours (house).
abbrev pub RefusedColours : Type 0
RefusedColours = (s list : List ℕ) (rs : List Record) (es : List Entry) (r : Refusal) (rs' : List Record) (es' : List Entry)
    → ReadCall s list rs es (Err r) rs' es' → ((flat_reading (Err r)).glyph ≡ default_colour) × ((flat_reading (Err r)).fill ≡ default_colour)
