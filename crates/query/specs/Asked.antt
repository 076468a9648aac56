-- The query as the code holds it: its answer, and its glyph lines by number.
use Rattle.std.specs.Prelude.{ℕ, ◌+◌, ◌<◌, ◌≤◌, List, ◌≡◌, length, get_or, Result, Ok, Err}
use Rattle.rules.specs.declared.Refusal.{Refusal}
use Rattle.rules.specs.Answers.{refusal}
use Rattle.rules.specs.Find.{Query, ill_formed, well_formed, Wanted as RulesWanted}
use Rattle.laws_find.specs.Occurs.{wanted_at}
use Rattle.name.specs.Part.{part_of}
use Rattle.query_line.specs.Kinds.{gap_asked}
use Rattle.query_line.specs.declared.Gap.TheVariants.{Either}
use Rattle.query.specs.declared.Wanted.{Wanted}

-- refusal 12 with its offset, or how many glyphs are asked for
abbrev pub query_of : Query → Result ℕ Refusal
query_of (ill_formed at) = Err (refusal 12 at)
query_of (well_formed qs) = Ok (length qs)

-- a glyph line by its number, and what stands where there is none
abbrev pub no_glyph : Wanted
no_glyph = record { place = 0; len = 0; gap = Either }

abbrev pub glyph_at : List Wanted → ℕ → Wanted
glyph_at glyphs j = get_or glyphs j no_glyph

-- the row holds the glyph lines: of each its name's place and length in the query, and what it asks of the gap mark
pub record LinesIn (q : List ℕ) (qs : List RulesWanted) (glyphs : List Wanted) : Type 0 where
  pub inside : (j : ℕ) → j < length qs → (glyph_at glyphs j).place + (glyph_at glyphs j).len ≤ length q
  pub name : (j : ℕ) → j < length qs → part_of q (glyph_at glyphs j).place (glyph_at glyphs j).len ≡ (wanted_at qs j).name
  pub gap : (j : ℕ) → j < length qs → gap_asked (glyph_at glyphs j).gap ≡ (wanted_at qs j).gap

abbrev pub LinesOf : List ℕ → List Wanted → Query → Type 0
LinesOf q glyphs (ill_formed at) = Unit {0}
LinesOf q glyphs (well_formed qs) = LinesIn q qs glyphs
