-- Document 01, "Finding": the text of a query, as a function of its glyphs.
use Rattle.std.specs.Prelude.{ℕ, ◌≤◌, List, [], ◌∷◌, ◌++◌, ◌⊎◌, ◌≡◌, length}
use Rattle.rules.specs.Bytes.{bytes}
use Rattle.rules.specs.Find.{Gap, any_gap, no_gap, some_gap, Wanted}
use Rattle.laws.specs.Barred.{NoBarred}
use Rattle.laws_find.specs.Occurs.{QueryShape}

-- "lines `glyph=NAME` and `gap=any`, each ended by a newline"
abbrev pub glyph_line : List ℕ → List ℕ
glyph_line name = bytes "glyph=" ++ (name ++ bytes "\n")

abbrev pub gap_line : List ℕ
gap_line = bytes "gap=any\n"

-- what precedes the line of a glyph: a gap line where its gap mark is to be set
abbrev pub gap_before : Gap → List ℕ
gap_before any_gap = []
gap_before no_gap = []
gap_before some_gap = gap_line

-- the text that asks for these glyphs
unfoldable pub written : List Wanted → List ℕ
written [] = []
written (q ∷ qs) = gap_before q.gap ++ (glyph_line q.name ++ written qs)

-- "Space, tab and newline are whitespace."
abbrev pub White : ℕ → Type 0
White b = (b ≡ 32) ⊎ ((b ≡ 9) ⊎ (b ≡ 10))

-- "NAME is a string of 1 to 64 bytes"; "A string is one or more non-whitespace bytes"; by 2026-06 none of them is barred
abbrev pub NoWhite : List ℕ → Type 0
NoWhite [] = Unit {0}
NoWhite (b ∷ n) = (White b → ⊥) × NoWhite n

pub record GoodName (n : List ℕ) : Type 0 where
  pub some : 1 ≤ length n
  pub few : length n ≤ 64
  pub no_white : NoWhite n
  pub no_barred : NoBarred n

abbrev pub GoodNames : List Wanted → Type 0
GoodNames [] = Unit {0}
GoodNames (q ∷ qs) = GoodName q.name × GoodNames qs

-- "1 to 64 glyph lines, first and last line a glyph, never two gaps together": nothing is asked of the first glyph's gap mark, of
-- each other one's that it is set or that it is not
pub record GoodQuery (qs : List Wanted) : Type 0 where
  pub some : 1 ≤ length qs
  pub few : length qs ≤ 64
  pub names : GoodNames qs
  pub gaps : QueryShape qs
