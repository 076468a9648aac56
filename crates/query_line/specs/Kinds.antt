-- What one line of the query is, as the code tells.
use Rattle.std.specs.Prelude.{ℕ, ◌&&◌, List, Option, Some, None, if◌then◌else◌}
use Rattle.std.proofs.Math.Option as M
use Rattle.rules.specs.Bytes.{bytes, same}
use Rattle.rules.specs.Widths.{behind}
use Rattle.rules.specs.Find.{Gap as RulesGap, any_gap, no_gap, some_gap, Expected, first_glyph, gap_glyph, either, may_part, may_ask}
use Rattle.query_line.specs.declared.Gap.{Gap}
use Rattle.query_line.specs.declared.Gap.TheVariants as G
use Rattle.query_line.specs.declared.Due.{Due}
use Rattle.query_line.specs.declared.Due.TheVariants as D
use Rattle.query_line.specs.declared.Kind.{Kind}
use Rattle.query_line.specs.declared.Kind.TheVariants.{Glyph, Gap as GapLine}

-- the rules' words for what the code holds
abbrev pub gap_asked : Gap → RulesGap
gap_asked G.Either = any_gap
gap_asked G.Absent = no_gap
gap_asked G.Present = some_gap

abbrev pub expected_of : Due → Expected
expected_of D.First = first_glyph
expected_of (D.Glyph at) = gap_glyph at
expected_of D.Either = either

-- a line with the key `glyph=`, n glyph lines being before it; another line; any line; none where it is wrong
abbrev pub glyph_kind : ℕ → List ℕ → Option Kind
glyph_kind n name = if may_ask n name then Some Glyph else None

abbrev pub gap_kind : Expected → List ℕ → Option Kind
gap_kind x t = if may_part x && same t (bytes "gap=any") then Some GapLine else None

abbrev pub kind_by : ℕ → Expected → List ℕ → M.Option (List ℕ) → Option Kind
kind_by n x t (M.some name) = glyph_kind n name
kind_by n x t M.none = gap_kind x t

abbrev pub kind_of : ℕ → Expected → List ℕ → Option Kind
kind_of n x t = kind_by n x t (behind (bytes "glyph=") t)
