-- The query line by line, as the code goes over it.
use Rattle.std.specs.Prelude.{ℕ, ◌≤◌, ◌<◌, List, [], ◌∷◌, ◌≡◌, length, drop, Result, Ok, Err}
use Rattle.rules.specs.declared.Refusal.{Refusal}
use Rattle.rules.specs.Answers.{refusal}
use Rattle.rules.specs.Widths.{lines_from}
use Rattle.rules.specs.Find.{Expected, first_glyph, gap_glyph, either, Wanted as RulesWanted, Query, ill_formed, with_wanted, query_lines, query}
use Rattle.query_line.specs.Kinds.{expected_of}
use Rattle.query.specs.Asked.{LinesIn}
use Rattle.query.specs.declared.Wanted.{Wanted}
use Rattle.query.specs.declared.QueryState.{QueryState}

-- what the end of the query says, n being the number of its glyphs
abbrev pub end_of : ℕ → Expected → Result ℕ Refusal
end_of n first_glyph = Err (refusal 12 0)
end_of n (gap_glyph at) = Err (refusal 12 at)
end_of n either = Ok n

-- glyphs that were read, put before what the lines behind them say
unfoldable pub glyphs_before : List RulesWanted → Query → Query
glyphs_before [] r = r
glyphs_before (w ∷ ws) r = with_wanted w.gap w.name (glyphs_before ws r)

-- Between two lines: what the lines still to come say, put behind the glyphs read so far, is what the whole query says, and the row
-- holds those glyphs.
pub record Going (q : List ℕ) (st : QueryState) (glyphs : List Wanted) : Type 0 where
  pub asked : List RulesWanted
  pub rest : query q ≡ glyphs_before asked (query_lines st.glyphs (expected_of st.due) (lines_from st.at (drop st.at q)))
  pub count : length asked ≡ st.glyphs
  pub held : LinesIn q asked glyphs
  pub short : length q ≤ 8192
  pub room : length glyphs ≡ 64

-- the next state, or the line at the state's place is the first wrong one
abbrev pub LineTurned : List ℕ → QueryState → Result QueryState Refusal → List Wanted → Type 0
LineTurned q st (Ok u) glyphs = Going q u glyphs × (st.at < u.at)
LineTurned q st (Err r) glyphs = (query q ≡ ill_formed st.at) × (r ≡ refusal 12 st.at)
