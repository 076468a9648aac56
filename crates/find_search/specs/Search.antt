-- The search over the records, one comparison a turn, in the code's own steps.
use Rattle.std.specs.Prelude.{ℕ, zero, suc, ◌+◌, ◌<◌, ◌≤◌, List, ◌≡◌, eqb, pos, length, get_or, set, Option, Some, None, if◌then◌else◌}
use Rattle.rules.specs.declared.Record.{Record}
use Rattle.find_match.specs.declared.Question.{Question}
use Rattle.find_compare.specs.declared.Progress.{Progress}
use Rattle.find_compare.specs.declared.Fed.{Fed}
use Rattle.find_compare.specs.Compare.{feed_of, SearchGood}
pub use Rattle.find_search.specs.Ready.{SearchReady}

abbrev pub blank : Record
blank = record { ordinal = 0; page = pos 0; h = pos 0; v = pos 0; font = 0; size = 0; place = 0; len = 0; index = 0; gap = 0 }

-- a hit, if there is one, behind so many
abbrev pub hits_after : List ℕ → ℕ → Option ℕ → List ℕ
hits_after hits k (Some i) = set hits k i
hits_after hits k None = hits

pub record Looked : Type 0 where
  pub state : Progress
  pub hits : List ℕ

abbrev pub looked_at : List ℕ → Question → List Record → Looked → Fed
looked_at s w recs p = feed_of s w p.state (get_or recs (p.state.at + p.state.glyph) blank)

abbrev pub search_step_of : List ℕ → Question → List Record → Looked → Looked
search_step_of s w recs p = record { state = (looked_at s w recs p).state; hits = hits_after p.hits p.state.hits (looked_at s w recs p).hit }

unfoldable pub search_for : ℕ → List ℕ → Question → List Record → Looked → Looked
search_for zero s w recs p = p
search_for (suc f) s w recs p = let more = search_for f s w recs (search_step_of s w recs p) in if eqb p.state.left 0 then p else more

abbrev pub search_of : List ℕ → Question → List Record → Looked → Looked
search_of s w recs p = search_for p.state.left s w recs p

-- a search over rows of n records and h hits; of the glyphs nothing is asked where nothing is left to search
pub record SearchReadyOrDone (n h : ℕ) (w : Question) (st : Progress) : Type 0 where
  pub glyphs : 0 < st.left → st.glyphs ≤ length w.glyphs.now
  pub good : 0 < st.left → SearchGood st
  pub records : st.records ≤ n
  pub hits : st.hmax ≡ h
