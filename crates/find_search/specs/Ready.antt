-- What a search that is ready has: all its glyphs, whether or not anything is left to search. In a file of its own, since an
-- edit of `Search` names a line that both records have.
use Rattle.std.specs.Prelude.{ℕ, ◌<◌, ◌≤◌, ◌≡◌, length}
use Rattle.find_match.specs.declared.Question.{Question}
use Rattle.find_compare.specs.declared.Progress.{Progress}
use Rattle.find_compare.specs.Compare.{SearchGood}

-- a search over rows of n records and h hits
pub record SearchReady (n h : ℕ) (w : Question) (st : Progress) : Type 0 where
  pub glyphs : st.glyphs ≤ length w.glyphs.now
  pub good : 0 < st.left → SearchGood st
  pub records : st.records ≤ n
  pub hits : st.hmax ≡ h
