-- A word that fits into a lent row.
use Rattle.std.specs.Prelude.{ℕ, ◌+◌, ◌≤◌, List, IsSome}
use Rattle.read_model.specs.declared.Word.{Word}
use Rattle.read_model.specs.Words.{word_end}
use Rattle.read_word.specs.Bounds.{Small, WordFits}

-- a word whose records go to a row of n from k on
pub record WordIn (s ws : List ℕ) (n k : ℕ) (w : Word) : Type 0 where
  pub fits : WordFits w
  pub small : Small ws
  pub ends : IsSome (word_end w.left s ws w)
  pub room : k + w.left ≤ n
