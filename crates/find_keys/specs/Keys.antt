-- The keys that the moves give, from a place on, and where a move may be made.
use Rattle.std.specs.Prelude.{ℕ, zero, suc, ◌+◌, ◌*◌, ◌-◌, ◌<◌, ◌≤◌, List, [], ◌∷◌, ltb, length, Option, Some, None, if◌then◌else◌}
use Rattle.find_match.specs.declared.Key.{Key}
use Rattle.find_outline.specs.declared.Word.{Word}
use Rattle.find_outline.specs.declared.Outline.{Outline}
use Rattle.find_outline.specs.declared.Moved.{Moved}
use Rattle.find_outline.specs.Move.{move_of}

-- the keys of the records, by at most f moves
abbrev pub keys_before : Option Key → List Key → List Key
keys_before (Some k) ks = k ∷ ks
keys_before None ks = ks

abbrev pub keys_on : Moved → List Key → List Key
keys_on m ks = keys_before m.key ks

unfoldable pub keys_for : ℕ → List ℕ → Outline → List Key
keys_for zero s o = []
keys_for (suc f) s o = let more = keys_on (move_of s o) (keys_for f s (move_of s o).on) in if ltb o.at (length s) then more else []

-- how many moves there are at most: each takes a byte, but that into a word
abbrev pub into_word : Option Word → ℕ
into_word (Some w) = 0
into_word None = 1

abbrev pub moves_left : List ℕ → Outline → ℕ
moves_left s o = 2 * (length s - o.at) + into_word o.word

abbrev pub keys_at : List ℕ → Outline → List Key
keys_at s o = keys_for (moves_left s o) s o

-- a place in a word, in a stream of n bytes
abbrev pub WordIn : ℕ → ℕ → Option Word → Type 0
WordIn n at (Some w) = (at < w.end) × (w.end ≤ w.next) × (w.next ≤ n)
WordIn n at None = Unit {0}

-- an outline in such a stream
pub record Fair (n : ℕ) (o : Outline) : Type 0 where
  pub within : o.at ≤ n
  pub most : n ≤ 16777216
  pub pages : o.ordinal ≤ o.at
  pub word : WordIn n o.at o.word
