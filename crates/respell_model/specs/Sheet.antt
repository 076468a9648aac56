-- Bytes written to a lent buffer, one after the other. In the code's own steps.
use Rattle.std.specs.Prelude.{ℕ, ◌+◌, ◌-◌, List, [], ◌∷◌, ltb, set, if◌then◌else◌}
use Rattle.rules.specs.Bytes.{origin}
use Rattle.rules.specs.House.{decimal}

-- the bytes of the buffer, and the place of the next byte
pub record Sheet : Type 0 where
  pub bytes : List ℕ
  pub at : ℕ

-- the next place; it is counted no further than one past the longest spelling
abbrev pub further : ℕ → ℕ
further at = if ltb at 16_777_217 then at + 1 else at

-- one byte; behind the buffer nothing is written, and the place is counted all the same
abbrev pub put : ℕ → Sheet → Sheet
put b p = record { bytes = set p.bytes p.at b; at = further p.at }

unfoldable pub put_all : List ℕ → Sheet → Sheet
put_all [] p = p
put_all (b ∷ t) p = put_all t (put b p)

-- ---- numbers

-- a number of more than eight digits, as 0
abbrev pub small : ℕ → ℕ
small n = if ltb n origin then n else 0

-- a number that is moved up
unfoldable pub signed_small : ℕ → List ℕ
signed_small n = if ltb n origin then 45 ∷ decimal (small (origin - n)) else decimal (small (n - origin))
