-- One line of the family list, as the code sees it.
use Rattle.std.specs.Prelude.{ℕ, ◌+◌, ◌*◌, ◌%◌, Bool, false, ◌&&◌, ◌||◌, List, [], ◌∷◌, Option, Some, None, ltb, eqb}
use Rattle.std.proofs.Math.Option as M
use Rattle.rules.specs.Bytes.{bytes}
use Rattle.rules.specs.Widths.{behind}
use Rattle.families_line.specs.declared.Key.{Key}
use Rattle.families_line.specs.declared.Key.TheVariants.{Name, Same}

-- the key of a line, by what stands behind `name=` and behind `same=`
abbrev pub key_by : M.Option (List ℕ) → M.Option (List ℕ) → Option Key
key_by (M.some n) o = Some Name
key_by M.none (M.some n) = Some Same
key_by M.none M.none = None

abbrev pub key_of : List ℕ → Option Key
key_of t = key_by (behind (bytes "name=") t) (behind (bytes "same=") t)

-- a line with a key may stand behind so many families, the newest of which has so many names; one without a key stands nowhere
abbrev pub may_stand : Option Key → ℕ → ℕ → Bool
may_stand (Some Name) families size = (eqb families 0 || ltb 1 size) && ltb families 256
may_stand (Some Same) families size = ltb 0 families && ltb size 8
may_stand None families size = false

-- equal names have equal marks
unfoldable pub mark_from : ℕ → List ℕ → ℕ
mark_from n [] = n
mark_from n (b ∷ r) = mark_from ((n * 31 + b) % 16384) r

abbrev pub mark_of : List ℕ → ℕ
mark_of n = mark_from 0 n
