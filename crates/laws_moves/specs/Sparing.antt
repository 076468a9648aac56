-- "`H` and then `V` are written, each only where the place differs from that a reader of the spelling so far has": what that says of a
-- list of acts. No definition of the house spelling stands in it.
use Rattle.std.specs.Prelude.{ℕ, Bool, true, false, List, [], ◌∷◌, ◌≡◌, ltb, if◌then◌else◌}
use Rattle.rules.specs.Bytes.{origin}
use Rattle.rules.specs.Act.{Axis, across, down, Act, glyph, index, to, by, page, font, size, colour, break, space, draw, device, resolution, init, file, mount, plain, raw, stop}
use Rattle.rules.specs.State.{get, Env, Step, refused, went, act}

-- ---- what an act is to the place

pub data Kind : Type 0 where
  placed : Kind  -- a glyph, `N`, any `D`, `x X` or `x s`: the record, the entry or the end position tells where it stands
  mute : Kind  -- a negative `N`: it is placed too, but "no record, a gap"
  goes : Axis → ℕ → Kind  -- `H`, `V`
  shifts : Kind  -- `h`, `v`
  turns : Kind  -- `p`
  other : Kind

-- "a glyph, `N`, any `D`, `x X` or `x s`"
abbrev pub kind_of : Act → Kind
kind_of (glyph n) = placed
kind_of (index n) = if ltb n origin then mute else placed
kind_of (to x n) = goes x n
kind_of (by x n) = shifts
kind_of (page n) = turns
kind_of (font n) = other
kind_of (size n) = other
kind_of (colour c ns) = other
kind_of break = other
kind_of space = other
kind_of (draw s ns) = placed
kind_of (device n) = other
kind_of (resolution n h v) = other
kind_of init = other
kind_of (file n) = other
kind_of (mount n m) = other
kind_of (plain c ns) = other
kind_of (raw t) = placed
kind_of stop = placed

-- ---- what stands behind a motion

-- "Before a glyph, `N`, any `D`, `x X` or `x s`"
abbrev pub is_placed : Kind → Bool
is_placed placed = true
is_placed mute = true
is_placed (goes x n) = false
is_placed shifts = false
is_placed turns = false
is_placed other = false

abbrev pub placed_next : List Act → Bool
placed_next [] = false
placed_next (a ∷ zs) = is_placed (kind_of a)

-- "`H` and then `V`": behind `H` a `V` may stand, then what is placed
abbrev pub v_next : Kind → List Act → Bool
v_next (goes across n) zs = false
v_next (goes down n) zs = placed_next zs
v_next placed zs = true
v_next mute zs = true
v_next shifts zs = false
v_next turns zs = false
v_next other zs = false

abbrev pub behind : Axis → List Act → Bool
behind down zs = placed_next zs
behind across [] = false
behind across (a ∷ zs) = v_next (kind_of a) zs

-- ---- motions are spared

-- of an act, read in the environment d with the acts zs behind it: a motion goes where the reader is not, what is placed stands behind
-- it, and it is no `h` or `v`
abbrev pub Spared : Env → List Act → Kind → Type 0
Spared d zs (goes x n) = (get x d.spot ≡ n → ⊥) × (behind x zs ≡ true)
Spared d zs shifts = ⊥
Spared d zs placed = Unit {0}
Spared d zs mute = Unit {0}
Spared d zs turns = Unit {0}
Spared d zs other = Unit {0}

abbrev pub After : (Env → Type 0) → Step → Type 0
After P (refused n) = Unit {0}
After P (went e gs is) = P e

-- of every act, as far as they are read
unfoldable pub Sparing : Env → List Act → Type 0
Sparing d [] = Unit {0}
Sparing d (a ∷ zs) = Spared d zs (kind_of a) × After (λ e. Sparing e zs) (act d a)
