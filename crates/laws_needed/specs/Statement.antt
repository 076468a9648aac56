-- "Before a glyph, `N`, any `D`, `x X` or `x s`, `H` and then `V` are written, each only where the place differs from that a reader of
-- the spelling so far has": so leaving out any such line changes what is read.
use Rattle.std.specs.Prelude.{ℕ, Bool, true, false, List, [], ◌∷◌, ◌++◌, map, ◌⊎◌, ◌≡◌}
use Rattle.rules.specs.Act.{Axis, across, down, Act, to, by, just}
use Rattle.rules.specs.State.{get, Env, start, Glyph, Item, went, run}
use Rattle.rules.specs.House.{spell_act, spell_all}
use Rattle.rules.specs.Answers.{read, spelled, respell}
use Rattle.laws_moves.specs.Sparing.{Kind, placed, mute, goes, shifts, turns, other, kind_of, behind}
use Rattle.laws_answers.specs.Statements.{SameReading, cmds_of}

-- ---- whether the place behind a line is told before it is lost

-- On one axis: a glyph, an `N` that is not negative, any `D`, `x X` or `x s` tells it; by a motion on that axis, and for v by a `p`, it is
-- lost; every other line is passed by, a negative `N` too: "no record, a gap".
abbrev pub across_only : Axis → Type 0 → Type 0
across_only across rest = rest
across_only down rest = ⊥

abbrev pub other_axis : Axis → Axis → Type 0 → Type 0
other_axis across across rest = ⊥
other_axis across down rest = rest
other_axis down across rest = rest
other_axis down down rest = ⊥

abbrev pub PlaceToldBy : Axis → Kind → Type 0 → Type 0
PlaceToldBy x placed rest = Unit {0}
PlaceToldBy x mute rest = rest
PlaceToldBy x (goes y n) rest = other_axis x y rest
PlaceToldBy x shifts rest = ⊥
PlaceToldBy x turns rest = across_only x rest
PlaceToldBy x other rest = rest

unfoldable pub PlaceTold : Axis → List Act → Type 0
PlaceTold x [] = ⊥
PlaceTold x (a ∷ ys) = PlaceToldBy x (kind_of a) (PlaceTold x ys)

-- what is placed next is a negative `N`
abbrev pub mute_by : Kind → Bool → Bool
mute_by placed rest = false
mute_by mute rest = true
mute_by (goes x n) rest = rest
mute_by shifts rest = false
mute_by turns rest = false
mute_by other rest = false

unfoldable pub mute_next : List Act → Bool
mute_next [] = false
mute_next (a ∷ ys) = mute_by (kind_of a) (mute_next ys)

-- ---- one line `H` n or `V` n of a spelling t, the acts xs before it and ys behind it

pub record OnlyWhereItDiffers (list t : List ℕ) (xs : List Act) (x : Axis) (n : ℕ) (ys : List Act) : Type 0 where
  -- "each only where the place differs from that a reader of the spelling so far has"
  pub reader : Env
  pub glyphs : List Glyph
  pub items : List Item
  pub so_far : run start xs ≡ went reader glyphs items
  pub differs : get x reader.spot ≡ n → ⊥
  -- "Before a glyph, `N`, any `D`, `x X` or `x s`, `H` and then `V`": never before anything else, and never at the end
  pub before_placed : behind x ys ≡ true
  -- the line in the text
  pub line : t ≡ spell_all xs ++ (spell_act (to x n) ++ 10 ∷ spell_all ys)
  -- where the place is told, the text without the line is not read as the spelling is: it is refused, or a record, an entry or the end
  -- position differs; where it is not told, nothing differs
  pub needed : PlaceTold x ys → SameReading (read (spell_all xs ++ spell_all ys) list) (read t list) → ⊥
  pub told_or_same : PlaceTold x ys ⊎ SameReading (read (spell_all xs ++ spell_all ys) list) (read t list)
  -- what is placed next tells it, unless that is a negative `N`, which has neither record nor entry
  pub told : mute_next ys ≡ false → PlaceTold x ys

pub record MotionsNeeded : Type 0 where
  -- a spelling has single acts alone
  pub single : (s list t : List ℕ) → respell s list ≡ spelled t → (zs : List Act) × (cmds_of t ≡ map just zs)
  -- each `H` and `V`
  pub each : (s list t : List ℕ) → respell s list ≡ spelled t → (xs : List Act) (x : Axis) (n : ℕ) (ys : List Act) → cmds_of t ≡ map just (xs ++ to x n ∷ ys)
      → OnlyWhereItDiffers list t xs x n ys
  -- and no other motion stands among them
  pub no_other : (s list t : List ℕ) → respell s list ≡ spelled t → (xs : List Act) (x : Axis) (n : ℕ) (ys : List Act) → cmds_of t ≡ map just (xs ++ by x n ∷ ys) → ⊥
