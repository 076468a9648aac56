-- What a finding does around its passes and its search: the state in which a pass begins, where the search begins. In
-- the code's own steps.
use Rattle.std.specs.Prelude.{ℕ, ◌≤◌, List, ◌≡◌, eqb, Result, Ok, Err, if◌then◌else◌}
use Rattle.rules.specs.declared.Refusal.{Refusal}
use Rattle.rules.specs.Answers.{refusal}
use Rattle.read_model.specs.declared.State.{State}
use Rattle.read_setup.specs.Setup.{again_of, Started, AreBytes}
use Rattle.find_compare.specs.declared.Progress.{Progress}
use Rattle.find_compare.specs.Compare.{left_at}

-- ---- the state in which a pass begins

-- a state, or what refuses it
abbrev pub begun_of : State → Result State Refusal
begun_of a = if eqb a.refusal 0 then Ok a else Err (refusal a.refusal a.at)

-- the state in which the judging pass begins; or refusal 1 or 2
pub record Begun (s list : List ℕ) (x : Result State Refusal) (ws : List ℕ) : Type 0 where
  pub first : State
  pub started : Started s list first ws
  pub state : x ≡ begun_of first
  pub bytes : AreBytes s

-- the pass that fills the records, where the judging pass ended at b; or the refusal
abbrev pub find_next_of : State → ℕ → ℕ → Result State Refusal
find_next_of b n rmax = begun_of (again_of b n rmax b.entries 2)

-- ---- the search

-- how many records are searched: none in a refusal
abbrev pub searched : State → ℕ
searched d = if eqb d.refusal 0 then d.records else 0

-- where nothing is refused, there are no more records than a stream has bytes
abbrev pub FewRecords : State → Type 0
FewRecords d = d.refusal ≡ 0 → d.records ≤ 16777216

-- from the first of n records on, with m glyphs
abbrev pub fresh_of : ℕ → ℕ → ℕ → Progress
fresh_of n m hmax = record { left = left_at n 0 0; at = 0; glyph = 0; hits = 0; hmax = hmax; records = n; glyphs = m; page = 0 }

-- where the search begins, the last pass having ended at d, for m glyphs
abbrev pub progress_of : State → ℕ → ℕ → Progress
progress_of d m hmax = fresh_of (searched d) m hmax
