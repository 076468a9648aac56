-- What a rewriting does around its passes: where the writing begins, whether the spelling has room, the state in which the second
-- pass begins, the answer. In the code's own steps.
use Rattle.std.specs.Prelude.{ℕ, Bool, ◌||◌, ◌&&◌, List, ◌≡◌, ltb, eqb, Result, Ok, if◌then◌else◌}
use Rattle.rules.specs.declared.Refusal.{Refusal}
use Rattle.rules.specs.Bytes.{origin}
use Rattle.rules.specs.Answers.{stream_most, asked, and_then}
use Rattle.read_model.specs.declared.State.{State}
use Rattle.read_turn.specs.Ready.{find_in}
use Rattle.read_setup.specs.Setup.{refused_at, again_of, Started, AreBytes}
use Rattle.respell_model.specs.declared.Mark.{Mark}
use Rattle.respell_model.specs.declared.Writing.{Writing}
use Rattle.respell_model.specs.Passes.{RespellPass, respell_pass_of}

-- at the start of the buffer, and of the page
abbrev pub first_mark : Mark
first_mark = record { at = 0; h = origin; v = origin }

abbrev pub begin_at : State → Writing
begin_at st = record { state = st; mark = first_mark }

-- where a pass stands, with the scratch row and the buffer
abbrev pub pass_at : Writing → List ℕ → List ℕ → RespellPass
pass_at w ws o = record { state = w.state; mark = w.mark; scratch = ws; bytes = o }

-- the first pass has ended at w: it began as a reading does, with some buffer
pub record Measured (s list : List ℕ) (w : Writing) (ws : List ℕ) : Type 0 where
  pub first : State
  pub scratch : List ℕ
  pub started : Started s list first scratch
  pub bytes : AreBytes s
  pub buffer : List ℕ
  pub left : List ℕ
  pub runs : pass_at w ws left ≡ respell_pass_of (find_in list first.fonts scratch) s (pass_at (begin_at first) scratch buffer)

-- "spelling need more room than lent, or the spelling is over 16,777,216 bytes"
abbrev pub too_long : ℕ → ℕ → Bool
too_long len room = ltb stream_most len || ltb room len

-- 13 comes last
abbrev pub held_back : State → ℕ → ℕ → State
held_back a len room = if eqb a.refusal 0 && too_long len room then refused_at 13 0 else a

-- the pass that writes, where the one that measures ended at w; or the refusal. What was counted has room
abbrev pub next_of : Writing → ℕ → ℕ → State
next_of w n room = held_back (again_of w.state n w.state.records w.state.entries 0) w.mark.at room

-- the answer, where the last pass ended at w
abbrev pub respell_answer_of : Writing → Result ℕ Refusal
respell_answer_of w = and_then (asked (eqb w.state.refusal 0) w.state.refusal w.state.at) (λ x. Ok w.mark.at)
