-- One turn of the rewriter, and a whole pass, with what it leaves in the buffer, in the code's own steps.
use Rattle.std.specs.Prelude.{ℕ, zero, suc, List, eqb, get_or, Result, Ok, Err, if◌then◌else◌}
use Rattle.rules.specs.declared.Refusal.{Refusal}
use Rattle.rules.specs.Bytes.{is, is_white}
use Rattle.scan_command.specs.declared.Command.{Command}
use Rattle.scan_command.specs.View.{command_at}
use Rattle.read_model.specs.declared.State.{State}
use Rattle.read_model.specs.Turns.{turn_on, turn_of, scratch_of}
use Rattle.respell_model.specs.declared.Mark.{Mark}
use Rattle.respell_model.specs.Sheet.{Sheet, put_all}
use Rattle.respell_model.specs.Command.{manner_of, pen_h, pen_v, spelled_at}

-- the buffer, with the place of the next byte
abbrev pub sheet_at : List ℕ → Mark → Sheet
sheet_at out m = record { bytes = out; at = m.at }

-- ---- a command, from the state st to the state next: nothing is written where it is refused

abbrev pub sheet_on : List ℕ → List ℕ → State → State → Command → List ℕ → Mark → Sheet
sheet_on s ws st next c out m =
    if eqb next.refusal 0
    then put_all (spelled_at s ws st.unitwidth st.env st.at next.env.h next.env.v m.h m.v c) (sheet_at out m)
    else sheet_at out m

abbrev pub mark_on : List ℕ → List ℕ → State → State → Command → List ℕ → Mark → Mark
mark_on s ws st next c out m = record {
  at = (sheet_on s ws st next c out m).at;
  h = if eqb next.refusal 0 then pen_h s ws st.unitwidth st.env next.env.h m.h (manner_of c) else m.h;
  v = if eqb next.refusal 0 then pen_v ws st.unitwidth st.env next.env.v m.v (manner_of c) else m.v;
}

-- ---- what was scanned: a command, or nothing

abbrev pub bytes_on : List ℕ → List ℕ → State → Result Command Refusal → List ℕ → Mark → List ℕ
bytes_on s ws st (Ok c) out m = (sheet_on s ws st (turn_on s ws st (Ok c)).state c out m).bytes
bytes_on s ws st (Err r) out m = out

abbrev pub mark_after : List ℕ → List ℕ → State → Result Command Refusal → List ℕ → Mark → Mark
mark_after s ws st (Ok c) out m = mark_on s ws st (turn_on s ws st (Ok c)).state c out m
mark_after s ws st (Err r) out m = m

-- ---- one turn: whitespace, a comment, or a command

unfoldable pub bytes_of : List ℕ → List ℕ → State → List ℕ → Mark → List ℕ
bytes_of s ws st out m =
    if is_white (get_or s st.at 0) then out else
    if is "#" (get_or s st.at 0) then out else
    bytes_on s ws st (command_at s st.at) out m

unfoldable pub mark_of : List ℕ → List ℕ → State → List ℕ → Mark → Mark
mark_of s ws st out m =
    if is_white (get_or s st.at 0) then m else
    if is "#" (get_or s st.at 0) then m else
    mark_after s ws st (command_at s st.at) out m

-- ---- a pass

-- where a pass stands, with the scratch row and the buffer
pub record RespellPass : Type 0 where
  pub state : State
  pub mark : Mark
  pub scratch : List ℕ
  pub bytes : List ℕ

abbrev pub respell_step_of : (List ℕ → ℕ) → List ℕ → RespellPass → RespellPass
respell_step_of find s p = record {
  state = (turn_of s p.scratch p.state).state;
  mark = mark_of s p.scratch p.state p.bytes p.mark;
  scratch = scratch_of find s p.scratch p.state;
  bytes = bytes_of s p.scratch p.state p.bytes p.mark;
}

-- at most f turns
unfoldable pub respell_pass_for : ℕ → (List ℕ → ℕ) → List ℕ → RespellPass → RespellPass
respell_pass_for zero find s p = p
respell_pass_for (suc f) find s p = let more = respell_pass_for f find s (respell_step_of find s p) in if eqb p.state.left 0 then p else more

-- each turn takes at least one byte
abbrev pub respell_pass_of : (List ℕ → ℕ) → List ℕ → RespellPass → RespellPass
respell_pass_of find s p = respell_pass_for p.state.left find s p
