-- What a reading does around its passes: the state in which a pass begins, and the answer. In the code's own steps.
use Rattle.std.specs.Prelude.{ℕ, ◌<◌, Bool, true, false, ◌||◌, List, [], ◌∷◌, ◌≡◌, ltb, eqb, length, get_or, Result, Ok, Err, if◌then◌else◌}
use Rattle.rules.specs.declared.Colour.{Colour}
use Rattle.rules.specs.declared.Reading.{Reading}
use Rattle.rules.specs.declared.Refusal.{Refusal}
use Rattle.rules.specs.Bytes.{origin}
use Rattle.rules.specs.Record.{shown, colour_of}
use Rattle.rules.specs.Widths.{WidthList, unsound, sound, width_list}
use Rattle.rules.specs.Answers.{stream_most, is_over, refusal}
use Rattle.read_model.specs.declared.Environment.{Environment}
use Rattle.read_model.specs.declared.State.{State}
use Rattle.read_model.specs.Environment.{paint_of}
use Rattle.read_turn.specs.Ready.{Scratch}
pub use Rattle.read_scratch.specs.Scratch.{ScratchOf, Unmounted}

-- ---- the state in which a pass begins

abbrev pub no_colour : Colour
no_colour = record { scheme = 100; parts = 0 ∷ 0 ∷ 0 ∷ 0 ∷ [] }

abbrev pub start_env : Environment
start_env = record { phase = 0; quantum = 1; ordinal = 0; number = origin; h = origin; v = origin; font = 0; size = 0; gap = 0; ink = no_colour; paint = no_colour }

-- at the first of n bytes
abbrev pub begin_of : ℕ → ℕ → ℕ → ℕ → ℕ → ℕ → State
begin_of n rmax emax fonts unit fill = record { left = n; at = 0; records = 0; rmax = rmax; entries = 0; emax = emax; fonts = fonts; refusal = 0; fill = fill; unitwidth = unit; env = start_env }

-- refused before a pass begins: it does not go on
abbrev pub refused_at : ℕ → ℕ → State
refused_at number offset = record { left = 0; at = offset; records = 0; rmax = 0; entries = 0; emax = 0; fonts = 0; refusal = number; fill = 0; unitwidth = 1; env = start_env }

-- the judging pass, with room for any stream of n bytes; or refusal 2
abbrev pub StartedWith : ℕ → List ℕ → State → List ℕ → WidthList → Type 0
StartedWith n list st ws (unsound at) = (st ≡ refused_at 2 at) × Scratch ws
StartedWith n list st ws (sound w) = (st ≡ begin_of n n n (length w.fonts) w.unitwidth 0) × ScratchOf list w.fonts ws

abbrev pub StartedOr : Bool → List ℕ → List ℕ → State → List ℕ → Type 0
StartedOr true s list st ws = (st ≡ refused_at 1 0) × Scratch ws
StartedOr false s list st ws = StartedWith (length s) list st ws (width_list list)

-- "Order: 1, 2, 12, then the stream"
abbrev pub Started : List ℕ → List ℕ → State → List ℕ → Type 0
Started s list st ws = StartedOr (is_over stream_most s || is_over 65_536 list) s list st ws

-- the filling pass, where the judging pass ended at a and the rooms are large enough; or the refusal: a's own, 11, or 13 last
abbrev pub again_of : State → ℕ → ℕ → ℕ → ℕ → State
again_of a n rmax emax fill =
    if eqb a.refusal 0 then (
    if eqb a.env.phase 4 then (
    if ltb rmax a.records || ltb emax a.entries then refused_at 13 0 else begin_of n rmax emax a.fonts a.unitwidth fill)
    else refused_at 11 a.at)
    else refused_at a.refusal a.at

-- ---- the answer

abbrev pub read_answer_of : State → Result Reading Refusal
read_answer_of st =
    if eqb st.refusal 0
    then Ok (record {
      records = st.records;
      entries = st.entries;
      pages = st.env.ordinal;
      h = shown st.env.h;
      v = shown st.env.v;
      glyph = colour_of (paint_of st.env.ink);
      fill = colour_of (paint_of st.env.paint);
    })
    else Err (refusal st.refusal st.at)

-- ---- bytes

pub record AreBytes (s : List ℕ) : Type 0 where
  pub each : (i : ℕ) → get_or s i 0 < 256
