-- One turn of a pass, and a whole pass, in the code's own steps.
use Rattle.std.specs.Prelude.{ℕ, ◌+◌, ◌-◌, Bool, List, ltb, eqb, length, take, drop, get_or, set, Result, Ok, Err, if◌then◌else◌}
use Rattle.rules.specs.Bytes.{is, is_white, one_line}
use Rattle.rules.specs.declared.Refusal.{Refusal}
use Rattle.rules.specs.Answers.{refusal}
use Rattle.scan_command.specs.declared.Command.{Command}
use Rattle.scan_command.specs.declared.Command.TheVariants as C
use Rattle.scan_command.specs.View.{command_at}
use Rattle.read_model.specs.declared.Environment.{Environment}
use Rattle.read_model.specs.declared.Emitted.{Emitted}
use Rattle.read_model.specs.declared.Emitted.TheVariants as E
use Rattle.read_model.specs.declared.Did.{Did}
use Rattle.read_model.specs.declared.State.{State}
use Rattle.read_model.specs.declared.Effect.{Effect}
use Rattle.read_model.specs.declared.Effect.TheVariants as F
use Rattle.read_model.specs.declared.Turned.{Turned}
use Rattle.read_model.specs.Environment.{refusing, in_body, did_of}
use Rattle.read_model.specs.Words.{word_on}

-- ---- The scratch row: first the mounts, at each of the 256 positions 0 for none, else the number of the font's block; then the
-- blocks of widths, 256 places each. The block of the font of a slot has the number slot + 1.

abbrev pub mount_at : List ℕ → ℕ → ℕ
mount_at ws n = get_or ws n 0

-- what the mounts hold at the position of an `f`
abbrev pub asked_mount : List ℕ → Command → ℕ
asked_mount ws (C.Font n e) = mount_at ws n
asked_mount ws _ = 0

-- the block of the font now mounted at the current position
abbrev pub block_now : List ℕ → Environment → ℕ
block_now ws e = mount_at ws (e.font - 1)

-- what is done for a word; no other command asks for it
abbrev pub word_asked : List ℕ → List ℕ → ℕ → Environment → ℕ → Command → Result Did Refusal
word_asked s ws u e at (C.Word t p q n) = word_on s ws e at u t (q - p) p (block_now ws e)
word_asked s ws u e at _ = refusing 7 at

-- one command at a place
abbrev pub did_at : List ℕ → List ℕ → ℕ → Environment → ℕ → Command → Result Did Refusal
did_at s ws u e at c = did_of e at (asked_mount ws c) (word_asked s ws u e at c) c

-- the place behind a command
abbrev pub next_of : Command → ℕ
next_of (C.Glyph p l n) = n
next_of (C.Index i n) = n
next_of (C.Word t p q n) = n
next_of (C.Pair i p n) = n
next_of (C.To x i n) = n
next_of (C.By x i n) = n
next_of (C.Page i n) = n
next_of (C.Font i n) = n
next_of (C.Size i n) = n
next_of (C.Colour x a b c d n) = n
next_of (C.Break n) = n
next_of (C.Space n) = n
next_of (C.Draw b h v k n) = n
next_of (C.Gray i n) = n
next_of (C.Fill x a b c d n) = n
next_of (C.Device p l n) = n
next_of (C.Resolution q n) = n
next_of (C.Init n) = n
next_of (C.File p l n) = n
next_of (C.Mount i p l n) = n
next_of (C.Plain b n) = n
next_of (C.Raw n) = n
next_of (C.Stop n) = n

-- the scratch row behind a command: `x f` in the body mounts the font whose slot `find` gives for the name
abbrev pub scratch_after : (List ℕ → ℕ) → List ℕ → List ℕ → Environment → Command → List ℕ
scratch_after find s ws e (C.Mount i p l n) = if in_body e then set ws i (find (take l (drop p s)) + 1) else ws
scratch_after find s ws e _ = ws

-- and behind what was scanned
abbrev pub scratch_on : (List ℕ → ℕ) → List ℕ → List ℕ → Environment → Result Command Refusal → List ℕ
scratch_on find s ws e (Ok c) = scratch_after find s ws e c
scratch_on find s ws e (Err r) = ws

-- ---- the state

-- stopped with the refusal k, which points at a place
abbrev pub halted_at : ℕ → State → ℕ → Turned
halted_at p st k = record { effect = F.Nothing; state = record { left = 0; at = p; records = st.records; rmax = st.rmax; entries = st.entries; emax = st.emax; fonts = st.fonts; refusal = k; fill = st.fill; unitwidth = st.unitwidth; env = st.env } }

-- the refusal points at the command itself
abbrev pub halted : State → ℕ → Turned
halted st k = halted_at st.at st k

-- on to the place next of a stream of n bytes, with the numbers of records and entries, and the environment
abbrev pub gone_to : ℕ → State → ℕ → ℕ → ℕ → Environment → State
gone_to n st next r x e = record { left = n - next; at = next; records = r; rmax = st.rmax; entries = x; emax = st.emax; fonts = st.fonts; refusal = st.refusal; fill = st.fill; unitwidth = st.unitwidth; env = e }

-- only where the row is filled: `fill` is 0 where a pass judges, 1 where it fills both rows, 2 where it fills the records alone
abbrev pub fills_records : ℕ → Bool
fills_records fill = ltb 0 fill

abbrev pub fills_entries : ℕ → Bool
fills_entries fill = eqb fill 1

abbrev pub filling : Bool → Effect → Effect
filling b f = if b then f else F.Nothing

abbrev pub emitted : ℕ → State → ℕ → Environment → Emitted → Turned
emitted n st next e E.Nothing = record { effect = F.Nothing; state = gone_to n st next st.records st.entries e }
emitted n st next e (E.Record r) =
    if ltb st.records st.rmax then record { effect = filling (fills_records st.fill) (F.Record st.records r); state = gone_to n st next (st.records + 1) st.entries e } else halted st 13
emitted n st next e (E.Entry x) =
    if ltb st.entries st.emax then record { effect = filling (fills_entries st.fill) (F.Entry st.entries x); state = gone_to n st next st.records (st.entries + 1) e } else halted st 13
emitted n st next e (E.Word w) =
    if ltb (st.rmax - st.records) w.left then halted st 13 else record { effect = filling (fills_records st.fill) (F.Word st.records w); state = gone_to n st next (st.records + w.left) st.entries e }

-- stopped by a refusal
abbrev pub halted_by : State → Refusal → Turned
halted_by st r = halted_at r.offset st r.number

abbrev pub done_of : ℕ → State → ℕ → Result Did Refusal → Turned
done_of n st next (Ok d) = emitted n st next d.env d.emitted
done_of n st next (Err r) = halted_by st r

abbrev pub skipped : ℕ → State → ℕ → Turned
skipped n st next = record { effect = F.Nothing; state = gone_to n st next st.records st.entries st.env }

-- a command that no rule reads: behind `x s` "a byte of anything" is 7, at its place
abbrev pub late : Environment → ℕ → Refusal → Refusal
late e at r = if eqb e.phase 4 then refusal 7 at else r

-- what was scanned at the state's place
abbrev pub turn_on : List ℕ → List ℕ → State → Result Command Refusal → Turned
turn_on s ws st (Ok c) = done_of (length s) st (next_of c) (did_at s ws st.unitwidth st.env st.at c)
turn_on s ws st (Err r) = halted_by st (late st.env st.at r)

unfoldable pub turn_of : List ℕ → List ℕ → State → Turned
turn_of s ws st =
    if is_white (get_or s st.at 0) then skipped (length s) st (st.at + 1) else
    if is "#" (get_or s st.at 0) then skipped (length s) st (st.at + 1 + one_line (drop (st.at + 1) s)) else
    turn_on s ws st (command_at s st.at)

unfoldable pub scratch_of : (List ℕ → ℕ) → List ℕ → List ℕ → State → List ℕ
scratch_of find s ws st =
    if is_white (get_or s st.at 0) then ws else
    if is "#" (get_or s st.at 0) then ws else
    scratch_on find s ws st.env (command_at s st.at)
