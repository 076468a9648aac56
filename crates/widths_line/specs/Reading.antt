-- What the code holds while it goes over the lines of a width list, and how that stands for what the rules hold.
use Rattle.std.specs.Prelude.{ℕ, ◌+◌, ◌≤◌, ◌<◌, Bool, ◌&&◌, List, [], ◌∷◌, ◌≡◌, leb, ltb, eqb, length, if◌then◌else◌, Option, None, Some, Result, Ok, Err}
use Rattle.std.proofs.Math.Option as O
use Rattle.rules.specs.declared.Refusal.{Refusal}
use Rattle.rules.specs.Answers.{refusal}
use Rattle.rules.specs.Bytes.{bytes, is_digit, span, value}
use Rattle.rules.specs.Widths.{Width, Font, Widths, Due, unit_due, block_due, width_due, LineRead, wrong_line, right_line, behind, numbered, is_byte, unit_line, byte_line, width_line}
use Rattle.widths_table.specs.declared.Block.{Block}
use Rattle.widths_table.specs.Blocks.{BlocksOf}
use Rattle.widths_line.specs.declared.Due as Code
use Rattle.widths_line.specs.declared.Due.TheVariants as D
use Rattle.widths_line.specs.declared.State.{State}

-- ---- numbers: none of a list may be above 100000

abbrev pub listed : O.Option ℕ → Option ℕ
listed O.none = None
listed (O.some n) = if leb n 100000 then Some n else None

-- the number of a text of digits alone
abbrev pub digit_number : List ℕ → O.Option ℕ
digit_number t = if eqb (span is_digit t) (length t) then O.some (value 0 t) else O.none

-- ---- the state, at a place

abbrev pub due_of : Due → Code.Due
due_of unit_due = D.Unitwidth
due_of block_due = D.Block
due_of (width_due b) = D.Width b

-- the least byte that may stand next
abbrev pub low_in : List Width → ℕ
low_in [] = 0
low_in (p ∷ ps) = p.byte + 1

abbrev pub low_of : List Font → ℕ
low_of [] = 0
low_of (f ∷ fs) = low_in f.widths

abbrev pub can_follow : ℕ → ℕ → ℕ → Bool
can_follow b fonts low = ltb 0 fonts && (is_byte b && leb low b)

abbrev pub state_of : Widths → Due → ℕ → State
state_of w d at = record { due = due_of d; unitwidth = w.unitwidth; fonts = length w.fonts; low = low_of w.fonts; at = at }

-- behind a line at a place: it was wrong, or the state that the rules reach, at the next line
abbrev pub reached : ℕ → ℕ → LineRead → Result State Refusal
reached at next wrong_line = Err (refusal 2 at)
reached at next (right_line d w) = Ok (state_of w d next)

-- ---- the table

-- a width is due in a block only
abbrev pub Ready : Due → List Font → Type 0
Ready unit_due fs = Unit {0}
Ready block_due fs = Unit {0}
Ready (width_due b) fs = (b < 256) × (0 < length fs)

-- the table holds what the rules have reached
pub record Stands (list : List ℕ) (table : List Block) (w : Widths) (d : Due) : Type 0 where
  pub few : length w.fonts ≤ 32
  pub ready : Ready d w.fonts
  pub blocks : BlocksOf list w.fonts table

abbrev pub StandsBehind : List ℕ → List Block → LineRead → Type 0
StandsBehind list table wrong_line = Unit {0}
StandsBehind list table (right_line d w) = Stands list table w d

-- in front of a line: the state and the table are what the rules have reached
abbrev pub Holds : List ℕ → List Block → Widths → Due → State → Type 0
Holds list table w d st = (st ≡ state_of w d st.at) × Stands list table w d

-- behind it
abbrev pub After : List ℕ → List Block → ℕ → ℕ → Result State Refusal → LineRead → Type 0
After list table at next r x = (r ≡ reached at next x) × StandsBehind list table x

-- ---- what the functions for a line ensure, whatever the rules have reached in front of it

abbrev pub unit_says : List ℕ → LineRead
unit_says t = unit_line (numbered (behind (bytes "unitwidth=") t))

abbrev pub byte_says : List ℕ → Widths → LineRead
byte_says t w = byte_line w (numbered (behind (bytes "byte=") t))

abbrev pub width_says : List ℕ → Widths → ℕ → LineRead
width_says t w b = width_line w b (numbered (behind (bytes "width=") t))

pub record ByteJudged (t : List ℕ) (st : State) (next : ℕ) (r : Result State Refusal) : Type 0 where
  pub told : (w : Widths) (d : Due) → st ≡ state_of w d st.at → r ≡ reached st.at next (byte_says t w)

-- the table is changed
pub record Stored (t : List ℕ) (table table' : List Block) (st : State) (b next : ℕ) (r : Result State Refusal) : Type 0 where
  pub told : (list : List ℕ) (w : Widths) → Holds list table w (width_due b) st → After list table' st.at next r (width_says t w b)
