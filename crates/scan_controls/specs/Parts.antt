-- What the parts of the control scanner answer, for the command at a place of the whole list, its arguments from i on: step by step, in
-- the order in which their refusals count.
use Rattle.std.specs.Prelude.{ℕ, ◌+◌, ◌-◌, List, leb, Result, Ok, Err, if◌then◌else◌}
use Rattle.rules.specs.declared.Refusal.{Refusal}
use Rattle.rules.specs.Answers.{refusal, and_then}
use Rattle.rules.specs.Bytes.{is_space, is_not_white, name_most, origin, most}
use Rattle.scan_command.specs.declared.Command.{Command}
use Rattle.scan_command.specs.declared.Command.TheVariants as K
use Rattle.scan_letters.specs.Selected.{control_of}
use Rattle.scan_letters.specs.declared.Control.{Control}
use Rattle.scan_letters.specs.declared.Control.TheVariants as L
use Rattle.scan_lex.specs.At.{run_end, is_name_byte}
use Rattle.scan_arguments.specs.At.{due_at, within_of}
use Rattle.scan_close.specs.Closed.{within_or, clear_or, ended_at}
use Rattle.scan_raw.specs.Parts.{raw_at}
use Rattle.scan_controls.specs.declared.Name.{Name}

-- ---- a string

-- where the string behind a spacer begins, where its first barred byte or its end is, and where it ends
abbrev pub name_from : List ℕ → ℕ → ℕ
name_from s i = run_end is_space s i

abbrev pub clear_to : List ℕ → ℕ → ℕ
clear_to s i = run_end is_name_byte s (name_from s i)

abbrev pub name_to : List ℕ → ℕ → ℕ
name_to s i = run_end is_not_white s (clear_to s i)

-- the string from p to e, whose first barred byte, or its end, is at q
abbrev pub name_of : ℕ → ℕ → ℕ → Name
name_of p q e = record { place = p; len = e - p; clear = leb e q; next = e }

abbrev pub name_by : ℕ → List ℕ → ℕ → ℕ → ℕ → Result Name Refusal
name_by at s p q e = if leb e p then Err (refusal 4 at) else and_then (ended_at s at e) (λ z. Ok (name_of p q e))

unfoldable pub name_due : ℕ → List ℕ → ℕ → Result Name Refusal
name_due at s i = name_by at s (name_from s i) (clear_to s i) (name_to s i)

-- it has at most 64 bytes, and none of them is barred
abbrev pub name_fits : ℕ → Name → Result Unit Refusal
name_fits at n = and_then (within_or (leb n.len name_most) n.place) (λ z. clear_or n.clear at)

abbrev pub named_at : ℕ → List ℕ → ℕ → Result Name Refusal
named_at at s i = and_then (name_due at s i) (λ n. and_then (name_fits at n) (λ z. Ok n))

-- ---- the controls

unfoldable pub mount_at : List ℕ → ℕ → ℕ → Result Command Refusal
mount_at s at i =
    and_then (due_at at s i) (λ a.
    and_then (name_due at s a.next) (λ n.
    and_then (within_of origin (origin + 255) a) (λ z.
    and_then (name_fits at n) (λ z. Ok (K.Mount (a.number - origin) n.place n.len n.next)))))

-- controls that change nothing
unfoldable pub bare_at : ℕ → List ℕ → ℕ → ℕ → Result Command Refusal
bare_at letter s at i = and_then (ended_at s at i) (λ z. Ok (K.Plain letter i))

unfoldable pub plain_at : ℕ → ℕ → ℕ → List ℕ → ℕ → ℕ → Result Command Refusal
plain_at letter lo hi s at i =
    and_then (due_at at s i) (λ a.
    and_then (ended_at s at a.next) (λ z.
    and_then (within_of lo hi a) (λ z. Ok (K.Plain letter a.next))))

-- from 1 to 99,999,999
unfoldable pub resolution_at : List ℕ → ℕ → ℕ → Result Command Refusal
resolution_at s at i =
    and_then (due_at at s i) (λ a.
    and_then (due_at at s a.next) (λ b.
    and_then (due_at at s b.next) (λ c.
    and_then (ended_at s at c.next) (λ z.
    and_then (within_of (origin + 1) (origin + most) a) (λ z.
    and_then (within_of (origin + 1) (origin + most) b) (λ z.
    and_then (within_of (origin + 1) (origin + most) c) (λ z. Ok (K.Resolution (b.number - origin) c.next))))))))

-- by what the letter b selects
abbrev pub control_by : ℕ → List ℕ → ℕ → ℕ → Control → Result Command Refusal
control_by b s at i L.Device = and_then (named_at at s i) (λ n. Ok (K.Device n.place n.len n.next))
control_by b s at i L.Resolution = resolution_at s at i
control_by b s at i L.Init = and_then (ended_at s at i) (λ z. Ok (K.Init i))
control_by b s at i L.File = and_then (named_at at s i) (λ n. Ok (K.File n.place n.len n.next))
control_by b s at i L.Mount = mount_at s at i
control_by b s at i L.Bare = bare_at b s at i
control_by b s at i (L.Number lo hi) = plain_at b lo hi s at i
control_by b s at i L.Stop = and_then (ended_at s at i) (λ z. Ok (K.Stop i))
control_by b s at i L.Text = raw_at s i
control_by b s at i L.Unknown = Err (refusal 3 at)

unfoldable pub control_at : ℕ → List ℕ → ℕ → ℕ → Result Command Refusal
control_at b s at i = control_by b s at i (control_of b)
