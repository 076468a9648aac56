-- What the shapes' scanners answer, for the command at a place of the whole list, its arguments from i on: step by step, in the order in
-- which their refusals count.
use Rattle.std.specs.Prelude.{ℕ, ◌+◌, ◌-◌, List, Option, Some, None, Result, Ok}
use Rattle.rules.specs.declared.Refusal.{Refusal}
use Rattle.rules.specs.Answers.{and_then}
use Rattle.rules.specs.Bytes.{origin}
use Rattle.scan_command.specs.declared.Command.{Command}
use Rattle.scan_command.specs.declared.Command.TheVariants as K
use Rattle.scan_letters.specs.declared.Motion.{Motion}
use Rattle.scan_letters.specs.declared.Motion.TheVariants as M
use Rattle.scan_arguments.specs.At.{due_at, perhaps_at, pairs_at, near_of, within_of}
use Rattle.scan_arguments.specs.declared.Argument.{Argument}
use Rattle.scan_close.specs.Closed.{ended_at}

-- a drawing of a letter that has the numbers h and v, by the motion that its letter selects: "+h, +v", "+h, 0"
abbrev pub moved_by : ℕ → Motion → ℕ → ℕ → ℕ → Command
moved_by letter M.Both h v next = K.Draw letter h v 1 next
moved_by letter M.Across h v next = K.Draw letter h origin 1 next

unfoldable pub one_drawn : ℕ → Motion → List ℕ → ℕ → ℕ → Result Command Refusal
one_drawn letter m s at i =
    and_then (due_at at s i) (λ n.
    and_then (ended_at s at n.next) (λ z.
    and_then (near_of n) (λ z. Ok (moved_by letter m n.number origin n.next))))

-- `Df`
unfoldable pub gray_set : List ℕ → ℕ → ℕ → Result Command Refusal
gray_set s at i =
    and_then (due_at at s i) (λ n.
    and_then (ended_at s at n.next) (λ z.
    and_then (within_of (origin - 32767) (origin + 32767) n) (λ z. Ok (K.Gray n.number n.next))))

-- where a dummy ends, d standing before it, and whether it is within its limit, where there is one
abbrev pub dummy_end : Argument → Option Argument → ℕ
dummy_end d None = d.next
dummy_end d (Some a) = a.next

abbrev pub dummy_near : Option Argument → Result Unit Refusal
dummy_near None = Ok tt
dummy_near (Some a) = near_of a

unfoldable pub dummied_drawn : ℕ → Motion → List ℕ → ℕ → ℕ → Result Command Refusal
dummied_drawn letter m s at i =
    and_then (due_at at s i) (λ d.
    and_then (perhaps_at at s d.next) (λ a.
    and_then (ended_at s at (dummy_end d a)) (λ z.
    and_then (near_of d) (λ z.
    and_then (dummy_near a) (λ z. Ok (moved_by letter m d.number origin (dummy_end d a)))))))

unfoldable pub two_drawn : ℕ → Motion → List ℕ → ℕ → ℕ → Result Command Refusal
two_drawn letter m s at i =
    and_then (due_at at s i) (λ h.
    and_then (due_at at s h.next) (λ v.
    and_then (ended_at s at v.next) (λ z.
    and_then (near_of h) (λ z.
    and_then (near_of v) (λ z. Ok (moved_by letter m h.number v.number v.next))))))

-- "+h1+h2, +v1+v2"
unfoldable pub four_drawn : ℕ → List ℕ → ℕ → ℕ → Result Command Refusal
four_drawn letter s at i =
    and_then (due_at at s i) (λ h1.
    and_then (due_at at s h1.next) (λ v1.
    and_then (due_at at s v1.next) (λ h2.
    and_then (due_at at s h2.next) (λ v2.
    and_then (ended_at s at v2.next) (λ z.
    and_then (near_of h1) (λ z.
    and_then (near_of v1) (λ z.
    and_then (near_of h2) (λ z.
    and_then (near_of v2) (λ z. Ok (K.Draw letter (h1.number + h2.number) (v1.number + v2.number) 2 v2.next))))))))))

-- "+ sum of the odd-placed, + sum of the even-placed"
unfoldable pub pairs_drawn : ℕ → List ℕ → ℕ → ℕ → Result Command Refusal
pairs_drawn letter s at i =
    and_then (pairs_at at s i) (λ pairs.
    and_then (ended_at s at pairs.next) (λ z.
    and_then pairs.sums (λ w. Ok (K.Draw letter w.dh w.dv w.terms pairs.next))))
