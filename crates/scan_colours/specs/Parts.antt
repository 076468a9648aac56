-- What the parts of the colours' scanners answer, for the command at a place of the whole list: step by step, in the order in which
-- their refusals count.
use Rattle.std.specs.Prelude.{ℕ, ◌+◌, ◌-◌, Bool, List, [], ◌∷◌, ltb, slice_get, get_or, Option, Some, None, Result, Ok, Err, if◌then◌else◌}
use Rattle.rules.specs.declared.Refusal.{Refusal}
use Rattle.rules.specs.Answers.{refusal, and_then}
use Rattle.rules.specs.Bytes.{origin}
use Rattle.scan_command.specs.declared.Command.{Command}
use Rattle.scan_command.specs.declared.Command.TheVariants as K
use Rattle.scan_letters.specs.Selected.{parts_of as parts_selected}
use Rattle.scan_letters.specs.declared.Parts.{Parts}
use Rattle.scan_letters.specs.declared.Parts.TheVariants as P
use Rattle.scan_arguments.specs.At.{due_at, within_of}
use Rattle.scan_arguments.specs.declared.Argument.{Argument}
use Rattle.scan_close.specs.Closed.{ended_at}
use Rattle.scan_colours.specs.declared.Components.{Components}

-- how many components the scheme of a letter has
abbrev pub count_in : Parts → Option ℕ
count_in P.Zero = Some 0
count_in P.One = Some 1
count_in P.Three = Some 3
count_in P.Four = Some 4
count_in P.Unknown = None

abbrev pub count_of : ℕ → Option ℕ
count_of scheme = count_in (parts_selected scheme)

-- the component at i, where one is due there
abbrev pub part_at : ℕ → List ℕ → ℕ → Bool → Result Argument Refusal
part_at at s i due = if due then due_at at s i else Ok (record { number = origin; place = i; next = i })

-- what the letter of the command at a place selects, or refusal 3
abbrev pub known : {A : Type 0} → ℕ → Option A → Result A Refusal
known at None = Err (refusal 3 at)
known at (Some x) = Ok x

-- so many components of a scheme, from i on
abbrev pub components_from : ℕ → List ℕ → ℕ → ℕ → ℕ → Result Components Refusal
components_from at s i scheme count =
    and_then (part_at at s i (ltb 0 count)) (λ a.
    and_then (part_at at s a.next (ltb 1 count)) (λ b.
    and_then (part_at at s b.next (ltb 2 count)) (λ c.
    and_then (part_at at s c.next (ltb 3 count)) (λ d. Ok (record { scheme = scheme; parts = a ∷ b ∷ c ∷ d ∷ []; next = d.next })))))

-- the scheme's letter is due at i
abbrev pub components_at : ℕ → List ℕ → ℕ → Result Components Refusal
components_at at s i =
    and_then (known at (slice_get s i)) (λ scheme.
    and_then (known at (count_of scheme)) (λ count. components_from at s (i + 1) scheme count))

-- a component, within its limit: "components 0..65536"
abbrev pub part_of : Argument → Result ℕ Refusal
part_of a = and_then (within_of origin (origin + 65536) a) (λ z. Ok (a.number - origin))

abbrev pub parts_of : List Argument → Result (List ℕ) Refusal
parts_of [] = Ok []
parts_of (a ∷ all) = and_then (part_of a) (λ p. and_then (parts_of all) (λ ps. Ok (p ∷ ps)))

-- ---- the commands, with their components at hand

abbrev pub with_parts : (ℕ → ℕ → ℕ → ℕ → Command) → List ℕ → Command
with_parts f ps = f (get_or ps 0 0) (get_or ps 1 0) (get_or ps 2 0) (get_or ps 3 0)

abbrev pub colour_of : Components → Result Command Refusal
colour_of all = and_then (parts_of all.parts) (λ ps. Ok (with_parts (λ a b c d. K.Colour all.scheme a b c d all.next) ps))

abbrev pub fill_of : ℕ → List ℕ → Components → Result Command Refusal
fill_of at s all =
    and_then (ended_at s at all.next) (λ z.
    and_then (parts_of all.parts) (λ ps. Ok (with_parts (λ a b c d. K.Fill all.scheme a b c d all.next) ps)))

-- `DF`: the scheme's letter is due at i
unfoldable pub fill_set : List ℕ → ℕ → ℕ → Result Command Refusal
fill_set s at i = and_then (components_at at s i) (fill_of at s)
