-- What the parts of the arguments' scanners answer: whether an integer is present, sums of pairs.
use Rattle.std.specs.Prelude.{ℕ, ◌+◌, ◌*◌, ◌≤◌, Bool, List, ltb, drop, Result, Ok, Err}
use Rattle.rules.specs.Bytes.{unspaced, is_present}
use Rattle.rules.specs.declared.Refusal.{Refusal}
use Rattle.rules.specs.Answers.{asked, and_then}
use Rattle.scan_arguments.specs.declared.Argument.{Argument}
use Rattle.scan_arguments.specs.declared.Sums.{Sums}
use Rattle.scan_arguments.specs.At.{near_of}

-- an argument may stand as it is
abbrev pub allowed_of : Bool → Argument → Result Unit Refusal
allowed_of t a = asked t 6 a.place

-- behind a spacer an integer is present
unfoldable pub present_at : List ℕ → ℕ → Bool
present_at s i = is_present (unspaced (drop i s))

-- one more pair a b onto sums: at most 32 pairs may stand
abbrev pub pair_onto : Argument → Argument → Sums → Result Sums Refusal
pair_onto a b t =
    and_then (allowed_of (ltb t.terms 32) a) (λ x. and_then (near_of a) (λ y. and_then (near_of b) (λ z. Ok (record { dh = t.dh + a.number; dv = t.dv + b.number; terms = t.terms + 1 }))))

abbrev pub added_to : Result Sums Refusal → Argument → Argument → Result Sums Refusal
added_to sums a b = and_then sums (pair_onto a b)

-- the sums are small
abbrev pub Fine : Result Sums Refusal → Type 0
Fine (Err r) = Unit {0}
Fine (Ok t) = (t.dh ≤ 199_999_999 * t.terms) × (t.dv ≤ 199_999_999 * t.terms) × (t.terms ≤ 32)
