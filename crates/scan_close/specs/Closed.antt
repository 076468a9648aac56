-- What closes a command.
use Rattle.std.specs.Prelude.{ℕ, ◌+◌, Bool, List, Result, Ok}
use Rattle.rules.specs.declared.Refusal.{Refusal}
use Rattle.rules.specs.Answers.{asked, and_then}
use Rattle.scan_lex.specs.At.{breaks_at}
use Rattle.scan_arguments.specs.At.{due_at, within_of}
use Rattle.scan_arguments.specs.declared.Argument.{Argument}

-- what is due of the command at a place stands there: "argument missing or malformed" is 4
abbrev pub due_or : Bool → ℕ → Result Unit Refusal
due_or t at = asked t 4 at

-- what begins at a place is within its limit
abbrev pub within_or : Bool → ℕ → Result Unit Refusal
within_or t place = asked t 6 place

-- no byte of the name of the command at a place is barred
abbrev pub clear_or : Bool → ℕ → Result Unit Refusal
clear_or t at = asked t 16 at

-- the line breaks behind the last argument
abbrev pub ended_at : List ℕ → ℕ → ℕ → Result Unit Refusal
ended_at s at next = asked (breaks_at s next) 5 at

-- the one integer of the command at a place, from lo to hi
abbrev pub argument_at : ℕ → ℕ → List ℕ → ℕ → Result Argument Refusal
argument_at lo hi s at = and_then (due_at at s (at + 1)) (λ a. and_then (within_of lo hi a) (λ z. Ok a))
