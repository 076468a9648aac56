-- A command of one letter and one integer, from the scanner's answer, in the form in which the check applies it.
use Rattle.std.specs.Prelude.{Result, Ok}
use Prim.Native.Nat.{ℕ, ◌+◌, ◌<◌}
use native.Mathlib.Omega.{arith}
use native.Mathlib.Nat.{add-zero}
use mathlib.Core.List.{List, [], ◌∷◌, ◌++◌}
use mathlib.Core.Path.{◌≡◌, ◌∙◌}
use lib.ListN.{drop}
use Rattle.rules.specs.Bytes.{within, Num, moved, Nums, integers}
use Rattle.rules.specs.Act.{Act, just}
use Rattle.rules.specs.Letters.{with_one}
use Rattle.rules.specs.Scan.{letter, limits, name_of}
use Rattle.rules.specs.declared.Refusal.{Refusal}
use Rattle.rules.specs.Answers.{and_then}
use Rattle.laws.proofs.Cases.{on}
use Rattle.scan_command.specs.View.{act_of, draft_of, letter_at}
use Rattle.scan_command.specs.declared.Command.{Command}
use Rattle.scan_arguments.specs.declared.Argument.{Argument}
use Rattle.scan_integer.specs.At.{cut}
use Rattle.scan_arguments.specs.At.{within_of}
use Rattle.scan_close.specs.Closed.{argument_at}
use Rattle.scan_close.proofs.Places.{Back, one_due, judged_at, within-cut, within_uncut}

-- the letter b has one integer, from lo to hi, and no name, and says an act of it
pub record Form (b : ℕ) (f : ℕ → Act) (lo hi : ℕ) : Type 0 where
  pub reads : (r : List ℕ) → letter b r ≡ with_one f (integers 1 1 r)
  pub limit : (n : ℕ) → limits (f n) ≡ within lo hi n ∷ []
  pub nameless : (n : ℕ) → name_of (f n) ≡ []
  pub below : hi < 200000000

module _ (s : List ℕ) (at b : ℕ) (f : ℕ → Act) (lo hi : ℕ) (form : Form b f lo hi) where
  -- the act of the argument, which has no name
  abbrev said : Argument → Result Command Refusal
  said a = Ok (act_of (at + 0) a.next (f a.number))

  one_number : (a : Argument) (m : Num) (y : Nums) → a.number ≡ cut (moved m) → Back at y (m ∷ []) (a.place ∷ []) a.next (drop a.next s)
      → draft_of at (with_one f y) ≡ and_then (and_then (within_of lo hi a) (λ z. Ok a)) said
  one_number a m y g d =
      rw (d.are, g)
      (judged_at at (just (f (moved m))) 0 d.end (limits (f (moved m)) ++ []) d.places (a.place ∷ []) d.from (rw (form.limit (moved m)) (omega arith))
      ∙ rw (form.limit (moved m), form.nameless (moved m), d.to, within-cut lo hi (moved m) form.below)
      (on (within lo hi (moved m)) (λ w. rw (w, within_uncut lo hi (moved m) form.below w)) (λ w. rw w)))

  pub one_is : letter_at b s at ≡ and_then (argument_at lo hi s at) said
  unfolding letter_at
  one_is =
      rw (form.reads (drop (at + 1) s))
      (one_due at s 1 (λ x r. draft_of at (with_one f x) ≡ and_then r said) (rw add-zero) (λ a. and_then (within_of lo hi a) (λ z. Ok a)) one_number)
