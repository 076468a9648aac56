-- One step: the answer of each return, in the form in which `search` applies it.
use Rattle.std.specs.Prelude.{Some, None, Result, Ok, Err}
use Prim.Native.Nat.{ℕ, ◌<◌, ◌≤◌}
use native.Mathlib.Omega.{arith}
use mathlib.Core.List.{List}
use mathlib.Core.Path.{◌≡◌}
use lib.ListN.{length}
use Rattle.rules.specs.declared.Refusal.{Refusal}
use Rattle.scan_command.specs.declared.Command.{Command}
use Rattle.scan_command.specs.View.{command_at}
use Rattle.scan_lex.specs.At.{blank_at}
use Rattle.scan_lex.proofs.Texts.{blank_by, blank_none}
use Rattle.find_outline.specs.declared.Word.{Word}
use Rattle.find_outline.specs.declared.Outline.{Outline}
use Rattle.find_outline.specs.declared.Moved.{Moved}
use Rattle.find_outline.specs.Move.{passing, standing, word_move, command_move, scanned_move, move_of}
use Rattle.find_keys.specs.Keys.{WordIn, Fair}

pub ordinal_most : (n : ℕ) (o : Outline) → Fair n o → o.ordinal ≤ 16777216
ordinal_most n o f = omega (arith, f.pages, f.within, f.most)

module _ (n : ℕ) (o : Outline) (f : Fair n o) (w : Word) (e : o.word ≡ Some w) where
  pub word_before : o.at < w.end
  word_before = let i : WordIn n o.at (Some w) = rw e at f.word in i.0

module _ (s : List ℕ) (o : Outline) (r : Moved) where
  pub step_word : (w : Word) → o.word ≡ Some w → r ≡ word_move o w → r ≡ move_of s o
  unfolding move_of
  step_word w e f = rw (e, f)

  module _ (l : o.word ≡ None) (next : ℕ) (p : next ≡ blank_at s o.at) where
    pub step_blank : o.at < next → r ≡ passing (standing next o.gap o.ordinal) → r ≡ move_of s o
    unfolding move_of
    step_blank h f =
        blank_by s o.at next p _ h (λ e k. rw (l, e, f, k)) (λ e j k. rw (l, e, j, f, k))

    module _ (h : next ≤ o.at) where
      scanned : (x : Result Command Refusal) → x ≡ command_at s o.at → r ≡ scanned_move (length s) o x → r ≡ move_of s o
      unfolding move_of
      scanned x g f =
          let b = blank_none s o.at next p h in
          rw (l, b.0, b.1, f, g)

      pub step_command : (c : Command) → Ok c ≡ command_at s o.at → r ≡ command_move o c → r ≡ move_of s o
      step_command c g f = scanned (Ok c) g f

      pub step_refused : (e : Refusal) → Err e ≡ command_at s o.at → r ≡ passing (standing (length s) o.gap o.ordinal) → r ≡ move_of s o
      step_refused e g f = scanned (Err e) g f

pub ruleset step_laws = (ordinal_most, word_before, step_word, step_blank, step_command, step_refused)
