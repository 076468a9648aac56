-- A turn of the rewriter: the answer of each return, in the form in which `search` applies it.
use Prim.Native.Nat.{ℕ, ◌≤◌, ◌<◌}
use native.Mathlib.Omega.{arith}
use mathlib.Core.List.{List}
use mathlib.Core.Path.{◌≡◌}
use lib.ListN.{length}
use borrow.Author.Rules.{rules}
use Rattle.scan_lex.specs.At.{blank_at}
use Rattle.scan_lex.proofs.Texts.{blank_by, blank_none, blank-within}
use Rattle.scan_command.specs.View.{command_at}
use Rattle.read_model.specs.declared.State.{State}
use Rattle.read_model.specs.Turns.{scratch_on, skipped, turn_on, turn_of, scratch_of}
use Rattle.read_turn.specs.Ready.{Ready}
use Rattle.respell_model.specs.declared.Mark.{Mark}
use Rattle.respell_model.specs.Passes.{bytes_on, mark_after, bytes_of, mark_of, respell_step_of}

module _ (find : List ℕ → ℕ) (s ws : List ℕ) (st : State) (o : List ℕ) (m : Mark) (at next : ℕ) (i : at ≡ st.at) (p : next ≡ blank_at s at) (x : State) (n : Mark) where
  -- the place behind the blanks, of the state's place
  blank_here : next ≡ blank_at s st.at
  blank_here = rw (p, i)

  pub blank_step : at < next → x ≡ (skipped (length s) st next).state → n ≡ m
      → record { state = x; mark = n; scratch = ws; bytes = o } ≡ respell_step_of find s (record { state = st; mark = m; scratch = ws; bytes = o })
  unfolding turn_of scratch_of bytes_of mark_of
  blank_step h q r = blank_by s st.at next blank_here _ (omega arith) (λ e k. rw (e, q, k, r)) (λ e j k. rw (e, j, q, k, r))

  pub command_step : (t q : List ℕ) → next ≤ at → x ≡ (turn_on s ws st (command_at s st.at)).state → n ≡ mark_after s ws st (command_at s st.at) o m
      → q ≡ bytes_on s ws st (command_at s st.at) o m → t ≡ scratch_on find s ws st.env (command_at s st.at)
      → record { state = x; mark = n; scratch = t; bytes = q } ≡ respell_step_of find s (record { state = st; mark = m; scratch = ws; bytes = o })
  unfolding turn_of scratch_of bytes_of mark_of
  command_step t q h f g j l =
      let b = blank_none s st.at next blank_here (omega arith) in
      rw (b.0, b.1, l, j, g, f)

pub here_at : (n at : ℕ) (st : State) → at ≡ st.at → Ready n st → at < n
here_at n at st i r = omega (arith, r.some, r.ends)

pub ruleset stepping = (here_at, blank-within, rules)
