-- The answer of each return, in the form in which `search` applies it.
use Prim.Native.Nat.{ℕ, ◌+◌, ◌<◌, ◌≤◌}
use native.Mathlib.Omega.{arith}
use mathlib.Core.List.{List}
use mathlib.Core.Path.{◌≡◌}
use lib.ListN.{length}
use Rattle.std.specs.Prelude.{Result}
use Rattle.rules.specs.declared.Refusal.{Refusal}
use Rattle.rules.specs.Bytes.{is_not_newline}
use Rattle.scan_command.specs.declared.Command.{Command}
use Rattle.scan_command.specs.View.{command_at}
use Rattle.laws_scan.proofs.Walk.{comment_in}
use Rattle.scan_lex.specs.At.{run_end}
use Rattle.read_model.specs.declared.State.{State}
use Rattle.read_model.specs.Fits.{ScannedIn}
use Rattle.read_model.proofs.Fits.{command-fits}
use Rattle.read_turn.specs.Ready.{Ready}

pub command_within : (s : List ℕ) (at : ℕ) (c : Result Command Refusal) → at < length s → c ≡ command_at s at → ScannedIn at (length s) c
command_within s at c h g = rw g (command-fits s at h)

pub here_some : (n : ℕ) (st : State) → Ready n st → st.at < n
here_some n st r = omega (arith, r.ends, r.some)

-- at the place of the state
pub here_at : (n at : ℕ) (st : State) → at ≡ st.at → Ready n st → at < n
here_at n at st i r = omega (arith, here_some n st r)

pub comment_ends : (s : List ℕ) (at next : ℕ) → at < length s → next ≡ run_end is_not_newline s (at + 1) → next ≤ length s
unfolding run_end
comment_ends s at next h e = rw e (comment_in s at h)
