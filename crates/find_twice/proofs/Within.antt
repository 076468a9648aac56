-- A pass never counts more records than it has room for.
use Rattle.std.specs.Prelude.{Result, Ok, Err, if◌then◌else◌}
use Prim.Native.Nat.{ℕ, zero, suc, ◌+◌, ◌-◌, ◌<◌, ◌≤◌}
use native.Mathlib.Omega.{arith}
use mathlib.Core.List.{List}
use mathlib.Core.Path.{◌≡◌}
use lib.Dec.{ltb, eqb}
use lib.ListN.{length, drop, get_or}
use borrow.Author.Tests.{ltb-true, ltb-false}
use Rattle.rules.specs.Bytes.{is, is_white, one_line}
use Rattle.laws.proofs.Cases.{on, if_both, if_on}
use Rattle.rules.specs.declared.Refusal.{Refusal}
use Rattle.scan_command.specs.declared.Command.{Command}
use Rattle.scan_command.specs.View.{command_at}
use Rattle.read_model.specs.declared.Environment.{Environment}
use Rattle.read_model.specs.declared.Emitted.{Emitted}
use Rattle.read_model.specs.declared.Emitted.TheVariants as E
use Rattle.read_model.specs.declared.Did.{Did}
use Rattle.read_model.specs.declared.State.{State}
use Rattle.read_model.specs.declared.Turned.{Turned}
use Rattle.read_model.specs.Turns.{did_at, next_of, halted, emitted, done_of, skipped, turn_on, turn_of}
use Rattle.read_model.specs.Passes.{ReadPass, read_step_of, read_pass_for}

-- at most m records, and that is the room
abbrev Held : ℕ → State → Type 0
Held m st = (st.records ≤ m) × (st.rmax ≡ m)

module _ (m : ℕ) where
  abbrev Keeps : Turned → Type 0
  Keeps t = Held m t.state

  module _ (n : ℕ) (st : State) (h : Held m st) (to : ℕ) where
    emitted_keeps : (e : Environment) (x : Emitted) → Keeps (emitted n st to e x)
    emitted_keeps e E.Nothing = h
    emitted_keeps e (E.Record r) =
        if_on Keeps (ltb st.records st.rmax) _ (halted st 13) (λ z. let l : st.records < st.rmax = ltb-true st.records st.rmax z in (omega (arith, h.1), h.1)) (λ z. h)
    emitted_keeps e (E.Entry x) = if_both Keeps (ltb st.entries st.emax) _ (halted st 13) h h
    emitted_keeps e (E.Word w) =
        if_on Keeps (ltb (st.rmax - st.records) w.left) (halted st 13) _ (λ z. h) (λ z. let l : w.left ≤ st.rmax - st.records = ltb-false (st.rmax - st.records) w.left z in (omega (arith, h.0, h.1), h.1))

    done_keeps : (d : Result Did Refusal) → Keeps (done_of n st to d)
    done_keeps (Ok d) = emitted_keeps d.env d.emitted
    done_keeps (Err r) = h

  on_keeps : (s ws : List ℕ) (st : State) → Held m st → (c : Result Command Refusal) → Keeps (turn_on s ws st c)
  on_keeps s ws st h (Ok c) = done_keeps (length s) st h (next_of c) (did_at s ws st.unitwidth st.env st.at c)
  on_keeps s ws st h (Err r) = h

  turn_keeps : (s ws : List ℕ) (st : State) → Held m st → Keeps (turn_of s ws st)
  unfolding turn_of
  turn_keeps s ws st h =
      let line : Turned = skipped (length s) st (st.at + 1 + one_line (drop (st.at + 1) s)) in
      let rest : Turned = turn_on s ws st (command_at s st.at) in
      if_both Keeps (is_white (get_or s st.at 0)) (skipped (length s) st (st.at + 1)) (if is "#" (get_or s st.at 0) then line else rest) h
      (if_both Keeps (is "#" (get_or s st.at 0)) line rest h (on_keeps s ws st h (command_at s st.at)))

  pub pass_held : (f : ℕ) (find : List ℕ → ℕ) (s : List ℕ) (p : ReadPass) → p.state.records ≤ m → p.state.rmax ≡ m → Held m (read_pass_for f find s p).state
  unfolding read_pass_for
  pass_held zero find s p a b = (a, b)
  pass_held (suc f) find s p a b =
      let t : Held m (read_step_of find s p).state = turn_keeps s p.scratch p.state (a, b) in
      let more : Held m (read_pass_for f find s (read_step_of find s p)).state = pass_held f find s (read_step_of find s p) t.0 t.1 in
      on (eqb p.state.left 0) (λ z. rw z (a, b)) (λ z. rw z more)
