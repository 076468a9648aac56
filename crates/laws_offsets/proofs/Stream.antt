-- A refusal of a stream points at the first byte of the command at fault, at one of its arguments, or at the stream's end.
use Rattle.std.specs.Prelude.{if◌then◌else◌}
use Prim.Native.Nat.{ℕ, zero, suc, ◌+◌, ◌-◌, ◌<◌, ◌≤◌}
use native.Mathlib.Omega.{arith}
use native.Mathlib.Nat.{add-zero}
use mathlib.Core.Bool.{false}
use mathlib.Core.List.{List, [], ◌∷◌}
use mathlib.Core.Logic.{inl, inr}
use mathlib.Core.Path.{◌≡◌, refl, sym, ap, ◌∙◌}
use borrow.Author.Tests.{eqb-true, eqb-false}
use lib.Dec.{eqb}
use lib.ListN.{length, drop, get_or, length-drop}
use lib.Seq.{drop-drop, get_or-drop}
use Rattle.rules.specs.Bytes.{is, is_not_newline, is_white, one_line}
use Rattle.rules.specs.Act.{Cmd}
use Rattle.rules.specs.Scan.{got, bad, Scan, command, Cmds, one_command, commands}
use Rattle.rules.specs.Widths.{Widths}
use Rattle.rules.specs.State.{Env, start, Step, refused, went, acts, perform, stopped}
use Rattle.rules.specs.Record.{GlyphRow, ItemRow, Answer, refuse, answer, after_rows, glyph_rows, item_rows, go_on, follow}
use Rattle.laws.proofs.Cases.{if_on, on, no}
use Rattle.laws_read.proofs.Numbers.{StepIn, step_in}
use Rattle.laws_scan.proofs.Bounds.{span_le, command-within, bad_place}
use Rattle.laws_arguments.specs.Names.{BarredIn}
use Rattle.laws_arguments.proofs.Arguments.{points_at_argument}
use Rattle.laws_arguments.proofs.Names.{refuses_barred}
use Rattle.laws_offsets.specs.Stream.{byte_at, behind_at, command_at, Between, at_start, behind-white, behind-comment, behind-command, FirstByte, ReadTo, from_start, past_white, past_comment, past_command, as_written, by_argument, by_name, as_done, behind-stop, StreamOffset, at_command, at_end}
use Rattle.laws_offsets.proofs.Numbers.{ScanIn, command_in, stopped_7}

abbrev number_of : Step → ℕ
number_of (refused n) = n
number_of (went e gs xs) = 0

module _ (w : Widths) (s : List ℕ) where
  -- where commands have been read up to, none is under way
  pub between : (at : ℕ) (e : Env) → ReadTo w s at e → Between s at
  between _ _ from_start = at_start
  between _ _ (past_white at e h p) = behind-white at (between at e h) p
  between _ _ (past_comment at e h p) = behind-comment at (between at e h) p
  between _ _ (past_command at e d c a l gs xs h p q) = behind-command at c a l (between at e h) p

  -- an answer's refusal
  abbrev pub Points : Answer → Type 0
  Points (refuse n at) = StreamOffset w s n at
  Points (answer rs xs e) = Unit {0}

  after_points : (rs : List GlyphRow) (xs : List ItemRow) (x : Answer) → Points x → Points (after_rows rs xs x)
  after_points rs xs (refuse n at) h = h
  after_points rs xs (answer rs' xs' e) h = tt

  -- a command at a place between commands, in an environment
  module _ (at : ℕ) (e : Env) (f : FirstByte s at) (h : ReadTo w s at e) where
    six_points : (k : ℕ) → command_at s at ≡ bad 6 k → stopped e ≡ false → StreamOffset w s 6 (at + k)
    six_points k p q = at_command 6 (at + k) (record { place = at; first = f; env = e; read_to = h; fault = by_argument k (points_at_argument.points (byte_at s at) (behind_at s at) k p) q; after_stop = λ x. no (sym q ∙ x) })

    other-points : (n k : ℕ) → command_at s at ≡ bad n k → stopped e ≡ false → (n ≡ 6 → ⊥) → ScanIn (bad n k) → StreamOffset w s n at
    other-points n k p q y (inl g) =
        at_command n at (record { place = at; first = f; env = e; read_to = h; fault = as_written n k p q g.0 (omega (arith, y)); after_stop = λ x. no (sym q ∙ x) })
    other-points n k p q y (inr g) =
        let b : BarredIn (byte_at s at) (behind_at s at) = (refuses_barred.points (byte_at s at) (behind_at s at) k (rw g at p)).1 in
        rw g (at_command 16 at (record { place = at; first = f; env = e; read_to = h; fault = by_name b q; after_stop = λ x. no (sym q ∙ x) }))

    written-points : (n k : ℕ) → command_at s at ≡ bad n k → stopped e ≡ false → StreamOffset w s n (at + k)
    written-points n k p q =
        let g : ScanIn (bad n k) = rw p at (command_in (byte_at s at) (behind_at s at)) in
        on (eqb n 6)
        (λ z. let y : n ≡ 6 = eqb-true n 6 z in rw y (six_points k (rw y at p) q))
        (λ z.
        let y : n ≡ 6 → ⊥ = eqb-false n 6 z in
        rw (bad_place (byte_at s at) (behind_at s at) n k p y, add-zero) (other-points n k p q y g))

    bad-points : (n k : ℕ) → command_at s at ≡ bad n k → Points (if stopped e then refuse 7 at else refuse n (at + k))
    bad-points n k p =
        if_on Points (stopped e) (refuse 7 at) (refuse n (at + k))
        (λ q. at_command 7 at (record { place = at; first = f; env = e; read_to = h; fault = behind-stop n k p q; after_stop = λ x. refl }))
        (written-points n k p)

    done-points : (c : Cmd) (a l : ℕ) (more : Env → Answer) (x : Step) → command_at s at ≡ got c a l → perform e (acts w e c) ≡ x
        → ((d : Env) → ReadTo w s (at + l) d → Points (more d)) → Points (go_on at (at + a) l more x)
    done-points c a l more (refused n) p q go =
        let g : StepIn (refused n) = rw q at (step_in w e c) in
        at_command n at (record { place = at; first = f; env = e; read_to = h; fault = as_done n c a l p q g.0 g.1; after_stop = λ x. ap number_of (sym q ∙ stopped_7 e x w c) })
    done-points c a l more (went d gs xs) p q go =
        after_points (glyph_rows (at + a) gs) (item_rows at l xs) (more d) (go d (past_command at e d c a l gs xs h p q))

  -- the byte at a place, and what is behind it
  pub byte_here : (at b : ℕ) (r : List ℕ) → drop at s ≡ b ∷ r → byte_at s at ≡ b
  byte_here at b r d = sym (let z : get_or (drop at s) 0 0 ≡ get_or s (at + 0) 0 = get_or-drop at s 0 0 in rw (add-zero, d) at z)

  one_points : (at b : ℕ) (r : List ℕ) (e : Env) (x : Scan) → FirstByte s at → ReadTo w s at e → command_at s at ≡ x → command b r ≡ x
      → ((k : ℕ) (d : Env) → k ≤ length r → ReadTo w s (at + 1 + k) d → Points (follow w d (commands (at + 1) k r)))
      → Points (follow w e (one_command at (λ k. commands (at + 1) k r) x))
  unfolding follow
  one_points at b r e (bad n k) f h p q more = bad-points at e f h n k p
  one_points at b r e (got c a l) f h p q more =
      let g : (1 ≤ l) × (l ≤ suc (length r)) × (a ≤ l) = command-within b r c a l q in
      let z : at + l ≡ at + 1 + (l - 1) = omega arith in
      done-points at e f h c a l (λ d. follow w d (commands (at + 1) (l - 1) r)) (perform e (acts w e c)) p refl
      (λ d t. more (l - 1) d (omega arith) (rw z at t))

  pub stream-points : (r : List ℕ) (at k : ℕ) (e : Env) → drop at s ≡ r → at ≤ length s → k ≤ length r → ReadTo w s (at + k) e → Points (follow w e (commands at k r))
  unfolding commands follow
  stream-points [] at k e d m l h =
      let z : at ≡ length s = omega (arith, sym (length-drop at s) ∙ ap length d) in
      let y : at + k ≡ length s = omega arith in
      if_on Points (stopped e) _ _ (λ q. tt) (λ q. rw z (at_end e (rw y at h) q))
  stream-points (b ∷ r) at (suc k) e d m l h =
      let z : at + suc k ≡ at + 1 + k = omega arith in
      stream-points r (at + 1) k e (sym (drop-drop 1 at s) ∙ ap (drop 1) d) (omega (arith, sym (length-drop at s) ∙ ap length d)) (omega arith) (rw z at h)
  stream-points (b ∷ r) at zero e d m l h =
      let here : byte_at s at ≡ b = byte_here at b r d in
      let rest : behind_at s at ≡ r = sym (drop-drop 1 at s) ∙ ap (drop 1) d in
      let t : ReadTo w s at e = rw add-zero at h in
      let i : at < length s = omega (arith, sym (length-drop at s) ∙ ap length d) in
      let more : (k : ℕ) (x : Env) → k ≤ length r → ReadTo w s (at + 1 + k) x → Points (follow w x (commands (at + 1) k r)) =
      λ k x q u. stream-points r (at + 1) k x rest (omega arith) q u in
      let P : Cmds → Type 0 = λ cs. Points (follow w e cs) in
      if_on P (is_white b) _ _ (λ p. more 0 e (omega arith) (rw add-zero (past_white at e t (rw here p)))) (λ n.
      if_on P (is "#" b) _ _ (λ p. more (one_line r) e (span_le is_not_newline r) (rw rest at (past_comment at e t (rw here p)))) (λ p.
      one_points at b r e (command b r) (record { between = between at e t; inside = i; no_white = rw here n; no_comment = rw here p }) t (rw (here, rest)) refl more))

pub points : (w : Widths) (s : List ℕ) → Points w s (follow w start (commands 0 0 s))
points w s = stream-points w s s 0 0 start refl (omega arith) (omega arith) from_start
