-- The commands of a stream from a place on, one step further: what a reader's loop over a slice uses.
use Prim.Native.Nat.{ℕ, zero, suc, ◌+◌, ◌-◌, ◌≤◌, ◌<◌}
use native.Mathlib.Omega.{arith}
use native.Mathlib.Nat.{add-zero}
use native.Mathlib.Numerals.{add-one}
use mathlib.Core.Bool.{true, false}
use mathlib.Core.List.{List, [], ◌∷◌}
use mathlib.Core.Path.{◌≡◌, sym, ap, ◌∙◌}
use lib.ListN.{length, drop, get_or, length-drop, drop_of_length-le}
use lib.Seq.{drop-cons, drop-drop}
use Rattle.rules.specs.Bytes.{is_not_newline, is_white, is, one_line}
use Rattle.rules.specs.Act.{Cmd}
use Rattle.rules.specs.Scan.{got, bad, command, Cmds, done, wrong, next, commands}
use Rattle.laws_scan.proofs.Bounds.{span_le, command-within}

-- bytes that are still to be passed are passed
pub commands-drop : (k at : ℕ) (r : List ℕ) → k ≤ length r → commands at k r ≡ commands (at + k) 0 (drop k r)
unfolding commands
commands-drop zero at r h = rw add-zero
commands-drop (suc k) at [] h = absurd (omega arith)
commands-drop (suc k) at (b ∷ r) h = commands-drop k (at + 1) r (omega arith) ∙ ap (λ (i : ℕ). commands i 0 (drop k r)) (omega arith)

-- `drop-cons` with the code's i + 1
pub cons_at : (s : List ℕ) (i : ℕ) → i < length s → drop i s ≡ get_or s i 0 ∷ drop (i + 1) s
cons_at s i h = drop-cons s i 0 h ∙ ap (λ (k : ℕ). get_or s i 0 ∷ drop k s) (sym (add-one i))

-- what is left of s from a place on
abbrev pub from : List ℕ → ℕ → Cmds
from s at = commands at 0 (drop at s)

module _ (s : List ℕ) (at : ℕ) where
  -- k bytes behind the one at the place
  passed : at < length s → (k e : ℕ) → k ≤ length s - (at + 1) → e ≡ at + 1 + k → commands (at + 1) k (drop (at + 1) s) ≡ from s e
  passed h k e t q = commands-drop k (at + 1) (drop (at + 1) s) (omega (arith, length-drop (at + 1) s)) ∙ rw (drop-drop k (at + 1) s, q)

  pub from_end : length s ≤ at → from s at ≡ done at
  unfolding commands
  from_end h = rw (drop_of_length-le s h)

  module _ (h : at < length s) where
    -- what is passed ends within s
    pub comment_in : at + 1 + one_line (drop (at + 1) s) ≤ length s
    comment_in = omega (arith, length-drop (at + 1) s, span_le is_not_newline (drop (at + 1) s))

    pub got_in : (c : Cmd) (a l : ℕ) → command (get_or s at 0) (drop (at + 1) s) ≡ got c a l → (1 ≤ l) × (at + l ≤ length s) × (a ≤ l)
    got_in c a l e =
        let b : (1 ≤ l) × (l ≤ suc (length (drop (at + 1) s))) × (a ≤ l) = command-within (get_or s at 0) (drop (at + 1) s) c a l e in
        omega (arith, length-drop (at + 1) s)

    pub from_white : is_white (get_or s at 0) ≡ true → from s at ≡ from s (at + 1)
    unfolding commands
    from_white w = rw (cons_at s at h, w)

    module _ (w : is_white (get_or s at 0) ≡ false) where
      pub from_comment : is "#" (get_or s at 0) ≡ true → (e : ℕ) → e ≡ at + 1 + one_line (drop (at + 1) s) → from s at ≡ from s e
      unfolding commands
      from_comment p e q =
          rw (cons_at s at h, w, p)
          (passed h (one_line (drop (at + 1) s)) e (omega (arith, comment_in)) q)

      module _ (p : is "#" (get_or s at 0) ≡ false) where
        pub from_bad : (n k : ℕ) → command (get_or s at 0) (drop (at + 1) s) ≡ bad n k → from s at ≡ wrong n at k
        unfolding commands
        from_bad n k e = rw (cons_at s at h, w, p, e)

        pub from_got : (c : Cmd) (a l : ℕ) → command (get_or s at 0) (drop (at + 1) s) ≡ got c a l → from s at ≡ next c at (at + a) l (from s (at + l))
        unfolding commands
        from_got c a l e =
            let b : (1 ≤ l) × (at + l ≤ length s) × (a ≤ l) = got_in c a l e in
            rw (cons_at s at h, w, p, e)
            (ap (next c at (at + a) l) (passed h (l - 1) (at + l) (omega arith) (omega arith)))
