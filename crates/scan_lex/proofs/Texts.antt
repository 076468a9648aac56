-- What stands between commands, runs of bytes compared, and names, in the form in which the check applies them.
use Rattle.std.specs.Prelude.{if◌then◌else◌}
use Prim.Native.Nat.{ℕ, ◌+◌, ◌≤◌, ◌<◌}
use native.Mathlib.Omega.{arith}
use native.Mathlib.Nat.{zero-add}
use mathlib.Core.Bool.{true, false, ◌&&◌}
use mathlib.Core.List.{List, [], ◌∷◌}
use mathlib.Core.Path.{◌≡◌, refl, ◌∙◌}
use lib.Dec.{eqb, ltb, leb}
use lib.ListN.{length, drop, get_or}
use Rattle.std.specs.Cmp.Lexicographic.{pointwise}
use Rattle.rules.specs.Bytes.{is, same, is_white, is_not_newline, one_line}
use Rattle.rules.specs.Widths.{is_list_name}
use Rattle.laws.proofs.Cases.{on}
use Rattle.scan_lex.specs.At.{run_end, is_name_byte, blank_at}
use Rattle.scan_lex.proofs.Names.{clear_whole}
use Rattle.scan_lex.proofs.Runs.{run-within}

-- ---- between commands

pub blank_is : (s : List ℕ) (at : ℕ) → blank_at s at ≡ (if is_white (get_or s at 0) then at + 1 else (if is "#" (get_or s at 0) then run_end is_not_newline s (at + 1) else at))
unfolding blank_at run_end
blank_is s at = refl

-- what stands there, for a caller
module _ (s : List ℕ) (at next : ℕ) (p : next ≡ blank_at s at) where
  pub blank_by : (P : Type 0) → at < next → (is_white (get_or s at 0) ≡ true → next ≡ at + 1 → P)
      → (is_white (get_or s at 0) ≡ false → is "#" (get_or s at 0) ≡ true → next ≡ at + 1 + one_line (drop (at + 1) s) → P) → P
  unfolding blank_at
  blank_by P h f g =
      on (is_white (get_or s at 0))
      (λ e. f e (p ∙ rw e))
      (λ e. on (is "#" (get_or s at 0)) (λ k. g e k (p ∙ rw (e, k))) (λ k. let z : next ≡ at = p ∙ rw (e, k) in absurd (omega arith)))

  pub blank_none : next ≤ at → (is_white (get_or s at 0) ≡ false) × (is "#" (get_or s at 0) ≡ false)
  unfolding blank_at
  blank_none h =
      on (is_white (get_or s at 0))
      (λ e. let z : next ≡ at + 1 = p ∙ rw e in absurd (omega arith))
      (λ e.
      on (is "#" (get_or s at 0))
      (λ k. let z : next ≡ at + 1 + one_line (drop (at + 1) s) = p ∙ rw (e, k) in absurd (omega arith))
      (λ k. (e, k)))

  pub blank-within : at < next → at < length s → next ≤ length s
  unfolding run_end
  blank-within h l = blank_by _ h (λ e k. omega arith) (λ e j k. omega (arith, run-within is_not_newline s (at + 1) (omega arith)))

-- ---- two runs of bytes

-- as `==` says it
pub same_is : (a b : List ℕ) → same a b ≡ pointwise eqb a b
unfolding same
same_is [] [] = refl
same_is [] (y ∷ ys) = refl
same_is (x ∷ xs) [] = refl
same_is (x ∷ xs) (y ∷ ys) = rw (same_is xs ys)

-- ---- a name

pub list_name_is : (t : List ℕ) → is_list_name t ≡ (ltb 0 (length t) && (leb (length t) 64 && eqb (run_end is_name_byte t 0) (length t)))
unfolding run_end
list_name_is t = rw (zero-add, clear_whole t)
