-- Runs of bytes and line breaks at a place, one place at a time, and in the form in which the check applies them at a need.
use Rattle.std.specs.Prelude.{if◌then◌else◌}
use Prim.Native.Nat.{ℕ, zero, suc, ◌+◌, ◌≤◌, ◌<◌, suc-le-suc}
use native.Mathlib.Omega.{arith}
use mathlib.Core.Bool.{Bool, true, false, ◌||◌}
use mathlib.Core.List.{List, [], ◌∷◌}
use mathlib.Core.Path.{◌≡◌, refl, sym, ◌∙◌}
use borrow.Author.Tests.{ltb-true, ltb-false}
use lib.Dec.{eqb, ltb}
use lib.ListN.{length, drop, get_or, length-drop, drop_of_length-le, get_or-eq_default}
use lib.Seq.{drop-drop}
use Rattle.rules.specs.Bytes.{is, span, is_space, spacer, unspaced}
use Rattle.rules.specs.Drawing.{line_ends}
use Rattle.laws.proofs.Cases.{on}
use Rattle.laws_scan.proofs.Bounds.{span_le}
use Rattle.laws_scan.proofs.Walk.{cons_at}
use Rattle.scan_lex.specs.At.{run_end, breaks_at}

-- ---- runs

module _ (p : ℕ → Bool) (s : List ℕ) (i : ℕ) where
  pub run_on : i < length s → p (get_or s i 0) ≡ true → run_end p s i ≡ run_end p s (i + 1)
  unfolding span run_end
  run_on h e = rw (cons_at s i h, e) (omega arith)

  pub run_off : i < length s → p (get_or s i 0) ≡ false → run_end p s i ≡ i
  unfolding span run_end
  run_off h e = rw (cons_at s i h, e) (omega arith)

  pub run_out : length s ≤ i → run_end p s i ≡ i
  unfolding span run_end
  run_out h = rw (drop_of_length-le s h) (omega arith)

  pub run_from : i ≤ run_end p s i
  unfolding run_end
  run_from = omega arith

  pub run-within : i ≤ length s → run_end p s i ≤ length s
  unfolding run_end
  run-within h = omega (arith, span_le p (drop i s), length-drop i s)

module _ (p : ℕ → Bool) (s : List ℕ) (at i : ℕ) where
  pub run_more : (t : Bool) → run_end p s at ≡ run_end p s i → i < length s → t ≡ p (get_or s i 0) → t ≡ true → run_end p s at ≡ run_end p s (i + 1)
  run_more t v h e f = v ∙ run_on p s i h (sym e ∙ f)

  pub run-stop : (t : Bool) → run_end p s at ≡ run_end p s i → i < length s → t ≡ p (get_or s i 0) → t ≡ false → i ≡ run_end p s at
  run-stop t v h e f = sym (v ∙ run_off p s i h (sym e ∙ f))

  pub run_over : run_end p s at ≡ run_end p s i → length s ≤ i → i ≡ run_end p s at
  run_over v h = sym (v ∙ run_out p s i h)

pub past_end : (s : List ℕ) (i : ℕ) → length s ≤ i → 0 ≡ get_or s i 0
past_end s i h = sym (get_or-eq_default s 0 h)

-- a place whose byte is not 0 lies within
pub inside : (s : List ℕ) (i b : ℕ) → get_or s i 0 ≡ suc b → i < length s
inside [] i b e = omega arith
inside (a ∷ s) zero b e = omega arith
inside (a ∷ s) (suc i) b e = suc-le-suc (inside s i b e)

-- what stands behind a spacer
pub unspaced_at : (s : List ℕ) (at : ℕ) → unspaced (drop at s) ≡ drop (run_end is_space s at) s
unfolding run_end
unspaced_at s at = drop-drop (spacer (drop at s)) at s

-- ---- a line break

abbrev ends_here : List ℕ → Bool
ends_here [] = true
ends_here (b ∷ r) = is "\n" b || is "#" b

ends_unspaced : (r : List ℕ) → line_ends r ≡ ends_here (unspaced r)
unfolding line_ends span
ends_unspaced [] = refl
ends_unspaced (b ∷ r) = on (is_space b) (λ e. rw e (ends_unspaced r)) (λ e. rw e)

module _ (s : List ℕ) (at i : ℕ) (p : i ≡ run_end is_space s at) where
  ends_at : breaks_at s at ≡ ends_here (drop i s)
  unfolding breaks_at
  ends_at = ends_unspaced (drop at s) ∙ rw (unspaced_at s at, p)

pub breaks_is : (s : List ℕ) (at : ℕ) → breaks_at s at ≡ (if ltb (run_end is_space s at) (length s) then (eqb (get_or s (run_end is_space s at) 0) 10 || eqb (get_or s (run_end is_space s at) 0) 35) else true)
breaks_is s at =
    let i : ℕ = run_end is_space s at in
    on (ltb i (length s))
    (λ e. ends_at s at i refl ∙ rw (e, cons_at s i (ltb-true i (length s) e)))
    (λ e. ends_at s at i refl ∙ rw (e, drop_of_length-le s (ltb-false i (length s) e)))
