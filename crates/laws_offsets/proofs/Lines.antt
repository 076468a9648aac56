-- A text as its lines, and where its lines start.
use Prim.Native.Nat.{ℕ, suc, ◌+◌, ◌<◌}
use native.Mathlib.Omega.{arith}
use mathlib.Core.Bool.{false}
use mathlib.Core.List.{List, [], ◌∷◌, ◌++◌, append_assoc, append-nil}
use mathlib.Core.Path.{◌≡◌, refl, sym, ap, ◌∙◌}
use borrow.Author.Tests.{eqb-true}
use lib.ListN.{length, take, length-append}
use lib.Seq.{get_or-append_seam, take-append_seam, drop-append_seam}
use Rattle.rules.specs.Bytes.{is, is_not_newline, span, one_line}
use Rattle.rules.specs.Widths.{lines_from}
use Rattle.laws.proofs.Cases.{on, All, Stops, span_all}
use Rattle.laws_find.proofs.Written.{OneLine}
use Rattle.laws_offsets.specs.Lists.{LineStart, behind_newline, line_end}

-- no line; a last one without a newline; a line and those behind it
pub data Lines : List ℕ → Type 0 where
  no_line : Lines []
  open_line : (b : ℕ) (t : List ℕ) → OneLine (b ∷ t) → Lines (b ∷ t)
  one_more : (t r : List ℕ) → OneLine t → Lines r → Lines (t ++ 10 ∷ r)

pub lines : (r : List ℕ) → Lines r
lines [] = no_line
lines (b ∷ r) = on (is "\n" b) (λ e. rw (eqb-true b 10 e) (one_more [] r tt (lines r))) (λ e. go e (lines r))
  where
    go : {r : List ℕ} → is "\n" b ≡ false → Lines r → Lines (b ∷ r)
    go e no_line = open_line b [] (e, tt)
    go e (open_line c t h) = open_line b (c ∷ t) (e, h)
    go e (one_more t r h more) = one_more (b ∷ t) r (e, h) more

-- a line without a newline
pub open_front : (b : ℕ) (t : List ℕ) (at : ℕ) → OneLine (b ∷ t) → lines_from at (b ∷ t) ≡ record { place = at; text = b ∷ t; ended = false } ∷ []
unfolding lines_from
open_front b [] at h = rw h.0
open_front b (c ∷ t) at h = rw (h.0, open_front c t (at + 1) h.1)

one_line_all : (t : List ℕ) → OneLine t → All is_not_newline t
one_line_all [] h = tt
one_line_all (b ∷ t) h = (rw h.0, one_line_all t h.1)

pub one_line_lem : (t r : List ℕ) → OneLine t → Stops is_not_newline r → one_line (t ++ r) ≡ length t
one_line_lem t r h k = span_all is_not_newline t r (one_line_all t h) k

pub is_line : (t : List ℕ) → one_line t ≡ length t → OneLine t
unfolding span
is_line [] h = tt
is_line (b ∷ t) h = on (is "\n" b) (λ e. absurd (let z : 0 ≡ suc (length t) = rw e at h in omega arith))
    (λ e. (e, is_line t (let z : suc (one_line t) ≡ suc (length t) = rw e at h in omega arith)))

-- ---- a text in front, its last line ended

module _ (pre t : List ℕ) where
  abbrev pub longer : List ℕ
  longer = (pre ++ t) ++ 10 ∷ []

  pub longer_on : (m : List ℕ) → longer ++ m ≡ pre ++ (t ++ 10 ∷ m)
  longer_on m = append_assoc (pre ++ t) (10 ∷ []) m ∙ append_assoc pre t (10 ∷ m)

  pub longer_length : length longer ≡ length pre + length t + 1
  longer_length = length-append (pre ++ t) (10 ∷ []) ∙ ap (λ (n : ℕ). n + 1) (length-append pre t)

  pub longer_start : (m : List ℕ) → LineStart (longer ++ m) (length longer)
  longer_start m =
      let e : longer ++ m ≡ (pre ++ t) ++ 10 ∷ m = append_assoc (pre ++ t) (10 ∷ []) m in
      rw (e, length-append (pre ++ t) (10 ∷ []))
      (behind_newline (length (pre ++ t)) (omega (arith, length-append (pre ++ t) (10 ∷ m))) (get_or-append_seam (pre ++ t) 10 m 0))

  -- where the line of t, behind pre, ends
  module _ (m : List ℕ) (h : OneLine t) where
    pub line_end_lem : line_end (pre ++ (t ++ 10 ∷ m)) (length pre) ≡ length pre + length t
    line_end_lem = rw (drop-append_seam pre (t ++ 10 ∷ m), one_line_lem t (10 ∷ m) h refl)

    pub line_inside : line_end (pre ++ (t ++ 10 ∷ m)) (length pre) < length (pre ++ (t ++ 10 ∷ m))
    line_inside = omega (arith, line_end_lem, length-append pre (t ++ 10 ∷ m), length-append t (10 ∷ m))

    -- up to behind its newline
    pub line_taken : take (line_end (pre ++ (t ++ 10 ∷ m)) (length pre) + 1) (pre ++ (t ++ 10 ∷ m)) ≡ longer
    line_taken = rw (line_end_lem, ← longer_length, ← longer_on m) (take-append_seam longer m)

-- a line without a newline, behind pre
module _ (pre : List ℕ) (b : ℕ) (t : List ℕ) where
  pub open_inside : length pre < length (pre ++ b ∷ t)
  open_inside = omega (arith, length-append pre (b ∷ t))

  pub open_end : OneLine (b ∷ t) → line_end (pre ++ b ∷ t) (length pre) ≡ length (pre ++ b ∷ t)
  open_end h =
      let z : one_line (b ∷ t) ≡ suc (length t) = rw append-nil at (one_line_lem (b ∷ t) [] h tt) in
      rw (drop-append_seam pre (b ∷ t), z) (sym (length-append pre (b ∷ t)))
