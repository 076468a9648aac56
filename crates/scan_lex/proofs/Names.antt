-- Names by the bytes that may stand in them (2026-06): a string is clear where these bytes reach up to its end.
use Prim.Native.Nat.{ℕ, suc, ◌+◌, ◌-◌}
use native.Mathlib.Omega.{arith}
use mathlib.Core.Bool.{◌&&◌, and-false}
use mathlib.Core.List.{List, [], ◌∷◌}
use mathlib.Core.Path.{◌≡◌, refl, ap}
use borrow.Author.Tests.{le-leb, lt-leb, leb-true, leb-false, ne_eqb}
use lib.Dec.{eqb, leb, leb-suc-suc, eqb-suc-suc}
use lib.ListN.{length, take, drop}
use lib.Seq.{drop-drop}
use Rattle.rules.specs.Bytes.{span, is_not_white, is_barred, is_clear}
use Rattle.laws.proofs.Cases.{on}
use Rattle.scan_lex.specs.At.{run_end, is_name_byte}

-- ---- a string

-- the bytes of a name, and what is left of the string behind them, are the string
span-behind : (r : List ℕ) → span is_name_byte r + span is_not_white (drop (span is_name_byte r) r) ≡ span is_not_white r
unfolding span
span-behind [] = refl
span-behind (b ∷ r) =
    on (is_not_white b)
    (λ h. on (is_barred b) (λ k. rw (h, k, h) (omega arith)) (λ k. rw (h, k) (omega (arith, span-behind r))))
    (λ h. rw (h, h) (omega arith))

-- where no byte of it is barred, they reach up to its end
span_clear : (r : List ℕ) → is_clear (take (span is_not_white r) r) ≡ leb (span is_not_white r) (span is_name_byte r)
unfolding span
span_clear [] = refl
span_clear (b ∷ r) =
    on (is_not_white b)
    (λ h. on (is_barred b) (λ k. rw (h, k, lt-leb (suc (span is_not_white r)) 0 (omega arith))) (λ k. rw (h, k, leb-suc-suc) (span_clear r)))
    (λ h. rw (h, le-leb 0 0 (omega arith)))

-- a text that is one
pub clear_whole : (t : List ℕ) → eqb (span is_name_byte t) (length t) ≡ (eqb (span is_not_white t) (length t) && is_clear t)
unfolding span
clear_whole [] = refl
clear_whole (b ∷ t) =
    on (is_not_white b)
    (λ h.
    on (is_barred b)
    (λ k. rw (h, k, and-false, ne_eqb 0 (suc (length t)) (λ e. omega arith)))
    (λ k. rw (h, k, eqb-suc-suc, eqb-suc-suc) (clear_whole t)))
    (λ h. rw (h, ne_eqb 0 (suc (length t)) (λ e. omega arith)))

-- ---- at a place: p is where the string begins, q where its bytes are no longer those of a name, and e where it ends

module _ (s : List ℕ) (p q e : ℕ) (g : q ≡ run_end is_name_byte s p) (h : e ≡ run_end is_not_white s q) where
  pub string_ends : e ≡ run_end is_not_white s p
  unfolding run_end
  string_ends = omega (arith, span-behind (drop p s), ap (λ (r : List ℕ). span is_not_white r) (drop-drop (span is_name_byte (drop p s)) p s), g, h, ap (λ (i : ℕ). span is_not_white (drop i s)) g)

  pub string_clear : is_clear (take (e - p) (drop p s)) ≡ leb e q
  unfolding run_end
  string_clear =
      let n : e - p ≡ span is_not_white (drop p s) = omega (arith, string_ends) in
      rw (n, span_clear (drop p s)) (
      on (leb e q)
      (λ l. rw (l, le-leb (span is_not_white (drop p s)) (span is_name_byte (drop p s)) (omega (arith, leb-true e q l, string_ends))))
      (λ l. rw (l, lt-leb (span is_not_white (drop p s)) (span is_name_byte (drop p s)) (omega (arith, leb-false e q l, string_ends))))
      )
