-- One byte and a text, written: in the form in which `search` applies it at a need.
use Prim.Native.Nat.{ℕ, suc, ◌+◌, ◌≤◌, ◌<◌, min}
use native.Mathlib.Omega.{arith}
use mathlib.Core.List.{List, [], ◌∷◌}
use mathlib.Core.Path.{◌≡◌, refl, sym, ap, ◌∙◌}
use borrow.Author.Tests.{ltb-true, ltb-false}
use lib.Dec.{ltb}
use lib.ListN.{length, drop, get_or, drop_of_length-le}
use lib.Seq.{set_out}
use Rattle.laws.proofs.Cases.{on}
use Rattle.laws_scan.proofs.Walk.{cons_at}
use Rattle.respell_bytes.specs.Onward.{onward}
use Rattle.respell_model.specs.Sheet.{Sheet, further, put, put_all}
use Rattle.respell_model.proofs.Sheets.{put_all_none, put_all_cons}

abbrev pub sheet : List ℕ → ℕ → Sheet
sheet o at = record { bytes = o; at = at }

-- ---- behind the buffer

module _ (n at : ℕ) where
  onward_in : at ≤ 16777217 → onward n at ≡ min (at + n) 16777217
  onward_in h =
      on (ltb at 16777217) (λ e. rw e)
      (λ e. let l : 16777217 ≤ at = ltb-false at 16777217 e in rw e (let q : at ≡ min (at + n) 16777217 = omega arith in q))

onward-next : (n at : ℕ) → onward n (further at) ≡ onward (suc n) at
onward-next n at =
    on (ltb at 16777217)
    (λ e.
    let l : at < 16777217 = ltb-true at 16777217 e in
    let q : onward n (at + 1) ≡ min (at + 1 + n) 16777217 = onward_in n (at + 1) (omega arith) in
    let r : min (at + 1 + n) 16777217 ≡ min (at + suc n) 16777217 = omega arith in
    rw e (q ∙ r))
    (λ e. rw (e, e))

pub text_out : (s o : List ℕ) (at r : ℕ) → length o ≤ at → r ≡ onward (length s) at → sheet o r ≡ put_all s (sheet o at)
unfolding put_all
text_out [] o at r h e =
    ap (sheet o) (e ∙ on (ltb at 16777217) (λ q. let l : at < 16777217 = ltb-true at 16777217 q in rw q (let z : min (at + 0) 16777217 ≡ at = omega arith in z)) (λ q. rw q))
text_out (b ∷ s) o at r h e =
    text_out s o (further at) r (further_least at h) (e ∙ sym (onward-next (length s) at)) ∙ ap (λ (p : List ℕ). put_all s (sheet p (further at))) (sym (set_out o at b h))
  where
    further_least : (at : ℕ) → length o ≤ at → length o ≤ further at
    further_least at h = on (ltb at 16777217) (λ q. rw q (let z : length o ≤ at + 1 = omega arith in z)) (λ q. rw q h)

-- ---- a text

-- the bytes of s from i on are still to be written at a
pub record Text (s o₀ : List ℕ) (at : ℕ) (o : List ℕ) (a i : ℕ) : Type 0 where
  pub whole : put_all s (sheet o₀ at) ≡ put_all (drop i s) (sheet o a)

pub text_start : (s o : List ℕ) (at : ℕ) → Text s o at o at 0
text_start s o at = record { whole = refl }

module _ (s o₀ : List ℕ) (at : ℕ) (o : List ℕ) (a i : ℕ) (v : Text s o₀ at o a i) where
  pub text_more : (q : List ℕ) (r : ℕ) → i < length s → sheet q r ≡ put (get_or s i 0) (sheet o a) → Text s o₀ at q r (i + 1)
  text_more q r l e = record { whole = v.whole ∙ rw (cons_at s i l, put_all_cons (get_or s i 0) (drop (i + 1) s) (sheet o a), e) }

  pub text_end : length s ≤ i → sheet o a ≡ put_all s (sheet o₀ at)
  text_end h = sym (v.whole ∙ rw (drop_of_length-le s h) (put_all_none (sheet o a)))

pub ruleset texts = (text_out, text_start, text_more, text_end)
