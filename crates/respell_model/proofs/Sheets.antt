-- Laws of sheets, and of the numbers that are written to them.
use Prim.Native.Nat.{ℕ, ◌+◌, ◌-◌, ◌≤◌, ◌<◌, min}
use native.Mathlib.Omega.{arith}
use mathlib.Core.Bool.{true}
use mathlib.Core.List.{List, [], ◌∷◌, ◌++◌}
use mathlib.Core.Path.{◌≡◌, refl, ap, ◌∙◌}
use borrow.Author.Tests.{lt-ltb, ltb-true, ltb-false}
use lib.Dec.{ltb}
use lib.ListN.{length, length-set, length-append}
use lib.Seq.{append_snoc, set-append_seam}
use Rattle.rules.specs.Bytes.{most, origin, near}
use Rattle.rules.specs.House.{signed_decimal}
use Rattle.rules.specs.Record.{over}
use Rattle.laws.proofs.Cases.{on, if_on}
use Rattle.laws.proofs.Limits.{near_bounds}
use Rattle.respell_model.specs.Sheet.{Sheet, further, put, put_all, small, signed_small}

-- ---- one text behind another

pub put_all-append : (t u : List ℕ) (p : Sheet) → put_all (t ++ u) p ≡ put_all u (put_all t p)
unfolding put_all
put_all-append [] u p = refl
put_all-append (b ∷ t) u p = put_all-append t u (put b p)

pub put_all_none : (p : Sheet) → put_all [] p ≡ p
unfolding put_all
put_all_none p = refl

pub put_all_cons : (b : ℕ) (t : List ℕ) (p : Sheet) → put_all (b ∷ t) p ≡ put_all t (put b p)
unfolding put_all
put_all_cons b t p = refl

-- what a function writes, piece by piece
pub ruleset one_by_one = (put_all_none, put_all_cons, put_all-append)

-- ---- the buffer's length, and the place

pub put-length : (t : List ℕ) (p : Sheet) → length (put_all t p).bytes ≡ length p.bytes
unfolding put_all
put-length [] p = refl
put-length (b ∷ t) p = put-length t (put b p) ∙ length-set p.bytes p.at b

pub further_is : (at : ℕ) → at ≤ 16777217 → further at ≡ min (at + 1) 16777217
further_is at h =
    if_on (λ (k : ℕ). k ≡ min (at + 1) 16777217) (ltb at 16777217) (at + 1) at
    (λ e. let l : at < 16777217 = ltb-true at 16777217 e in omega arith)
    (λ e. let l : 16777217 ≤ at = ltb-false at 16777217 e in omega arith)

pub put_at : (t : List ℕ) (p : Sheet) → p.at ≤ 16777217 → (put_all t p).at ≡ min (p.at + length t) 16777217
unfolding put_all
put_at [] p h = omega arith
put_at (b ∷ t) p h =
    let f : further p.at ≡ min (p.at + 1) 16777217 = further_is p.at h in
    put_at t (put b p) (omega arith) ∙ omega arith

pub put_at_most : (t : List ℕ) (p : Sheet) → p.at ≤ 16777217 → (put_all t p).at ≤ 16777217
put_at_most t p h = omega (arith, put_at t p h)

-- ---- what is written

-- w is written already
put-behind : (t w o : List ℕ) → length w + length t ≤ 16777216 → length t ≤ length o
    → put_all t (record { bytes = w ++ o; at = length w }) ≡ record { bytes = w ++ over t o; at = length w + length t }
unfolding put_all
put-behind [] w o h l = ap (λ (k : ℕ). record { bytes = w ++ o; at = k }) (omega arith)
put-behind (b ∷ t) w [] h l = absurd (omega arith)
put-behind (b ∷ t) w (x ∷ o) h l =
    let n : length (w ++ b ∷ []) ≡ length w + 1 = length-append w (b ∷ []) in
    let one : put_all t (put b (record { bytes = w ++ x ∷ o; at = length w })) ≡ put_all t (record { bytes = w ++ b ∷ [] ++ o; at = length (w ++ b ∷ []) }) =
    rw (set-append_seam w x o b, lt-ltb (length w) 16777217 (omega arith), append_snoc w b o, n) in
    one
    ∙ put-behind t (w ++ b ∷ []) o (omega arith) (omega arith)
    ∙ rw (append_snoc w b (over t o)) (ap (λ (k : ℕ). record { bytes = w ++ b ∷ over t o; at = k }) (omega arith))

pub put_over : (t o : List ℕ) → length t ≤ 16777216 → length t ≤ length o
    → put_all t (record { bytes = o; at = 0 }) ≡ record { bytes = over t o; at = length t }
put_over t o h l = put-behind t [] o (omega arith) l ∙ ap (λ (k : ℕ). record { bytes = over t o; at = k }) (omega arith)

-- ---- numbers

pub small_is : (n : ℕ) → n < origin → small n ≡ n
small_is n h = rw (lt-ltb n origin h)

pub small-most : (n : ℕ) → small n < origin
small-most n = if_on (λ (k : ℕ). k < origin) (ltb n origin) n 0 (λ e. ltb-true n origin e) (λ e. omega arith)

pub signed-near : (n : ℕ) → near n ≡ true → signed_small n ≡ signed_decimal n
unfolding signed_small signed_decimal
signed-near n h =
    let b : (origin - most ≤ n) × (n ≤ origin + most) = near_bounds n h in
    on (ltb n origin)
    (λ e. rw (e, small_is (origin - n) (omega arith)))
    (λ e. rw (e, small_is (n - origin) (omega arith)))
