-- A number is spelt as the grammar has it: no zero leads.
use Prim.Native.Nat.{ℕ, zero, suc, ◌+◌, ◌-◌, ◌/◌, ◌%◌, ◌^◌, ◌≤◌, ◌<◌}
use native.Mathlib.Omega.{arith}
use mathlib.Core.Bool.{Bool, true}
use mathlib.Core.List.{List, [], ◌∷◌, ◌++◌}
use mathlib.Core.Path.{◌≡◌}
use lib.Dec.{ltb}
use borrow.Author.Tests.{ltb-true, ltb-false}
use Rattle.rules.specs.Bytes.{is_digit, most, origin, near}
use Rattle.rules.specs.House.{digits_of, decimal, signed_decimal}
use Rattle.laws.proofs.Cases.{on}
use Rattle.laws.proofs.Limits.{near_bounds, digit}
use Rattle.laws_house.specs.Lines.{Each, Leading, Shortest, nought, positive, negative}

-- ---- no zero leads

-- the digits of a number that is not 0
abbrev Leads : List ℕ → Type 0
Leads [] = ⊥
Leads (d ∷ ds) = Leading d ds

each_more : (p : ℕ → Bool) (l : List ℕ) (b : ℕ) → Each p l → p b ≡ true → Each p (l ++ b ∷ [])
each_more p [] b h k = (k, tt)
each_more p (x ∷ l) b h k = (h.0, each_more p l b h.1 k)

leads_one : (n : ℕ) → 1 ≤ n → n < 10 → Leads ((48 + n) ∷ [])
leads_one n p h = record { least = omega arith; most = omega arith; rest = tt }

leads_more : (l : List ℕ) (b : ℕ) → Leads l → is_digit b ≡ true → Leads (l ++ b ∷ [])
leads_more [] b h k = absurd h
leads_more (d ∷ ds) b h k = record { least = h.least; most = h.most; rest = each_more is_digit ds b h.rest k }

digits_of_leads : (f n : ℕ) → 1 ≤ n → n < 10 ^ suc f → Leads (digits_of f n)
unfolding digits_of
digits_of_leads zero n p h = leads_one n p h
digits_of_leads (suc f) n p h =
    on (ltb n 10)
    (λ e. rw e (leads_one n p (ltb-true n 10 e)))
    (λ e. let l : 10 ≤ n = ltb-false n 10 e in rw e (leads_more (digits_of f (n / 10)) (48 + n % 10) (digits_of_leads f (n / 10) (omega arith) (omega arith)) (digit (n % 10) (omega arith))))

leads_positive : (l : List ℕ) → Leads l → Shortest l
leads_positive [] h = absurd h
leads_positive (d ∷ ds) h = positive d ds h

leads_negative : (l : List ℕ) → Leads l → Shortest (45 ∷ l)
leads_negative [] h = absurd h
leads_negative (d ∷ ds) h = negative d ds h

decimal_shortest : (n : ℕ) → n ≤ most → Shortest (decimal n)
unfolding decimal digits_of
decimal_shortest zero h = nought
decimal_shortest (suc n) h = leads_positive (digits_of 7 (suc n)) (digits_of_leads 7 (suc n) (omega arith) (omega arith))

-- A number within its limit is spelt as the grammar has it.
pub signed_shortest : (n : ℕ) → near n ≡ true → Shortest (signed_decimal n)
unfolding signed_decimal decimal
signed_shortest n h =
    let b : (origin - most ≤ n) × (n ≤ origin + most) = near_bounds n h in
    on (ltb n origin)
    (λ e. let l : n < origin = ltb-true n origin e in rw e (leads_negative (digits_of 7 (origin - n)) (digits_of_leads 7 (origin - n) (omega arith) (omega arith))))
    (λ e. rw e (decimal_shortest (n - origin) (omega arith)))
