-- Numbers that are moved up, as integers: their sums, and how far from 0 these are.
use Prim.Native.Nat.{ℕ, zero, suc, ◌+◌, ◌*◌, ◌-◌, ◌≤◌}
use native.Mathlib.Omega.{arith}
use mathlib.Core.Path.{◌≡◌, refl, sym, ap, ◌∙◌}
use lib.Dec.{ltb}
use lib.IntN.{ℤ, pos, neg_ℤ, nat_abs, ◌+ℤ◌, ◌-ℤ◌, +ℤ_assoc, +ℤ_comm, +ℤ_idl, +ℤ_idr, +ℤ_invr, neg_ℤ-+ℤ, -ℤ-+ℤ_cancel}
use borrow.Author.Tests.{ltb-true, ltb-false}
use Rattle.rules.specs.Bytes.{origin}
use Rattle.rules.specs.Record.{shown}
use Rattle.laws.proofs.Cases.{on}

-- how far a difference is from 0
pub abs_diff : (a c : ℕ) → nat_abs (pos a -ℤ pos c) ≡ (a - c) + (c - a)
abs_diff a zero = omega arith
abs_diff a (suc c) = on (ltb a (suc c)) (λ h. rw h (omega (arith, ltb-true a (suc c) h))) (λ h. rw h (omega (arith, ltb-false a (suc c) h)))

-- c and c' cancel
shuffle : (x s c c' b : ℤ) → c +ℤ c' ≡ pos 0 → (x +ℤ b) +ℤ s ≡ (x +ℤ (s +ℤ c)) +ℤ (c' +ℤ b)
shuffle x s c c' b h =
    let cancel : c +ℤ (c' +ℤ b) ≡ b = sym (+ℤ_assoc c c' b) ∙ ap (λ (z : ℤ). z +ℤ b) h ∙ +ℤ_idl b in
    +ℤ_assoc x b s ∙ ap (λ (z : ℤ). x +ℤ z) (+ℤ_comm b s ∙ ap (λ (z : ℤ). s +ℤ z) (sym cancel) ∙ sym (+ℤ_assoc s c (c' +ℤ b)))
    ∙ sym (+ℤ_assoc x (s +ℤ c) (c' +ℤ b))

-- n is moved up by c, and x by b: their sum is moved up by both
pub sum_is : (b c x n : ℕ) (s : ℤ) → pos n ≡ s +ℤ pos c → (pos x -ℤ pos b) +ℤ s ≡ pos (x + n) -ℤ pos (c + b)
sum_is b c x n s h =
    shuffle (pos x) s (pos c) (neg_ℤ (pos c)) (neg_ℤ (pos b)) (+ℤ_invr (pos c))
    ∙ ap (λ (z : ℤ). (pos x +ℤ z) +ℤ (neg_ℤ (pos c) +ℤ neg_ℤ (pos b))) (sym h)
    ∙ ap (λ (z : ℤ). pos (x + n) +ℤ z) (sym (neg_ℤ-+ℤ (pos c) (pos b)))

-- and what is left of it when c is taken away is the place moved up by b
pub place_is : (b c x n : ℕ) (s : ℤ) → pos n ≡ s +ℤ pos c → c ≤ x + n → pos (x + n - c) -ℤ pos b ≡ (pos x -ℤ pos b) +ℤ s
place_is b c x n s h l =
    let e : x + n - c + c ≡ x + n = omega arith in
    sym (+ℤ_idr (pos (x + n - c) -ℤ pos b)) ∙ sum_is b c (x + n - c) c (pos 0) (sym (+ℤ_idl (pos c)))
    ∙ ap (λ (m : ℕ). pos m -ℤ pos (c + b)) e ∙ sym (sum_is b c x n s h)

-- ---- sums of numbers that are moved up

-- n is the sum s of k numbers, each moved up
abbrev pub Sums : ℕ → ℕ → ℤ → Type 0
Sums k n s = pos n ≡ s +ℤ pos (k * origin)

pub none_sums : Sums 0 0 (pos 0)
none_sums = refl

swap : (a o s k : ℤ) → (a +ℤ o) +ℤ (s +ℤ k) ≡ (a +ℤ s) +ℤ (k +ℤ o)
swap a o s k =
    +ℤ_assoc a o (s +ℤ k) ∙ ap (λ (z : ℤ). a +ℤ z) (+ℤ_comm o (s +ℤ k) ∙ +ℤ_assoc s k o) ∙ sym (+ℤ_assoc a s (k +ℤ o))

-- one more number, moved up
pub more_sums : (k x n : ℕ) (s : ℤ) → Sums k n s → Sums (suc k) (x + n) (shown x +ℤ s)
more_sums k x n s h =
    let e : k * origin + origin ≡ suc k * origin = omega arith in
    ap (λ (z : ℤ). z +ℤ pos n) (sym (-ℤ-+ℤ_cancel (pos x) (pos origin))) ∙ ap (λ (z : ℤ). (shown x +ℤ pos origin) +ℤ z) h
    ∙ swap (shown x) (pos origin) s (pos (k * origin)) ∙ ap (λ (m : ℕ). (shown x +ℤ s) +ℤ pos m) e

-- a number alone
pub one_sums : (x : ℕ) → Sums 1 (x + 0) (shown x)
one_sums x = more_sums 0 x 0 (pos 0) none_sums ∙ ap (λ (z : ℤ). z +ℤ pos (1 * origin)) (+ℤ_idr (shown x))
