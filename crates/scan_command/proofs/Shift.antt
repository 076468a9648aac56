-- Integers read from a command's place on, and from the start of the stream on: the places differ by the command's place, and
-- nothing else.
use Prim.Native.Nat.{ℕ, zero, suc, ◌+◌}
use native.Mathlib.Omega.{arith}
use mathlib.Core.List.{List, map}
use mathlib.Core.Path.{◌≡◌, refl, ap, ◌∙◌}
use lib.ListN.{drop}
use Rattle.rules.specs.Bytes.{spacer, unspaced, Num, Int, no_int, int, integer, Nums, short, nums, with_num, after_int, integers, is_present, many_integers, perhaps_integer}
use Rattle.laws.proofs.Cases.{on}

abbrev pub shifted : ℕ → Nums → Nums
shifted at short = short
shifted at (nums ns ks l t) = nums ns (map (λ (k : ℕ). at + k) ks) (at + l) t

with_num_shift : (at : ℕ) (n : Num) (k : ℕ) (x : Nums) → with_num n (at + k) (shifted at x) ≡ shifted at (with_num n k x)
with_num_shift at n k short = refl
with_num_shift at n k (nums ns ks l t) = refl

after_shift : (at k : ℕ) (r : List ℕ) (go : ℕ → List ℕ → Nums) (x : Int) → ((j : ℕ) (t : List ℕ) → go (at + j) t ≡ shifted at (go j t))
    → after_int (at + k) r go x ≡ shifted at (after_int k r go x)
after_shift at k r go no_int h = refl
after_shift at k r go (int n l) h =
    ap (with_num n (at + k)) (ap (λ (j : ℕ). go j (drop l r)) (omega arith) ∙ h (k + l) (drop l r)) ∙ with_num_shift at n k (go (k + l) (drop l r))

-- the same, with the spacer before the integer
step_shift : (at k : ℕ) (r : List ℕ) (go : ℕ → List ℕ → Nums) → ((j : ℕ) (t : List ℕ) → go (at + j) t ≡ shifted at (go j t))
    → after_int (at + k + spacer r) (unspaced r) go (integer (unspaced r)) ≡ shifted at (after_int (k + spacer r) (unspaced r) go (integer (unspaced r)))
step_shift at k r go h =
    ap (λ (j : ℕ). after_int j (unspaced r) go (integer (unspaced r))) (omega arith) ∙ after_shift at (k + spacer r) (unspaced r) go (integer (unspaced r)) h

pub integers_shift : (n at k : ℕ) (r : List ℕ) → integers n (at + k) r ≡ shifted at (integers n k r)
unfolding integers
integers_shift zero at k r = refl
integers_shift (suc n) at k r = step_shift at k r (λ j t. integers n j t) (λ j t. integers_shift n at j t)

pub many_shift : (f at k : ℕ) (r : List ℕ) → many_integers f (at + k) r ≡ shifted at (many_integers f k r)
unfolding many_integers
many_shift zero at k r = refl
many_shift (suc f) at k r =
    on (is_present (unspaced r)) (λ e. rw e (step_shift at k r (λ j t. many_integers f j t) (λ j t. many_shift f at j t))) (λ e. rw e)

pub perhaps_shift : (at k : ℕ) (r : List ℕ) → perhaps_integer (at + k) r ≡ shifted at (perhaps_integer k r)
unfolding perhaps_integer
perhaps_shift at k r = on (is_present (unspaced r)) (λ e. rw e (integers_shift 1 at k r)) (λ e. rw e)
