-- A refusal's number is one of the table's: it is one for which the table has an offset.
use Prim.Native.Nat.{ℕ, ◌<◌, ◌≤◌}
use native.Mathlib.Omega.{arith}
use mathlib.Core.List.{List}
use mathlib.Core.Logic.{◌⊎◌, inl, inr}
use mathlib.Core.Path.{◌≡◌, subst}
use borrow.Author.Tests.{ltb-true, ltb-false}
use lib.Dec.{ltb}
use Rattle.rules.specs.Answers.{not_found, find}
use Rattle.laws.proofs.Cases.{on}
use Rattle.laws_offsets.specs.Offsets.{InTableTo}
use Rattle.laws_offsets.proofs.Offsets.{offsets}
use Rattle.laws_offsets.proofs.ByNumber.{read_number, find_number, by_number}
use Rattle.laws_answers.specs.Statements.{Numbers}

-- 13 is none of those before it
pub not_13 : (most : ℕ) → most ≤ 12 → InTableTo most 13 → ⊥
not_13 most l (inl h) = omega arith
not_13 most l (inr h) = omega arith

-- 1 to 14 without 14
pub less_14 : (n : ℕ) → InTableTo 14 n → (n ≡ 14 → ⊥) → InTableTo 13 n
less_14 n (inl h) k = inl (h.0, let l : n ≤ 14 = h.1 in on (ltb 13 n) (λ e. let m : 13 < n = ltb-true 13 n e in absurd (k (omega arith))) (λ e. ltb-false 13 n e))
less_14 n (inr h) k = inr h

pub numbers : Numbers
numbers = record {
  read_numbers = λ s list n at e. read_number s list n at (offsets.reads s list n at e);
  find_numbers = λ s list fl q n at e. find_number s list fl q n at (offsets.finds s list fl q n at e);
  reader = λ records entries s list n at e. (let x = by_number.reader records entries s list n at e in less_14 n x.0.number x.2);
  rewriter = λ room s list n at e. (let x = by_number.rewriter room s list n at e in less_14 n x.0.number x.2);
  finder = λ records hits s list fl q n at e. (by_number.finder records hits s list fl q n at e).number;
}

-- the finder has 13 for want of room alone
pub find-not_13 : (s list fl q : List ℕ) (n at : ℕ) → find s list fl q ≡ not_found n at → n ≡ 13 → ⊥
find-not_13 s list fl q n at e k = go (numbers.find_numbers s list fl q n at e)
  where
    go : InTableTo 12 n ⊎ (n ≡ 14) → ⊥
    go (inl h) = not_13 12 (omega arith) (subst (InTableTo 12) k h)
    go (inr h) = omega arith
