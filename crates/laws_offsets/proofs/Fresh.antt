-- Among fewer than 4,096 names some name of 12 letters is missing: a family that wants a `same` line can have one.
use Rattle.std.specs.Prelude.{if◌then◌else◌}
use Prim.Native.Nat.{ℕ, zero, suc, ◌+◌, ◌<◌, ◌≤◌}
use native.Mathlib.Omega.{arith}
use mathlib.Core.List.{List, [], ◌∷◌}
use mathlib.Core.Logic.{inl, inr}
use mathlib.Core.Path.{◌≡◌, refl, sym, ap}
use borrow.Author.Tests.{eqb-true, eq-eqb, ltb-true, ltb-false}
use lib.Dec.{ltb, eqb}
use lib.ListN.{length}
use Rattle.laws.specs.Barred.{Barred, NoBarred}
use Rattle.laws.proofs.Cases.{on}
use Rattle.laws_find.specs.Occurs.{Among}
use Rattle.laws_find.specs.Written.{White, NoWhite, GoodName}

-- what stands behind the byte b in the names that begin with it
abbrev tails : ℕ → List (List ℕ) → List (List ℕ)
tails b [] = []
tails b ([] ∷ ms) = tails b ms
tails b ((c ∷ m) ∷ ms) = if eqb c b then m ∷ tails b ms else tails b ms

-- no name begins with both letters
tails_few : (ms : List (List ℕ)) → length (tails 97 ms) + length (tails 98 ms) ≤ length ms
tails_few [] = omega arith
tails_few ([] ∷ ms) = omega (arith, tails_few ms)
tails_few ((c ∷ m) ∷ ms) =
    on (eqb c 97)
    (λ e. rw (eqb-true c 97 e) (omega (arith, tails_few ms)))
    (λ e. on (eqb c 98) (λ f. rw (e, f) (omega (arith, tails_few ms))) (λ f. rw (e, f) (omega (arith, tails_few ms))))

abbrev first_or : List ℕ → ℕ
first_or [] = 0
first_or (b ∷ n) = b

abbrev rest_of : List ℕ → List ℕ
rest_of [] = []
rest_of (b ∷ n) = n

among_tails : (b : ℕ) (n : List ℕ) (ms : List (List ℕ)) → Among (b ∷ n) ms → Among n (tails b ms)
among_tails b n [] h = absurd h
among_tails b n ([] ∷ ms) (inl e) = absurd (let z : suc (length n) ≡ 0 = ap length e in omega arith)
among_tails b n ([] ∷ ms) (inr h) = among_tails b n ms h
among_tails b n ((c ∷ m) ∷ ms) (inl e) = rw (eq-eqb c b (sym (ap first_or e))) (inl (ap rest_of e))
among_tails b n ((c ∷ m) ∷ ms) (inr h) = on (eqb c b) (λ e. rw e (inr (among_tails b n ms h))) (λ e. rw e (among_tails b n ms h))

-- how many names of k letters there are
abbrev power : ℕ → ℕ
power zero = 1
power (suc k) = power k + power k

-- a name of k letters that is none of these
record Missing (k : ℕ) (ms : List (List ℕ)) : Type 0 where
  name : List ℕ
  long : length name ≡ k
  no_white : NoWhite name
  no_barred : NoBarred name
  none_of : Among name ms → ⊥

letter_a : (White 97 → ⊥) × (Barred 97 → ⊥)
letter_a = (white, barred)
  where
    white : White 97 → ⊥
    white (inl h) = omega arith
    white (inr (inl h)) = omega arith
    white (inr (inr h)) = omega arith

    barred : Barred 97 → ⊥
    barred (inl h) = omega arith
    barred (inr (inl h)) = omega arith
    barred (inr (inr h)) = omega arith

letter_b : (White 98 → ⊥) × (Barred 98 → ⊥)
letter_b = (white, barred)
  where
    white : White 98 → ⊥
    white (inl h) = omega arith
    white (inr (inl h)) = omega arith
    white (inr (inr h)) = omega arith

    barred : Barred 98 → ⊥
    barred (inl h) = omega arith
    barred (inr (inl h)) = omega arith
    barred (inr (inr h)) = omega arith

behind-letter : (b k : ℕ) (ms : List (List ℕ)) → (White b → ⊥) × (Barred b → ⊥) → Missing k (tails b ms) → Missing (suc k) ms
behind-letter b k ms l m = record {
  name = b ∷ m.name;
  long = ap suc m.long;
  no_white = (l.0, m.no_white);
  no_barred = (l.1, m.no_barred);
  none_of = λ h. m.none_of (among_tails b m.name ms h);
}

missing : (k : ℕ) (ms : List (List ℕ)) → length ms < power k → Missing k ms
missing zero [] h = record { name = []; long = refl; no_white = tt; no_barred = tt; none_of = λ z. z }
missing zero (m ∷ ms) h = absurd (let z : suc (length ms) < 1 = h in omega arith)
missing (suc k) ms h =
    let p : length ms < power k + power k = h in
    on (ltb (length (tails 97 ms)) (power k))
    (λ e. behind-letter 97 k ms letter_a (missing k (tails 97 ms) (ltb-true (length (tails 97 ms)) (power k) e)))
    (λ e. behind-letter 98 k ms letter_b (missing k (tails 98 ms) (omega (arith, tails_few ms, ltb-false (length (tails 97 ms)) (power k) e))))

pub fresh : (ms : List (List ℕ)) → length ms < 4_096 → (n : List ℕ) × GoodName n × (Among n ms → ⊥)
fresh ms h =
    let m : Missing 12 ms = missing 12 ms h in
    let l : length m.name ≡ 12 = m.long in
    (m.name, record { some = omega arith; few = omega arith; no_white = m.no_white; no_barred = m.no_barred }, m.none_of)
