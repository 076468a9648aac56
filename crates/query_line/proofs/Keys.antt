-- What stands behind a key, by the comparison that `strip_prefix` makes.
use Rattle.std.proofs.Common.{ℕ, Bool, true, false, ◌&&◌, List, [], ◌∷◌, take, drop, length, ◌≡◌, refl, nat_eq, arith, if◌then◌else◌}
use Rattle.std.proofs.Math.Option.{Option, none, some}
use Rattle.std.proofs.lemmas.Bool.Decides.{nat_tests}
use Rattle.std.specs.Cmp.Lexicographic.{pointwise}
use Rattle.rules.specs.Widths.{behind}

eqb_turn : (a b : ℕ) → nat_eq a b ≡ nat_eq b a
eqb_turn a b = grind (arith, nat_tests)

first_by : (e : Bool) (o : Option (List ℕ)) (q : Bool) (t : List ℕ) → o ≡ (if q then some t else none)
    → (if e then o else none) ≡ (if e && q then some t else none)
first_by true o q t h = h
first_by false o q t h = refl

pub behind_by : (key t : List ℕ) → behind key t ≡ (if pointwise nat_eq (take (length key) t) key then some (drop (length key) t) else none)
unfolding behind
behind_by [] t = refl
behind_by (x ∷ xs) [] = refl
behind_by (x ∷ xs) (b ∷ t) = rw (eqb_turn b x) (first_by (nat_eq x b) (behind xs t) (pointwise nat_eq (take (length xs) t) xs) (drop (length xs) t) (behind_by xs t))
