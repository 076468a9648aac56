-- Two readers of the same acts, at two places that agree but for x: where nothing tells the place, they read the same.
use Rattle.std.specs.Prelude.{if◌then◌else◌}
use Prim.Native.Nat.{ℕ}
use mathlib.Core.Bool.{Bool, true, false}
use mathlib.Core.List.{List, [], ◌∷◌}
use mathlib.Core.Logic.{◌⊎◌, inl, inr}
use mathlib.Core.Path.{◌≡◌, refl, sym, ap, subst, ◌∙◌}
use lib.Dec.{ltb}
use Rattle.rules.specs.Bytes.{origin}
use Rattle.rules.specs.Act.{Axis, across, down, Act, glyph, index, to, by, page, font, size, colour, break, space, draw, device, resolution, init, file, mount, plain, raw, stop}
use Rattle.rules.specs.State.{Spot, put, Env, set_spot, Step, refused, went, before, and_then, act, run, stopped}
use Rattle.laws.proofs.Cases.{no}
use Rattle.laws_read.proofs.Runs.{well, well_before}
use Rattle.laws_moves.specs.Sparing.{placed, mute, kind_of, Spared, After, Sparing}
use Rattle.laws_moves.proofs.Spare.{Same, stays, top, facts}
use Rattle.laws_needed.specs.Statement.{across_only, other_axis, PlaceToldBy, PlaceTold}
use Rattle.laws_needed.proofs.Leaving.{to_same, mute_same}

-- the places agree on the other axis
abbrev pub Beside : Axis → Spot → Spot → Type 0
Beside across p q = q.v ≡ p.v
Beside down p q = q.h ≡ p.h

put_beside : (x : Axis) (n : ℕ) (p q : Spot) → Beside x p q → put x n q ≡ put x n p
put_beside across n p q h = λ i. record { h = n; v = h i }
put_beside down n p q h = λ i. record { h = h i; v = n }

-- the place is told, or both read the same
abbrev pub Either : Axis → Type 0 → Env → Spot → List Act → Type 0
Either x told e q ys = told ⊎ (run (set_spot e q) ys ≡ run e ys)

abbrev pub Idle : Axis → List Act → Type 0
Idle x ys = (e : Env) (q : Spot) → Beside x e.spot q → stopped e ≡ false → Sparing e ys → well (run e ys) ≡ true → Either x (PlaceTold x ys) e q ys

module _ (x : Axis) (b : Act) (ys : List Act) where
  abbrev IdleOn : Type 0 → Type 0
  IdleOn told = (e : Env) (q : Spot) → Beside x e.spot q → After (λ d. Sparing d ys) (act e b) → well (run e (b ∷ ys)) ≡ true → Either x told e q (b ∷ ys)

  -- passed by
  passes : (m : Spot → Spot) → ((p q : Spot) → Beside x p q → Beside x (m p) (m q)) → ((e : Env) (q : Spot) → Same e q m b (act e b)) → Idle x ys → IdleOn (PlaceTold x ys)
  unfolding run
  passes m w f more e q k s g = go (act e b) (f e q) s g
    where
      go : (z : Step) → Same e q m b z → After (λ d. Sparing d ys) z → well (and_then z (λ d. run d ys)) ≡ true
          → PlaceTold x ys ⊎ (and_then (act (set_spot e q) b) (λ d. run d ys) ≡ and_then z (λ d. run d ys))
      go (refused n) f s g = no g
      go (went d gs is) f s g = on_to (more d (m q) (subst (λ (p : Spot). Beside x p (m q)) (sym f.1) (w e.spot q k)) f.2 s (well_before gs is (run d ys) g))
        where
          on_to : PlaceTold x ys ⊎ (run (set_spot d (m q)) ys ≡ run d ys) → PlaceTold x ys ⊎ (and_then (act (set_spot e q) b) (λ u. run u ys) ≡ before gs is (run d ys))
          on_to (inl t) = inl t
          on_to (inr h) = inr (rw f.0 (ap (before gs is) h))

  -- both are at one place behind it
  meets : (m : Spot → Spot) → ((p q : Spot) → Beside x p q → m q ≡ m p) → ((e : Env) (q : Spot) → Same e q m b (act e b)) → IdleOn ⊥
  unfolding run
  meets m w f e q k s g = inr (go (act e b) (f e q) g)
    where
      go : (z : Step) → Same e q m b z → well (and_then z (λ d. run d ys)) ≡ true → and_then (act (set_spot e q) b) (λ d. run d ys) ≡ and_then z (λ d. run d ys)
      go (refused n) f g = no g
      go (went d gs is) f g = rw f.0 (ap (λ (p : Spot). before gs is (run (set_spot d p) ys)) (w e.spot q k ∙ sym f.1))

to_idle : (x y : Axis) (n : ℕ) (ys : List Act) → Idle x ys → IdleOn x (to y n) ys (other_axis x y (PlaceTold x ys))
to_idle across across n ys more = meets across (to across n) ys (put across n) (put_beside across n) (to_same across n)
to_idle across down n ys more = passes across (to down n) ys (put down n) (λ p q k. refl) (to_same down n) more
to_idle down across n ys more = passes down (to across n) ys (put across n) (λ p q k. refl) (to_same across n) more
to_idle down down n ys more = meets down (to down n) ys (put down n) (put_beside down n) (to_same down n)

page_idle : (x : Axis) (n : ℕ) (ys : List Act) → Idle x ys → IdleOn x (page n) ys (across_only x (PlaceTold x ys))
page_idle across n ys more = passes across (page n) ys top (λ p q k. refl) (λ e q. (facts e q (page n)).1) more
page_idle down n ys more = meets down (page n) ys top (put_beside down origin) (λ e q. (facts e q (page n)).1)

index_idle : (x : Axis) (n : ℕ) (ys : List Act) → Idle x ys → (b : Bool) → ltb n origin ≡ b → IdleOn x (index n) ys (PlaceToldBy x (if b then mute else placed) (PlaceTold x ys))
index_idle x n ys more true k = passes x (index n) ys stays (λ p q d. d) (mute_same n k) more
index_idle x n ys more false k = λ e q d s g. inl tt

module _ (x : Axis) (ys : List Act) (more : Idle x ys) where
  floats_on : (a : Act) → ((e : Env) (q : Spot) → Same e q stays a (act e a)) → IdleOn x a ys (PlaceTold x ys)
  floats_on a f = passes x a ys stays (λ p q k. k) f more

  act_idle : (a : Act) (e : Env) → Spared e ys (kind_of a) → (q : Spot) → Beside x e.spot q → After (λ d. Sparing d ys) (act e a) → well (run e (a ∷ ys)) ≡ true
      → Either x (PlaceToldBy x (kind_of a) (PlaceTold x ys)) e q (a ∷ ys)
  act_idle (glyph n) e p = λ q k s g. inl tt
  act_idle (index n) e p = index_idle x n ys more (ltb n origin) refl e
  act_idle (to y n) e p = to_idle x y n ys more e
  act_idle (by y n) e p = absurd p
  act_idle (page n) e p = page_idle x n ys more e
  act_idle (font n) e p = floats_on (font n) (λ e q. (facts e q (font n)).1) e
  act_idle (size n) e p = floats_on (size n) (λ e q. (facts e q (size n)).1) e
  act_idle (colour c ns) e p = floats_on (colour c ns) (λ e q. (facts e q (colour c ns)).1) e
  act_idle break e p = floats_on break (λ e q. (facts e q break).1) e
  act_idle space e p = floats_on space (λ e q. (facts e q space).1) e
  act_idle (draw s ns) e p = λ q k s g. inl tt
  act_idle (device n) e p = floats_on (device n) (λ e q. (facts e q (device n)).1) e
  act_idle (resolution n h v) e p = floats_on (resolution n h v) (λ e q. (facts e q (resolution n h v)).1) e
  act_idle init e p = floats_on init (λ e q. (facts e q init).1) e
  act_idle (file n) e p = floats_on (file n) (λ e q. (facts e q (file n)).1) e
  act_idle (mount n m) e p = floats_on (mount n m) (λ e q. (facts e q (mount n m)).1) e
  act_idle (plain c ns) e p = floats_on (plain c ns) (λ e q. (facts e q (plain c ns)).1) e
  act_idle (raw t) e p = λ q k s g. inl tt
  act_idle stop e p = λ q k s g. inl tt

pub idle : (x : Axis) (ys : List Act) → Idle x ys
unfolding Sparing PlaceTold run
idle x [] e q k n s g = no (sym n ∙ g)
idle x (a ∷ ys) e q k n s g = act_idle x ys (idle x ys) a e s.0 q k s.1 g
