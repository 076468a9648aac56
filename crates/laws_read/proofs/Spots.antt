-- The house spelling keeps the place before each glyph, `N`, `D`, `x X` and `x s`.
use Prim.Native.Nat.{ℕ}
use mathlib.Core.Bool.{true}
use mathlib.Core.List.{List, [], ◌∷◌, ◌++◌, map, append_assoc, append-nil}
use mathlib.Core.Path.{◌≡◌, refl, sym, ap, ap₂, ◌∙◌}
use lib.Dec.{eqb}
use Rattle.rules.specs.Act.{Act, glyph, index, to, by, page, font, size, colour, break, space, draw, device, resolution, init, file, mount, plain, raw, stop, Cmd, just}
use Rattle.rules.specs.Widths.{Widths}
use Rattle.rules.specs.State.{Spot, corner, Env, start, set_spot, Glyph, Item, Step, refused, went, before, and_then, on_page, act, run, Acts, no_acts, these, acts, perform, steps}
use Rattle.rules.specs.House.{Manner, anchored, floating, turning, moving, manner, moves, kept, pen, onward, house, play_on, played, spelling}
use Rattle.laws.proofs.Cases.{on, no}
use Rattle.laws_read.proofs.Runs.{well, well_before}
use Rattle.laws_read.proofs.Tied.{Tied, Facts, facts, tied, same_h, same_v, no_moves}
use Rattle.laws_read.proofs.Play.{acts_well, played_justs, spelling-run, spelling-read}
use Rattle.laws_read.specs.Spots.{spot_before, spots_on, spots_from, spots_in, spots_of}

-- no place is told but before an act that motions are written before
abbrev Untold : Manner → Act → Type 0
Untold anchored a = Unit {0}
Untold floating a = (p : Spot) → spot_before p a ≡ []
Untold turning a = (p : Spot) → spot_before p a ≡ []
Untold moving a = (p : Spot) → spot_before p a ≡ []

untold : (a : Act) → Untold (manner a) a
untold (glyph n) = tt
untold (index n) = tt
untold (to x n) = λ p. refl
untold (by x n) = λ p. refl
untold (page n) = λ p. refl
untold (font n) = λ p. refl
untold (size n) = λ p. refl
untold (colour c ns) = λ p. refl
untold break = λ p. refl
untold space = λ p. refl
untold (draw s ns) = tt
untold (device n) = λ p. refl
untold (resolution n h v) = λ p. refl
untold init = λ p. refl
untold (file n) = λ p. refl
untold (mount n m) = λ p. refl
untold (plain c ns) = λ p. refl
untold (raw t) = tt
untold stop = tt

module _ (e : Env) (p : Spot) (ys : List Act) where
  spots_on_page : on_page e ≡ true → spots_from (set_spot e p) (moves p e.spot ++ ys) ≡ spots_from e ys
  unfolding spots_from act
  spots_on_page g =
      on (eqb e.spot.h p.h)
      (λ c. on (eqb e.spot.v p.v)
      (λ d. rw (c, d) (ap₂ (λ (x y : ℕ). spots_from (set_spot e (record { h = x; v = y })) ys) (same_h e p c) (same_v e p d)))
      (λ d. rw (c, d, g) (ap (λ (x : ℕ). spots_from (set_spot e (record { h = x; v = e.spot.v })) ys) (same_h e p c))))
      (λ c. on (eqb e.spot.v p.v)
      (λ d. rw (c, d, g) (ap (λ (y : ℕ). spots_from (set_spot e (record { h = e.spot.h; v = y })) ys) (same_v e p d)))
      (λ d. rw (c, d, g) (rw g)))

  -- the motions that are written bring the reader of the spelling to the place of the reader of the stream
  spots_moves : Tied e p → spots_from (set_spot e p) (moves p e.spot ++ ys) ≡ spots_from e ys
  spots_moves t = on (on_page e) spots_on_page (λ g. rw (no_moves e p (t g)) (ap (λ (q : Spot). spots_from (set_spot e q) ys) (t g)))

module _ (e : Env) (p : Spot) (t : Tied e p) (a : Act) (e' : Env) (gs : List Glyph) (is : List Item) (q : act e a ≡ went e' gs is) (ys : List Act) where
  spots_kept : (m : Manner) → Untold m a → Facts m e p a (went e' gs is)
      → spots_from (set_spot e p) (kept m p e.spot a ++ ys) ≡ spot_before e.spot a ++ spots_from (set_spot e' (pen m p e'.spot)) ys
  unfolding spots_from
  spots_kept anchored u f = ap (spots_from (set_spot e p)) (append_assoc (moves p e.spot) (a ∷ []) ys) ∙ spots_moves e p (a ∷ ys) t ∙ rw q
  spots_kept floating u f = rw (u p, u e.spot, f.0)
  spots_kept turning u f = rw (u p, u e.spot, f.0)
  spots_kept moving u f = rw (u e.spot) (ap (λ (d : Env). spots_from d ys) f.0)

spots_house : (xs : List Act) (e : Env) (p : Spot) → Tied e p → well (run e xs) ≡ true → spots_from (set_spot e p) (house e p xs) ≡ spots_from e xs
unfolding run house spots_from
spots_house [] e p t h = refl
spots_house (a ∷ xs) e p t h = go (act e a) refl (λ d r u w. spots_house xs d r u w) h
  where
    go : (x : Step) → act e a ≡ x → ((d : Env) (r : Spot) → Tied d r → well (run d xs) ≡ true → spots_from (set_spot d r) (house d r xs) ≡ spots_from d xs)
        → well (and_then x (λ e'. run e' xs)) ≡ true
        → spots_from (set_spot e p) (kept (manner a) p e.spot a ++ onward (λ e'. house e' (pen (manner a) p e'.spot) xs) x)
        ≡ spot_before e.spot a ++ spots_on (λ d. spots_from d xs) x
    go (refused n) q more w = no w
    go (went e' gs is) q more w =
        let f : Facts (manner a) e p a (went e' gs is) = rw q at (facts e p t a) in
        spots_kept e p t a e' gs is q (house e' (pen (manner a) p e'.spot) xs) (manner a) (untold a) f
        ∙ ap (λ (l : List Spot). spot_before e.spot a ++ l) (more e' (pen (manner a) p e'.spot) (tied e p t a e' gs is q (manner a) f) (well_before gs is (run e' xs) w))

-- ---- acts, then commands

spots_append : (xs ys : List Act) (e : Env) → spots_from e (xs ++ ys) ≡ spots_from e xs ++ spots_on (λ d. spots_from d ys) (run e xs)
unfolding spots_from run
spots_append [] ys e = refl
spots_append (a ∷ xs) ys e = go (act e a) (λ d. spots_append xs ys d)
  where
    behind : (gs : List Glyph) (is : List Item) (x : Step) → spots_on (λ d. spots_from d ys) (before gs is x) ≡ spots_on (λ d. spots_from d ys) x
    behind gs is (refused n) = refl
    behind gs is (went d gs' is') = refl

    go : (x : Step) → ((d : Env) → spots_from d (xs ++ ys) ≡ spots_from d xs ++ spots_on (λ d. spots_from d ys) (run d xs))
        → spot_before e.spot a ++ spots_on (λ d. spots_from d (xs ++ ys)) x
        ≡ (spot_before e.spot a ++ spots_on (λ d. spots_from d xs) x) ++ spots_on (λ d. spots_from d ys) (and_then x (λ d. run d xs))
    go (refused n) more = sym (append-nil (spot_before e.spot a ++ []))
    go (went d gs is) more =
        ap (λ (l : List Spot). spot_before e.spot a ++ l) (more d ∙ ap (λ (l : List Spot). spots_from d xs ++ l) (sym (behind gs is (run d xs))))
        ∙ sym (append_assoc (spot_before e.spot a) (spots_from d xs) (spots_on (λ d. spots_from d ys) (before gs is (run d xs))))

spots_played : (w : Widths) (cs : List Cmd) (e : Env) → well (steps w e cs) ≡ true → spots_from e (played w e cs) ≡ spots_of w e cs
unfolding steps played spots_from spots_of
spots_played w [] e h = refl
spots_played w (c ∷ cs) e h = all (acts w e c) (λ d k. spots_played w cs d k) h
  where
    some_of : (x : Step) → ((d : Env) → well (steps w d cs) ≡ true → spots_from d (played w d cs) ≡ spots_of w d cs)
        → well (and_then x (λ d. steps w d cs)) ≡ true → spots_on (λ d. spots_from d (onward (λ d. played w d cs) x)) x ≡ spots_on (λ d. spots_of w d cs) x
    some_of (refused n) more h = no h
    some_of (went d gs is) more h = more d (well_before gs is (steps w d cs) h)

    all : (x : Acts) → ((d : Env) → well (steps w d cs) ≡ true → spots_from d (played w d cs) ≡ spots_of w d cs)
        → well (and_then (perform e x) (λ d. steps w d cs)) ≡ true
        → spots_from e (play_on e (λ d. played w d cs) x) ≡ spots_in e x ++ spots_on (λ d. spots_of w d cs) (perform e x)
    all (no_acts n) more h = no h
    all (these xs) more h = spots_append xs (onward (λ d. played w d cs) (run e xs)) e ∙ ap (λ (l : List Spot). spots_from e xs ++ l) (some_of (run e xs) more h)

-- the spelling, read as commands, has the stream's places
pub spelling_spots : (w : Widths) (cs : List Cmd) → well (steps w start cs) ≡ true → spots_of w start (map just (spelling w cs)) ≡ spots_of w start cs
spelling_spots w cs h =
    sym (spots_played w (map just (spelling w cs)) start (rw (spelling-read w cs h) h))
    ∙ ap (spots_from start) (played_justs w (spelling w cs) start (rw (spelling-run w cs h) h))
    ∙ spots_house (played w start cs) start corner (λ k. refl) (acts_well w cs h)
    ∙ spots_played w cs start h
