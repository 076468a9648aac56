-- The acts of a house spelling spare motions: each `H` and `V` goes where the reader of the spelling so far is not.
use Rattle.std.specs.Prelude.{if◌then◌else◌}
use Prim.Native.Nat.{ℕ, ◌-◌}
use mathlib.Core.Bool.{Bool, true, false}
use mathlib.Core.List.{List, [], ◌∷◌, ◌++◌, append_assoc}
use mathlib.Core.Path.{◌≡◌, refl, sym, ap, subst, ◌∙◌}
use lib.Dec.{ltb, eqb}
use borrow.Author.Tests.{eqb-true, eq-eqb}
use Rattle.rules.specs.Bytes.{origin}
use Rattle.rules.specs.Act.{Axis, across, down, Act, glyph, index, to, by, page, font, size, colour, break, space, draw, device, resolution, init, file, mount, plain, raw, stop}
use Rattle.rules.specs.State.{Spot, get, put, fits, plus, mounted_at, is_mounted, Env, set_spot, set_font, Glyph, Item, Step, refused, went, before, and_then, on_page, in_body, due, effect, act, run, stopped}
use Rattle.rules.specs.House.{Manner, anchored, floating, turning, moving, manner, moves, kept, pen, onward, house}
use Rattle.laws.proofs.Cases.{no, if_both, if_on}
use Rattle.laws_moves.specs.Sparing.{Kind, placed, mute, goes, shifts, turns, other, kind_of, is_placed, v_next, behind, Spared, After, Sparing}

-- ---- the motions before what is placed

placed-behind : (x : Axis) (a : Act) (zs : List Act) → is_placed (kind_of a) ≡ true → behind x (a ∷ zs) ≡ true
placed-behind across a zs h = go (kind_of a) h
  where
    go : (k : Kind) → is_placed k ≡ true → v_next k zs ≡ true
    go placed h = refl
    go mute h = refl
    go (goes x n) h = no h
    go shifts h = no h
    go turns h = no h
    go other h = no h
placed-behind down a zs h = h

placed_spared : (d : Env) (zs : List Act) (k : Kind) → is_placed k ≡ true → Spared d zs k
placed_spared d zs placed h = tt
placed_spared d zs mute h = tt
placed_spared d zs (goes x n) h = no h
placed_spared d zs shifts h = no h
placed_spared d zs turns h = no h
placed_spared d zs other h = no h

differs : (m n : ℕ) → eqb n m ≡ false → m ≡ n → ⊥
differs m n c h = no (sym c ∙ eq-eqb n m (sym h))

after_gate : (P : Env → Type 0) (b : Bool) (e : Env) → P e → After P (if b then went e [] [] else refused 7)
after_gate P true e h = h
after_gate P false e h = tt

module _ (e : Env) (p : Spot) (a : Act) (zs : List Act) (g : is_placed (kind_of a) ≡ true) (here : After (λ d. Sparing d zs) (act e a)) where
  -- where nothing differs, nothing is written; where one differs, that one; else both, `H` first
  moves_spare : Sparing (set_spot e p) (moves p e.spot ++ a ∷ zs)
  unfolding Sparing act
  moves_spare = both (eqb e.spot.h p.h) (eqb e.spot.v p.v) refl refl
    where
      placed_here : Sparing e (a ∷ zs)
      placed_here = (placed_spared e zs (kind_of a) g, here)

      at_v : (ys : List Act) → eqb e.spot.v p.v ≡ true → Sparing e ys → Sparing (set_spot e (record { h = e.spot.h; v = p.v })) ys
      at_v ys d s = subst (λ (y : ℕ). Sparing (set_spot e (record { h = e.spot.h; v = y })) ys) (eqb-true _ _ d) s

      at_h : (ys : List Act) → eqb e.spot.h p.h ≡ true → Sparing (set_spot e (record { h = e.spot.h; v = p.v })) ys → Sparing (set_spot e p) ys
      at_h ys c s = subst (λ (x : ℕ). Sparing (set_spot e (record { h = x; v = p.v })) ys) (eqb-true _ _ c) s

      to_v : eqb e.spot.v p.v ≡ false → Sparing (set_spot e (record { h = e.spot.h; v = p.v })) (to down e.spot.v ∷ a ∷ zs)
      to_v d = ((differs p.v e.spot.v d, g), after_gate (λ b. Sparing b (a ∷ zs)) (on_page e) e placed_here)

      to_h : (ys : List Act) → eqb e.spot.h p.h ≡ false → behind across ys ≡ true → Sparing (set_spot e (record { h = e.spot.h; v = p.v })) ys
          → Sparing (set_spot e p) (to across e.spot.h ∷ ys)
      to_h ys c b s = ((differs p.h e.spot.h c, b), after_gate (λ d. Sparing d ys) (on_page e) (set_spot e (record { h = e.spot.h; v = p.v })) s)

      both : (b c : Bool) → eqb e.spot.h p.h ≡ b → eqb e.spot.v p.v ≡ c
          → Sparing (set_spot e p) (((if b then [] else to across e.spot.h ∷ []) ++ (if c then [] else to down e.spot.v ∷ [])) ++ a ∷ zs)
      both true true c d = at_h (a ∷ zs) c (at_v (a ∷ zs) d placed_here)
      both true false c d = at_h (to down e.spot.v ∷ a ∷ zs) c (to_v d)
      both false true c d = to_h (a ∷ zs) c (placed-behind across a zs g) (at_v (a ∷ zs) d placed_here)
      both false false c d = to_h (to down e.spot.v ∷ a ∷ zs) c g (to_v d)

-- ---- what each manner of act comes to, one clause for each act

-- a reader at p does the same, both go on as m says, and `x s` has not come
abbrev pub Same : Env → Spot → (Spot → Spot) → Act → Step → Type 0
Same e p m a (refused n) = Unit {0}
Same e p m a (went d gs is) = (act (set_spot e p) a ≡ went (set_spot d (m p)) gs is) × (d.spot ≡ m e.spot) × (stopped d ≡ false)

abbrev pub stays : Spot → Spot
stays p = p

abbrev pub top : Spot → Spot
top p = put down origin p

abbrev pub Keeps : Env → Spot → Step → Type 0
Keeps e p (refused n) = Unit {0}
Keeps e p (went d gs is) = set_spot e p ≡ set_spot d p

-- it is no motion
abbrev pub Free : Act → Type 0
Free a = (d : Env) (zs : List Act) → Spared d zs (kind_of a)

abbrev pub Facts : Manner → Env → Spot → Act → Step → Type 0
Facts anchored e p a x = is_placed (kind_of a) ≡ true
Facts floating e p a x = Free a × Same e p stays a x
Facts turning e p a x = Free a × Same e p top a x
Facts moving e p a x = Keeps e p x

pub not_stopped : (e : Env) (n : ℕ) → eqb e.phase n ≡ true → eqb n 4 ≡ false → stopped e ≡ false
not_stopped e n h k = rw (eqb-true e.phase n h, k)

gated : (P : Step → Type 0) (b : Bool) (x : Step) → (b ≡ true → P x) → P (refused 7) → P (if b then x else refused 7)
gated P b x f y = if_on P b x (refused 7) f (λ k. y)

module _ (e : Env) (p : Spot) where
  floats : (a : Act) → Free a → (due e a ≡ true → Same e p stays a (effect e a)) → Facts floating e p a (act e a)
  unfolding act
  floats a r f = (r, gated (Same e p stays a) (due e a) (effect e a) f tt)

  to_font : (n : ℕ) (b : Bool) → is_mounted (mounted_at (n - origin) e.mounts) ≡ b → in_body e ≡ true
      → Same e p stays (font n) (if b then went (set_font e (n - origin)) [] [] else refused 8)
  unfolding act
  to_font n true q h = (rw (h, q), refl, not_stopped e 3 h refl)
  to_font n false q h = tt

  pub facts : (a : Act) → Facts (manner a) e p a (act e a)
  unfolding act
  facts (glyph n) = refl
  facts (index n) = if_both (λ (k : Kind). is_placed k ≡ true) (ltb n origin) mute placed refl refl
  facts (to x n) = gated (Keeps e p) (on_page e) (effect e (to x n)) (λ h. refl) tt
  facts (by x n) =
      gated (Keeps e p) (on_page e) (effect e (by x n))
      (λ h. if_both (Keeps e p) (fits (get x e.spot) n) (went (set_spot e (put x (plus (get x e.spot) n) e.spot)) [] []) (refused 10) refl tt)
      tt
  facts (page n) = (λ d zs. tt, gated (Same e p top (page n)) (in_body e) (effect e (page n)) (λ h. (rw h, refl, not_stopped e 3 h refl)) tt)
  facts (font n) = floats (font n) (λ d zs. tt) (to_font n (is_mounted (mounted_at (n - origin) e.mounts)) refl)
  facts (size n) = floats (size n) (λ d zs. tt) (λ h. (rw h, refl, not_stopped e 3 h refl))
  facts (colour c ns) = floats (colour c ns) (λ d zs. tt) (λ h. (rw h, refl, not_stopped e 3 h refl))
  facts break = floats break (λ d zs. tt) (λ h. (rw h, refl, not_stopped e 3 h refl))
  facts space = floats space (λ d zs. tt) (λ h. (rw h, refl, not_stopped e 3 h refl))
  facts (draw s ns) = refl
  facts (device n) = floats (device n) (λ d zs. tt) (λ h. (rw h, refl, refl))
  facts (resolution n m v) = floats (resolution n m v) (λ d zs. tt) (λ h. (rw h, refl, refl))
  facts init = floats init (λ d zs. tt) (λ h. (rw h, refl, refl))
  facts (file n) = floats (file n) (λ d zs. tt) (λ h. (rw h, refl, not_stopped e 3 h refl))
  facts (mount n m) = floats (mount n m) (λ d zs. tt) (λ h. (rw h, refl, not_stopped e 3 h refl))
  facts (plain c ns) = floats (plain c ns) (λ d zs. tt) (λ h. (rw h, refl, not_stopped e 3 h refl))
  facts (raw t) = refl
  facts stop = refl

-- ---- one act, then the rest

after_none : (x : Step) → After (λ d. Sparing d []) x
unfolding Sparing
after_none (refused n) = tt
after_none (went d gs is) = tt

module _ (e : Env) (p : Spot) (a : Act) (xs : List Act) (more : (d : Env) (q : Spot) → Sparing (set_spot d q) (house d q xs)) where
  -- what is written of the acts behind it
  abbrev rest : Manner → Step → List Act
  rest m x = onward (λ d. house d (pen m p d.spot) xs) x

  rest_spared : (x : Step) → After (λ d. Sparing d (rest anchored x)) x
  rest_spared (refused n) = tt
  rest_spared (went d gs is) = more d d.spot

  same_spared : (m : Manner) (go : Spot → Spot) (x : Step) → ((d : Env) → pen m p d.spot ≡ go p) → Same e p go a x → After (λ d. Sparing d (rest m x)) (act (set_spot e p) a)
  same_spared m go (refused n) r f = after_none (act (set_spot e p) a)
  same_spared m go (went d gs is) r f = rw (f.0, r d) (more d (go p))

  spared : (m : Manner) (x : Step) → act e a ≡ x → Facts m e p a x → Sparing (set_spot e p) (kept m p e.spot a ++ rest m x)
  unfolding Sparing
  spared anchored x q f =
      rw (append_assoc (moves p e.spot) (a ∷ []) (rest anchored x)) (moves_spare e p a (rest anchored x) f (rw q (rest_spared x)))
  spared floating x q f = (f.0 (set_spot e p) (rest floating x), same_spared floating stays x (λ d. refl) f.1)
  spared turning x q f = (f.0 (set_spot e p) (rest turning x), same_spared turning top x (λ d. refl) f.1)
  spared moving (refused n) q f = tt
  spared moving (went d gs is) q f = rw f (more d p)

-- Every motion in a house spelling goes where the reader of the spelling so far is not, and before what is placed.
pub house_spares : (xs : List Act) (e : Env) (p : Spot) → Sparing (set_spot e p) (house e p xs)
unfolding house Sparing
house_spares [] e p = tt
house_spares (a ∷ xs) e p = spared e p a xs (λ d q. house_spares xs d q) (manner a) (act e a) refl (facts e p a)

-- ---- in the midst of a spelling

abbrev did_go : Step → Bool
did_go (refused n) = false
did_go (went e gs is) = true

abbrev end_of : Env → Step → Env
end_of v (refused n) = v
end_of v (went u gs is) = u

-- with what a reader has who read all that stands before
pub sparing_at : (xs zs : List Act) (d e : Env) (gs : List Glyph) (is : List Item) → Sparing d (xs ++ zs) → run d xs ≡ went e gs is → Sparing e zs
unfolding Sparing run
sparing_at [] zs d e gs is s q = rw (← ap (end_of d) q) s
sparing_at (x ∷ xs) zs d e gs is s q = go (act d x) s.1 (λ b hs js t r. sparing_at xs zs b e hs js t r) q
  where
    back : (hs : List Glyph) (js : List Item) (y : Step) → before hs js y ≡ went e gs is
        → ((gs' : List Glyph) (is' : List Item) → y ≡ went e gs' is' → Sparing e zs) → Sparing e zs
    back hs js (refused n) r f = no (ap did_go r)
    back hs js (went u gs' is') r f = f gs' is' (ap (λ (v : Env). went v gs' is') (ap (end_of u) r))

    go : (y : Step) → After (λ b. Sparing b (xs ++ zs)) y
        → ((b : Env) (hs : List Glyph) (js : List Item) → Sparing b (xs ++ zs) → run b xs ≡ went e hs js → Sparing e zs)
        → and_then y (λ b. run b xs) ≡ went e gs is → Sparing e zs
    go (refused n) t f r = no (ap did_go r)
    go (went b hs js) t f r = back hs js (run b xs) r (λ gs' is' o. f b gs' is' t o)
