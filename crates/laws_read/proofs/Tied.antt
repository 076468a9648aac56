-- Reading the house spelling gives what reading the stream gives, and its house spelling is itself: over acts.
use Rattle.std.specs.Prelude.{if◌then◌else◌}
use Prim.Native.Nat.{ℕ, ◌+◌, ◌-◌}
use native.Mathlib.Omega.{arith}
use mathlib.Core.Bool.{Bool, true, false}
use mathlib.Core.List.{List, [], ◌∷◌, ◌++◌, append_assoc}
use mathlib.Core.Path.{◌≡◌, refl, sym, ap, ap₂, ◌∙◌}
use lib.Dec.{eqb}
use borrow.Author.Tests.{eqb-true, eq-eqb, lt-ltb}
use Rattle.rules.specs.Bytes.{origin}
use Rattle.rules.specs.Act.{down, Act, glyph, index, to, by, page, font, size, colour, break, space, draw, device, resolution, init, file, mount, plain, raw, stop}
use Rattle.rules.specs.State.{Spot, get, put, fits, plus, mounted_at, is_mounted, Env, set_spot, set_font, Glyph, Item, Step, refused, went, before, and_then, in_body, on_page, due, effect, act, run}
use Rattle.rules.specs.House.{Manner, anchored, floating, turning, moving, manner, moves, kept, pen, onward, house}
use Rattle.laws.proofs.Cases.{on, no, if_both}
use Rattle.laws_read.proofs.Runs.{well, run-append, before_nil, well_before, one_act}

-- Behind the same acts a reader of the spelling has the same environment, but for its place p. Where no motion may be written,
-- before the first page and behind `x s`, the places are one.
abbrev pub Tied : Env → Spot → Type 0
Tied e p = on_page e ≡ false → p ≡ e.spot

-- ---- the motions that are written

module _ (e : Env) (p : Spot) where
  pub same_h : eqb e.spot.h p.h ≡ true → p.h ≡ e.spot.h
  same_h c = sym (eqb-true _ _ c)

  pub same_v : eqb e.spot.v p.v ≡ true → p.v ≡ e.spot.v
  same_v c = sym (eqb-true _ _ c)

  moves_on_page : on_page e ≡ true → run (set_spot e p) (moves p e.spot) ≡ went e [] []
  unfolding run act
  moves_on_page g =
      on (eqb e.spot.h p.h)
      (λ c. on (eqb e.spot.v p.v)
      (λ d. rw (c, d) (ap₂ (λ (x y : ℕ). went (set_spot e (record { h = x; v = y })) [] []) (same_h c) (same_v d)))
      (λ d. rw (c, d, g) (ap (λ (x : ℕ). went (set_spot e (record { h = x; v = e.spot.v })) [] []) (same_h c))))
      (λ c. on (eqb e.spot.v p.v)
      (λ d. rw (c, d, g) (ap (λ (y : ℕ). went (set_spot e (record { h = e.spot.h; v = y })) [] []) (same_v d)))
      (λ d. rw (c, d, g) (rw g)))

  pub no_moves : p ≡ e.spot → moves p e.spot ≡ []
  no_moves h = rw (h, eq-eqb e.spot.h e.spot.h refl, eq-eqb e.spot.v e.spot.v refl)

  -- they bring the reader of the spelling to the very environment of the reader of the stream
  pub moves-run : Tied e p → run (set_spot e p) (moves p e.spot) ≡ went e [] []
  unfolding run
  moves-run t =
      on (on_page e) moves_on_page (λ g. rw (no_moves (t g)) (ap (λ (q : Spot). went (set_spot e q) [] []) (t g)))

-- ---- what each manner of act comes to, one clause for each act

-- a test that comes before all else
gated : (P : Step → Type 0) (b : Bool) (x : Step) → (b ≡ true → P x) → P (refused 7) → P (if b then x else refused 7)
gated P true x f y = f refl
gated P false x f y = y

abbrev pub Facts : Manner → Env → Spot → Act → Step → Type 0
Facts m e p a (refused n) = Unit {0}
Facts anchored e p a (went e' gs is) = Unit {0}
Facts floating e p a (went e' gs is) = (act (set_spot e p) a ≡ went (set_spot e' p) gs is) × Tied e' p
Facts turning e p a (went e' gs is) = (act (set_spot e p) a ≡ went (set_spot e' (put down origin p)) gs is) × Tied e' (put down origin p)
Facts moving e p a (went e' gs is) = (set_spot e p ≡ set_spot e' p) × ([] ≡ gs) × ([] ≡ is) × Tied e' p

anchored_facts : (e : Env) (p : Spot) (a : Act) (x : Step) → Facts anchored e p a x
anchored_facts e p a (refused n) = tt
anchored_facts e p a (went e' gs is) = tt

pub early : (e : Env) (n : ℕ) → eqb e.phase n ≡ true → eqb n 3 ≡ false → on_page e ≡ false
early e n h k = rw (eqb-true e.phase n h, k)

module _ (e : Env) (p : Spot) (t : Tied e p) where
  -- an act that leaves the page, and the prologue's state
  floats : (a : Act) (x : Step) → (due e a ≡ true → Facts floating e p a x) → Facts floating e p a (if due e a then x else refused 7)
  floats a x f = gated (Facts floating e p a) (due e a) x f tt

  font_facts : (n : ℕ) (b : Bool) → is_mounted (mounted_at (n - origin) e.mounts) ≡ b → in_body e ≡ true
      → Facts floating e p (font n) (if b then went (set_font e (n - origin)) [] [] else refused 8)
  unfolding act
  font_facts n true q h = (rw (h, q), t)
  font_facts n false q h = tt

  pub facts : (a : Act) → Facts (manner a) e p a (act e a)
  unfolding act
  facts (glyph n) = anchored_facts e p (glyph n) (act e (glyph n))
  facts (index n) = anchored_facts e p (index n) (act e (index n))
  facts (to x n) = gated (Facts moving e p (to x n)) (on_page e) (effect e (to x n)) (λ h. (refl, refl, refl, λ k. no (sym k ∙ h))) tt
  facts (by x n) =
      gated (Facts moving e p (by x n)) (on_page e) (effect e (by x n))
      (λ h. if_both (Facts moving e p (by x n)) (fits (get x e.spot) n) (went (set_spot e (put x (plus (get x e.spot) n) e.spot)) [] []) (refused 10) (refl, refl, refl, λ k. no (sym k ∙ h)) tt)
      tt
  facts (page n) =
      gated (Facts turning e p (page n)) (in_body e) (effect e (page n)) (λ h. (rw h, λ k. no (sym k ∙ rw (h, lt-ltb 0 (e.ordinal + 1) (omega arith))))) tt
  facts (font n) = floats (font n) (effect e (font n)) (font_facts n (is_mounted (mounted_at (n - origin) e.mounts)) refl)
  facts (size n) = floats (size n) (effect e (size n)) (λ h. (rw h, t))
  facts (colour c ns) = floats (colour c ns) (effect e (colour c ns)) (λ h. (rw h, t))
  facts break = floats break (effect e break) (λ h. (rw h, t))
  facts space = floats space (effect e space) (λ h. (rw h, t))
  facts (draw s ns) = anchored_facts e p (draw s ns) (act e (draw s ns))
  facts (device n) = floats (device n) (effect e (device n)) (λ h. (rw h, λ k. t (early e 0 h refl)))
  facts (resolution n m v) = floats (resolution n m v) (effect e (resolution n m v)) (λ h. (rw h, λ k. t (early e 1 h refl)))
  facts init = floats init (effect e init) (λ h. (rw h, λ k. t (early e 2 h refl)))
  facts (file n) = floats (file n) (effect e (file n)) (λ h. (rw h, t))
  facts (mount n m) = floats (mount n m) (effect e (mount n m)) (λ h. (rw h, t))
  facts (plain c ns) = floats (plain c ns) (effect e (plain c ns)) (λ h. (rw h, t))
  facts (raw x) = anchored_facts e p (raw x) (act e (raw x))
  facts stop = anchored_facts e p stop (act e stop)

-- ---- one act, then the rest

module _ (e : Env) (p : Spot) (t : Tied e p) (a : Act) (e' : Env) (gs : List Glyph) (is : List Item) (q : act e a ≡ went e' gs is) where
  -- reading what is written of an act does what the act does
  pub carried : (m : Manner) → Facts m e p a (went e' gs is) → run (set_spot e p) (kept m p e.spot a) ≡ went (set_spot e' (pen m p e'.spot)) gs is
  unfolding run
  carried anchored f =
      run-append (moves p e.spot) (a ∷ []) (set_spot e p)
      ∙ ap (λ (x : Step). and_then x (λ d. run d (a ∷ []))) (moves-run e p t)
      ∙ before_nil (run e (a ∷ []))
      ∙ one_act a e e' gs is q
  carried floating f = one_act a (set_spot e p) (set_spot e' p) gs is f.0
  carried turning f = one_act a (set_spot e p) (set_spot e' (put down origin p)) gs is f.0
  carried moving f = rw (f.0, ← f.1, ← f.2)

  pub tied : (m : Manner) → Facts m e p a (went e' gs is) → Tied e' (pen m p e'.spot)
  tied anchored f = λ k. refl
  tied floating f = f.1
  tied turning f = f.1
  tied moving f = f.3

-- Reading the spelling of acts that all went well gives what reading them gives.
pub trip : (xs : List Act) (e : Env) (p : Spot) → Tied e p → well (run e xs) ≡ true → run (set_spot e p) (house e p xs) ≡ run e xs
unfolding run house
trip [] e p t h = ap (λ (q : Spot). went (set_spot e q) [] []) (t (early e 4 h refl))
trip (a ∷ xs) e p t h = go (act e a) refl (λ d r u w. trip xs d r u w) h
  where
    go : (x : Step) → act e a ≡ x → ((d : Env) (r : Spot) → Tied d r → well (run d xs) ≡ true → run (set_spot d r) (house d r xs) ≡ run d xs)
        → well (and_then x (λ e'. run e' xs)) ≡ true
        → run (set_spot e p) (kept (manner a) p e.spot a ++ onward (λ e'. house e' (pen (manner a) p e'.spot) xs) x) ≡ and_then x (λ e'. run e' xs)
    go (refused n) q more w = no w
    go (went e' gs is) q more w =
        let f : Facts (manner a) e p a (went e' gs is) = rw q at (facts e p t a) in
        run-append (kept (manner a) p e.spot a) (house e' (pen (manner a) p e'.spot) xs) (set_spot e p)
        ∙ ap (λ (x : Step). and_then x (λ d. run d (house e' (pen (manner a) p e'.spot) xs))) (carried e p t a e' gs is q (manner a) f)
        ∙ ap (before gs is) (more e' (pen (manner a) p e'.spot) (tied e p t a e' gs is q (manner a) f) (well_before gs is (run e' xs) w))

-- ---- the spelling of a spelling

module _ (e : Env) (p : Spot) (ys : List Act) where
  house_on_page : on_page e ≡ true → house (set_spot e p) p (moves p e.spot ++ ys) ≡ house e p ys
  unfolding house act
  house_on_page g =
      on (eqb e.spot.h p.h)
      (λ c. on (eqb e.spot.v p.v)
      (λ d. rw (c, d) (ap₂ (λ (x y : ℕ). house (set_spot e (record { h = x; v = y })) p ys) (same_h e p c) (same_v e p d)))
      (λ d. rw (c, d, g) (ap (λ (x : ℕ). house (set_spot e (record { h = x; v = e.spot.v })) p ys) (same_h e p c))))
      (λ c. on (eqb e.spot.v p.v)
      (λ d. rw (c, d, g) (ap (λ (y : ℕ). house (set_spot e (record { h = e.spot.h; v = y })) p ys) (same_v e p d)))
      (λ d. rw (c, d, g) (rw g)))

  -- motions that are written are not written again
  house-moves : Tied e p → house (set_spot e p) p (moves p e.spot ++ ys) ≡ house e p ys
  house-moves t = on (on_page e) house_on_page (λ g. rw (no_moves e p (t g)) (ap (λ (q : Spot). house (set_spot e q) p ys) (t g)))

module _ (e : Env) (p : Spot) (t : Tied e p) (a : Act) (e' : Env) (gs : List Glyph) (is : List Item) (q : act e a ≡ went e' gs is) (ys : List Act) where
  kept_again : (m : Manner) → manner a ≡ m → Facts m e p a (went e' gs is)
      → house (set_spot e p) p (kept m p e.spot a ++ ys) ≡ kept m p e.spot a ++ house (set_spot e' (pen m p e'.spot)) (pen m p e'.spot) ys
  unfolding house
  kept_again anchored r f =
      ap (house (set_spot e p) p) (append_assoc (moves p e.spot) (a ∷ []) ys)
      ∙ house-moves e p (a ∷ ys) t
      ∙ rw (r, q)
  kept_again floating r f = rw (r, f.0)
  kept_again turning r f = rw (r, f.0)
  kept_again moving r f = ap (λ (d : Env). house d p ys) f.0

-- The spelling of acts that all went well is spelled as it stands.
pub fixed : (xs : List Act) (e : Env) (p : Spot) → Tied e p → well (run e xs) ≡ true → house (set_spot e p) p (house e p xs) ≡ house e p xs
unfolding run house
fixed [] e p t h = refl
fixed (a ∷ xs) e p t h = go (act e a) refl (λ d r u w. fixed xs d r u w) h
  where
    go : (x : Step) → act e a ≡ x → ((d : Env) (r : Spot) → Tied d r → well (run d xs) ≡ true → house (set_spot d r) r (house d r xs) ≡ house d r xs)
        → well (and_then x (λ e'. run e' xs)) ≡ true
        → house (set_spot e p) p (kept (manner a) p e.spot a ++ onward (λ e'. house e' (pen (manner a) p e'.spot) xs) x)
        ≡ kept (manner a) p e.spot a ++ onward (λ e'. house e' (pen (manner a) p e'.spot) xs) x
    go (refused n) q more w = no w
    go (went e' gs is) q more w =
        let f : Facts (manner a) e p a (went e' gs is) = rw q at (facts e p t a) in
        kept_again e p t a e' gs is q (house e' (pen (manner a) p e'.spot) xs) (manner a) refl f
        ∙ ap (λ (l : List Act). kept (manner a) p e.spot a ++ l) (more e' (pen (manner a) p e'.spot) (tied e p t a e' gs is q (manner a) f) (well_before gs is (run e' xs) w))
