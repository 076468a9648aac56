-- The acts of the house spelling of good commands are good: each is scanned as it is written.
use Rattle.std.specs.Prelude.{if◌then◌else◌}
use Prim.Native.Nat.{ℕ, ◌+◌, ◌*◌, ◌-◌, ◌≤◌, ◌<◌}
use native.Mathlib.Omega.{arith}
use mathlib.Core.Bool.{Bool, true, false}
use mathlib.Core.List.{List, [], ◌∷◌, ◌++◌}
use mathlib.Core.Option.{Option, none, some}
use mathlib.Core.Path.{◌≡◌, refl}
use lib.Dec.{ltb, eqb}
use borrow.Author.Tests.{le-leb, ltb-true}
use Rattle.rules.specs.Bytes.{is_not_white, is_clear, origin, most, near}
use Rattle.rules.specs.Act.{Axis, across, down, Act, glyph, index, to, by, page, font, size, colour, break, space, draw, device, resolution, init, file, mount, plain, raw, stop, Cmd, just, word, pair}
use Rattle.rules.specs.Drawing.{Way, way_of}
use Rattle.rules.specs.Scan.{Cmds, done, wrong, next, bare}
use Rattle.rules.specs.Widths.{Widths, Font, width_of}
use Rattle.rules.specs.State.{Spot, get, put, fits_all, plus_all, may_go, spot_after, filled, fits, plus, with_font, recorded, indexed, mounted_at, is_mounted, Env, set_spot, set_font, set_fill_paint, Glyph, Item, item_at, Step, refused, went, before, and_then, on_page, due, effect, act, run, Acts, no_acts, these, perform, ready, byte_acts, word_acts, word_in, acts}
use Rattle.rules.specs.House.{Manner, anchored, floating, turning, moving, manner, moves, kept, pen, onward, house, play_on, played}
use Rattle.laws.proofs.Cases.{All, on, and_left, and_right}
use Rattle.laws.proofs.Clear.{clear_one, clear_rest}
use Rattle.laws.proofs.Good.{Good, AllActs, AllGood, GoodCmd, AllCmds}

-- ---- every place is within the limit

abbrev pub Near : Spot → Type 0
Near p = (near p.h ≡ true) × (near p.v ≡ true)

abbrev pub NearAfter : Step → Type 0
NearAfter (refused n) = Unit {0}
NearAfter (went e gs is) = Near e.spot

abbrev pub Steady : Act → Type 0
Steady a = (e : Env) → Near e.spot → NearAfter (act e a)

if_near : (b : Bool) (x : Step) (n : ℕ) → (b ≡ true → NearAfter x) → NearAfter (if b then x else refused n)
if_near true x n f = f refl
if_near false x n f = tt

near_of : (x : ℕ) → 1 ≤ x → x ≤ origin + most → near x ≡ true
near_of x l g = rw (le-leb (origin - most) x (omega arith), le-leb x (origin + most) g)

fits-near : (x n : ℕ) → fits x n ≡ true → near (plus x n) ≡ true
fits-near x n h =
    let l : origin < x + n = ltb-true origin (x + n) (and_left (ltb origin (x + n)) (ltb (x + n) (3 * origin)) h) in
    let g : x + n < 3 * origin = ltb-true (x + n) (3 * origin) (and_right (ltb origin (x + n)) (ltb (x + n) (3 * origin)) h) in
    near_of (x + n - origin) (omega arith) (omega arith)

all_near : (k x n : ℕ) → fits_all k x n ≡ true → near (plus_all k x n) ≡ true
all_near k x n h =
    let l : k * origin < x + n = ltb-true (k * origin) (x + n) (and_left (ltb (k * origin) (x + n)) (ltb (x + n) (k * origin + 2 * origin)) h) in
    let g : x + n < k * origin + 2 * origin = ltb-true (x + n) (k * origin + 2 * origin) (and_right (ltb (k * origin) (x + n)) (ltb (x + n) (k * origin + 2 * origin)) h) in
    near_of (x + n - k * origin) (omega arith) (omega arith)

after_near : (p : Spot) (d : Way) → may_go p d ≡ true → Near (spot_after p d)
after_near p d k = (
  all_near d.terms p.h d.dh (and_left (fits_all d.terms p.h d.dh) (fits_all d.terms p.v d.dv) k),
  all_near d.terms p.v d.dv (and_right (fits_all d.terms p.h d.dh) (fits_all d.terms p.v d.dv) k),
)

put-near : (x : Axis) (n : ℕ) (p : Spot) → near n ≡ true → Near p → Near (put x n p)
put-near across n p h k = (h, k.1)
put-near down n p h k = (k.0, h)

by_near : (x : Axis) (n : ℕ) (e : Env) → Near e.spot → NearAfter (effect e (by x n))
by_near x n e h =
    if_near (fits (get x e.spot) n) (went (set_spot e (put x (plus (get x e.spot) n) e.spot)) [] []) 10
    (λ k. put-near x _ e.spot (fits-near (get x e.spot) n k) h)

-- without limits on the act
by_steady : (x : Axis) (n : ℕ) → Steady (by x n)
unfolding act
by_steady x n e h = if_near (on_page e) (effect e (by x n)) 7 (λ g. by_near x n e h)

font_near : (e : Env) (go : ℕ → Step) (o : Option ℕ) → ((f : ℕ) → NearAfter (go f)) → NearAfter (with_font e go o)
font_near e go none h = tt
font_near e go (some f) h = if_near (ltb 0 e.size) (go f) 8 (λ k. h f)

index-near : (e : Env) (n f : ℕ) → Near e.spot → NearAfter (indexed e n f)
index-near e n f h = on (ltb n origin) (λ k. rw k h) (λ k. rw k h)

effect-near : (a : Act) → Good a → (e : Env) → Near e.spot → NearAfter (effect e a)
effect-near (glyph n) g e h = font_near e (recorded e n 0) e.font (λ f. h)
effect-near (index n) g e h = font_near e (indexed e n) e.font (λ f. index-near e n f h)
effect-near (to x n) g e h = put-near x n e.spot (and_left (near n) true g.0) h
effect-near (by x n) g e h = by_near x n e h
effect-near (page n) g e h = (h.0, refl)
effect-near (font n) g e h = if_near (is_mounted (mounted_at (n - origin) e.mounts)) (went (set_font e (n - origin)) [] []) 8 (λ k. h)
effect-near (size n) g e h = h
effect-near (colour c ns) g e h = h
effect-near break g e h = h
effect-near space g e h = h
effect-near (draw s ns) g e h =
    if_near (may_go e.spot (way_of s ns)) (went (set_fill_paint (set_spot e (spot_after e.spot (way_of s ns))) (filled e s ns)) [] (item_at e (draw s ns) ∷ [])) 10
    (λ k. after_near e.spot (way_of s ns) k)
effect-near (device n) g e h = h
effect-near (resolution n m v) g e h = h
effect-near init g e h = h
effect-near (file n) g e h = h
effect-near (mount n m) g e h = h
effect-near (plain c ns) g e h = h
effect-near (raw t) g e h = h
effect-near stop g e h = h

-- ---- acts of good commands

-- what holds of an act if it is written
abbrev pub Written : Manner → Type 0 → Type 0
Written anchored A = A
Written floating A = A
Written turning A = A
Written moving A = Unit {0}

-- it is good if it is written, and it keeps to the limit
abbrev pub Fair : Act → Type 0
Fair a = Written (manner a) (Good a) × Steady a

abbrev pub AllFair : List Act → Type 0
AllFair xs = AllActs Fair xs

AllActs·append : (P : Act → Type 0) (xs ys : List Act) → AllActs P xs → AllActs P ys → AllActs P (xs ++ ys)
AllActs·append P [] ys h k = k
AllActs·append P (x ∷ xs) ys h k = (h.0, AllActs·append P xs ys h.1 k)

written : (m : Manner) (A : Type 0) → A → Written m A
written anchored A g = g
written floating A g = g
written turning A g = g
written moving A g = tt

fair : (a : Act) → Good a → Fair a
unfolding act
fair a g = (written (manner a) (Good a) g, λ e h. if_near (due e a) (effect e a) 7 (λ k. effect-near a g e h))

byte_good : (b : ℕ) → is_not_white b ≡ true → is_clear (b ∷ []) ≡ true → Good (glyph (b ∷ []))
byte_good b h k = (refl, record { whole = (h, tt); some = omega arith }, k)

abbrev FairActs : Acts → Type 0
FairActs (no_acts n) = Unit {0}
FairActs (these xs) = AllFair xs

word_fair : (fs : List Font) (name : List ℕ) (far : ℕ → ℕ) (bs : List ℕ) → All is_not_white bs → is_clear bs ≡ true → FairActs (word_acts fs name far bs)
unfolding word_acts
word_fair fs name far [] h c = tt
word_fair fs name far (b ∷ bs) h c = go (width_of name b fs) (word_acts fs name far bs) (word_fair fs name far bs h.1 (clear_rest b bs c))
  where
    go : (o : Option ℕ) (x : Acts) → FairActs x → FairActs (byte_acts b far o x)
    go none x k = tt
    go (some w) (no_acts n) k = tt
    go (some w) (these xs) k = (fair (glyph (b ∷ [])) (byte_good b h.0 (clear_one b bs c)), ((tt, by_steady across (far w)), k))

ready_fair : (e : Env) (go : ℕ → Acts) (o : Option ℕ) → ((f : ℕ) → FairActs (go f)) → FairActs (ready e go o)
ready_fair e go none h = on (on_page e) (λ k. rw k tt) (λ k. rw k tt)
ready_fair e go (some f) h = on (on_page e) (λ k. rw k (on (ltb 0 e.size) (λ j. rw j (h f)) (λ j. rw j tt))) (λ k. rw k tt)

before-near : (gs : List Glyph) (is : List Item) (x : Step) → NearAfter x → NearAfter (before gs is x)
before-near gs is (refused n) h = tt
before-near gs is (went e gs' is') h = h

run-near : (xs : List Act) (e : Env) → AllFair xs → Near e.spot → NearAfter (run e xs)
unfolding run
run-near [] e f h = h
run-near (a ∷ xs) e f h = go (act e a) (f.0.1 e h) (λ d k. run-near xs d f.1 k)
  where
    go : (x : Step) → NearAfter x → ((d : Env) → Near d.spot → NearAfter (run d xs)) → NearAfter (and_then x (λ d. run d xs))
    go (refused n) k more = tt
    go (went d gs is) k more = before-near gs is (run d xs) (more d k)

module _ (w : Widths) where
  acts_fair : (e : Env) (c : Cmd) → GoodCmd c → FairActs (acts w e c)
  acts_fair e (just a) g = (fair a g, tt)
  acts_fair e (word n bs) g = ready_fair e (word_in w e n bs) e.font (λ f. word_fair w.fonts (mounted_at f e.mounts) _ bs g.1.whole g.2)
  acts_fair e (pair n b) g = ready_fair e (λ f. these (by across n ∷ glyph (b ∷ []) ∷ [])) e.font (λ f. ((tt, by_steady across n), (fair (glyph (b ∷ [])) (byte_good b g.1.0 g.2), tt)))

  -- running them keeps every place within the limit
  pub perform-near : (e : Env) (c : Cmd) → GoodCmd c → Near e.spot → NearAfter (perform e (acts w e c))
  perform-near e c g h = all (acts w e c) (acts_fair e c g)
    where
      all : (x : Acts) → FairActs x → NearAfter (perform e x)
      all (no_acts n) f = tt
      all (these xs) f = run-near xs e f h

  pub played_fair : (cs : Cmds) (e : Env) → AllCmds cs → AllFair (played w e (bare cs))
  unfolding played
  played_fair (done at) e g = tt
  played_fair (wrong n at k) e g = tt
  played_fair (next c at a l more) e g = all (acts w e c) (acts_fair e c g.0) (λ d. played_fair more d g.1)
    where
      some_of : (x : Step) → ((d : Env) → AllFair (played w d (bare more))) → AllFair (onward (λ d. played w d (bare more)) x)
      some_of (refused n) f = tt
      some_of (went d gs is) f = f d

      all : (x : Acts) → FairActs x → ((d : Env) → AllFair (played w d (bare more))) → AllFair (play_on e (λ d. played w d (bare more)) x)
      all (no_acts n) h f = tt
      all (these xs) h f = AllActs·append Fair xs (onward (λ d. played w d (bare more)) (run e xs)) h (some_of (run e xs) f)

-- ---- the spelling

-- what holds of `H` and `V` within the limit, and of every good act that is written, holds of every act of the spelling
module _ (P : Act → Type 0) (t : (x : Axis) (n : ℕ) → near n ≡ true → P (to x n)) (w : (a : Act) → Written (manner a) (Good a) → Written (manner a) (P a)) where
  moves_all : (p q : Spot) → Near q → AllActs P (moves p q)
  moves_all p q h =
      on (eqb q.h p.h)
      (λ c. on (eqb q.v p.v) (λ d. rw (c, d) tt) (λ d. rw (c, d) (t down q.v h.1, tt)))
      (λ c. on (eqb q.v p.v) (λ d. rw (c, d) (t across q.h h.0, tt)) (λ d. rw (c, d) (t across q.h h.0, (t down q.v h.1, tt))))

  kept_all : (m : Manner) (p q : Spot) (a : Act) → Near q → Written m (P a) → AllActs P (kept m p q a)
  kept_all anchored p q a h g = AllActs·append P (moves p q) (a ∷ []) (moves_all p q h) (g, tt)
  kept_all floating p q a h g = (g, tt)
  kept_all turning p q a h g = (g, tt)
  kept_all moving p q a h g = tt

  pub house_all : (xs : List Act) (e : Env) (p : Spot) → AllFair xs → Near e.spot → AllActs P (house e p xs)
  unfolding house
  house_all [] e p f h = tt
  house_all (a ∷ xs) e p f h =
      AllActs·append P (kept (manner a) p e.spot a) _ (kept_all (manner a) p e.spot a h (w a f.0.0))
      (go (act e a) (f.0.1 e h) (λ d q k. house_all xs d q f.1 k))
    where
      go : (x : Step) → NearAfter x → ((d : Env) (q : Spot) → Near d.spot → AllActs P (house d q xs))
          → AllActs P (onward (λ d. house d (pen (manner a) p d.spot) xs) x)
      go (refused n) k more = tt
      go (went d gs is) k more = more d (pen (manner a) p d.spot) k

pub house_good : (xs : List Act) (e : Env) (p : Spot) → AllFair xs → Near e.spot → AllGood (house e p xs)
house_good = house_all Good (λ x n h. (rw h, tt, refl)) (λ a g. g)
