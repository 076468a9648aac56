-- The current font stays mounted: what every command keeps.
use Rattle.std.specs.Prelude.{if◌then◌else◌}
use Prim.Native.Nat.{ℕ, ◌+◌, ◌-◌, ◌<◌, ◌≤◌}
use native.Mathlib.Omega.{arith}
use mathlib.Core.Bool.{Bool, true, false, ◌&&◌}
use mathlib.Core.List.{List, [], ◌∷◌}
use mathlib.Core.Option.{Option, none, some}
use mathlib.Core.Path.{◌≡◌, refl, ap, ◌∙◌}
use lib.Dec.{leb, ltb}
use lib.ListN.{length, set, length-set}
use lib.Seq.{get_or-set_same, get_or-set_other}
use native.Mathlib.Decide.{ℕ_discrete}
use borrow.Author.Tests.{leb-true}
use Rattle.rules.specs.Bytes.{origin, within}
use Rattle.rules.specs.Drawing.{way_of}
use Rattle.rules.specs.Scan.{is_name}
use Rattle.rules.specs.Act.{across, Act, glyph, index, to, by, page, font, size, colour, break, space, draw, device, resolution, init, file, mount, plain, raw, stop, Cmd, just, word, pair}
use Rattle.rules.specs.Widths.{Widths, Font, width_of}
use Rattle.rules.specs.State.{get, put, fits, plus, may_go, spot_after, filled, set_spot, set_font, set_fill_paint, item_at, Env, Glyph, Item, Step, refused, went, before, and_then, on_page, with_font, indexed, recorded, mounted_at, is_mounted, due, effect, act, run, Acts, no_acts, these, ready, byte_acts, word_acts, word_in, acts, perform}
use Rattle.laws.proofs.Cases.{on, and_left, and_right}
use Rattle.laws.proofs.Good.{Name, Good, GoodCmd}

pub record Held (o : Option ℕ) (ms : List (List ℕ)) : Type 0 where
  pub size : length ms ≡ 256
  pub font : (f : ℕ) → o ≡ some f → (f < 256) × (is_mounted (mounted_at f ms) ≡ true)

abbrev pub FontHeld : Env → Type 0
FontHeld e = Held e.font e.mounts

abbrev pub HeldAfter : Step → Type 0
HeldAfter (refused n) = Unit {0}
HeldAfter (went e gs is) = FontHeld e

if_held : (b : Bool) (x : Step) (n : ℕ) → (b ≡ true → HeldAfter x) → HeldAfter (if b then x else refused n)
if_held true x n f = f refl
if_held false x n f = tt

abbrev font_in : ℕ → Option ℕ → ℕ
font_in d none = d
font_in d (some f) = f

pub named_mounted : (n : List ℕ) → Name n → is_mounted n ≡ true
named_mounted [] h = absurd (let k : 0 < 0 = h.some in omega arith)
named_mounted (b ∷ n) h = refl

held_mount : (o : Option ℕ) (ms : List (List ℕ)) (i : ℕ) (m : List ℕ) → i < 256 → Name m → Held o ms → Held o (set ms i m)
held_mount o ms i m l g k = record { size = length-set ms i m ∙ k.size; font = λ f q. ((k.font f q).0, go f q (ℕ_discrete f i)) }
  where
    go : (f : ℕ) → o ≡ some f → Dec (f ≡ i) → is_mounted (mounted_at f (set ms i m)) ≡ true
    go f q (yes e) =
        let s : length ms ≡ 256 = k.size in
        rw (e, get_or-set_same ms i m [] (omega arith)) (named_mounted m g)
    go f q (no e) = rw (get_or-set_other ms i f m [] e) (k.font f q).1

pub position-small : (n : ℕ) → (leb origin n && leb n (origin + 255)) ≡ true → n - origin < 256
position-small n h = let l : n ≤ origin + 255 = leb-true n (origin + 255) (and_right (leb origin n) (leb n (origin + 255)) h) in omega arith

with_font_held : (e : Env) (go : ℕ → Step) (o : Option ℕ) → ((f : ℕ) → HeldAfter (go f)) → HeldAfter (with_font e go o)
with_font_held e go none h = tt
with_font_held e go (some f) h = if_held (ltb 0 e.size) (go f) 8 (λ k. h f)

index_held : (e : Env) (n f : ℕ) → FontHeld e → HeldAfter (indexed e n f)
index_held e n f k = on (ltb n origin) (λ z. rw z k) (λ z. rw z k)

effect_held : (a : Act) → Good a → (e : Env) → FontHeld e → HeldAfter (effect e a)
effect_held (glyph n) g e k = with_font_held e (recorded e n 0) e.font (λ f. k)
effect_held (index n) g e k = with_font_held e (indexed e n) e.font (λ f. index_held e n f k)
effect_held (to x n) g e k = k
effect_held (by x n) g e k = if_held (fits (get x e.spot) n) (went (set_spot e (put x (plus (get x e.spot) n) e.spot)) [] []) 10 (λ z. k)
effect_held (page n) g e k = k
effect_held (font n) g e k =
    if_held (is_mounted (mounted_at (n - origin) e.mounts)) (went (set_font e (n - origin)) [] []) 8 (λ z. record { size = k.size; font = λ f q. let r : n - origin ≡ f = ap (font_in 0) q in rw (← r) (position-small n (and_left (within origin (origin + 255) n) true g.0), z) })
effect_held (size n) g e k = k
effect_held (colour c ns) g e k = k
effect_held break g e k = k
effect_held space g e k = k
effect_held (draw s ns) g e k = if_held (may_go e.spot (way_of s ns)) (went (set_fill_paint (set_spot e (spot_after e.spot (way_of s ns))) (filled e s ns)) [] (item_at e (draw s ns) ∷ [])) 10 (λ z. k)
effect_held (device n) g e k = k
effect_held (resolution n h v) g e k = k
effect_held init g e k = k
effect_held (file n) g e k = k
effect_held (mount n m) g e k = held_mount e.font e.mounts (n - origin) m (position-small n (and_left (within origin (origin + 255) n) (is_name m && true) g.0)) g.1 k
effect_held (plain c ns) g e k = k
effect_held (raw t) g e k = k
effect_held stop g e k = k

-- a command of one act, a word, two digits
abbrev Holds : Act → Type 0
Holds a = (e : Env) → FontHeld e → HeldAfter (act e a)

act_held : (a : Act) → Good a → Holds a
unfolding act
act_held a g e k = if_held (due e a) (effect e a) 7 (λ z. effect_held a g e k)

by_held : (n : ℕ) → Holds (by across n)
unfolding act
by_held n e k = if_held (on_page e) (effect e (by across n)) 7 (λ z. if_held (fits (get across e.spot) n) (went (set_spot e (put across (plus (get across e.spot) n) e.spot)) [] []) 10 (λ y. k))

glyph_held : (b : ℕ) → Holds (glyph (b ∷ []))
unfolding act
glyph_held b e k = if_held (on_page e) (effect e (glyph (b ∷ []))) 7 (λ z. with_font_held e (recorded e (b ∷ []) 0) e.font (λ f. k))

abbrev AllHold : List Act → Type 0
AllHold [] = Unit {0}
AllHold (a ∷ xs) = Holds a × AllHold xs

before_held : (gs : List Glyph) (is : List Item) (x : Step) → HeldAfter x → HeldAfter (before gs is x)
before_held gs is (refused n) h = tt
before_held gs is (went e gs' is') h = h

run_held : (xs : List Act) (e : Env) → AllHold xs → FontHeld e → HeldAfter (run e xs)
unfolding run
run_held [] e f k = k
run_held (a ∷ xs) e f k = go (act e a) (f.0 e k) (λ d h. run_held xs d f.1 h)
  where
    go : (x : Step) → HeldAfter x → ((d : Env) → FontHeld d → HeldAfter (run d xs)) → HeldAfter (and_then x (λ d. run d xs))
    go (refused n) h more = tt
    go (went d gs is) h more = before_held gs is (run d xs) (more d h)

abbrev ActsHold : Acts → Type 0
ActsHold (no_acts n) = Unit {0}
ActsHold (these xs) = AllHold xs

word_hold : (fs : List Font) (name : List ℕ) (far : ℕ → ℕ) (bs : List ℕ) → ActsHold (word_acts fs name far bs)
unfolding word_acts
word_hold fs name far [] = tt
word_hold fs name far (b ∷ bs) = go (width_of name b fs) (word_acts fs name far bs) (word_hold fs name far bs)
  where
    go : (o : Option ℕ) (x : Acts) → ActsHold x → ActsHold (byte_acts b far o x)
    go none x h = tt
    go (some w) (no_acts n) h = tt
    go (some w) (these xs) h = (glyph_held b, (by_held (far w), h))

ready_hold : (e : Env) (go : ℕ → Acts) (o : Option ℕ) → ((f : ℕ) → ActsHold (go f)) → ActsHold (ready e go o)
ready_hold e go none h = on (on_page e) (λ k. rw k tt) (λ k. rw k tt)
ready_hold e go (some f) h = on (on_page e) (λ k. rw k (on (ltb 0 e.size) (λ j. rw j (h f)) (λ j. rw j tt))) (λ k. rw k tt)

acts_hold : (w : Widths) (e : Env) (c : Cmd) → GoodCmd c → ActsHold (acts w e c)
acts_hold w e (just a) g = (act_held a g, tt)
acts_hold w e (word n bs) g = ready_hold e (word_in w e n bs) e.font (λ f. word_hold w.fonts (mounted_at f e.mounts) _ bs)
acts_hold w e (pair n b) g = ready_hold e (λ f. these (by across n ∷ glyph (b ∷ []) ∷ [])) e.font (λ f. (by_held n, (glyph_held b, tt)))

pub perform_held : (w : Widths) (e : Env) (c : Cmd) → GoodCmd c → FontHeld e → HeldAfter (perform e (acts w e c))
perform_held w e c g k = all (acts w e c) (acts_hold w e c g)
  where
    all : (x : Acts) → ActsHold x → HeldAfter (perform e x)
    all (no_acts n) f = tt
    all (these xs) f = run_held xs e f k
