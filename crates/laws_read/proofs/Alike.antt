-- What finding sees of the records of commands that all went well is told by their outline.
use Rattle.std.specs.Prelude.{if◌then◌else◌}
use Prim.Native.Nat.{ℕ, ◌-◌}
use mathlib.Core.Bool.{Bool, true, false}
use mathlib.Core.List.{List, [], ◌∷◌, ◌++◌, map, map-append, append_assoc, append-nil}
use mathlib.Core.Option.{Option, none, some}
use mathlib.Core.Path.{◌≡◌, refl, sym, ap, ap₂, subst, ◌∙◌}
use lib.Dec.{ltb}
use Rattle.rules.specs.Bytes.{origin}
use Rattle.rules.specs.Act.{across, Act, glyph, index, to, by, page, font, size, colour, break, space, draw, device, resolution, init, file, mount, plain, raw, stop, Cmd, just, word, pair}
use Rattle.rules.specs.Drawing.{way_of}
use Rattle.rules.specs.Widths.{Widths, Font, width_of}
use Rattle.rules.specs.State.{get, put, fits, plus, may_go, spot_after, filled, with_font, recorded, indexed, mounted_at, is_mounted, Env, start, set_spot, set_font, set_fill_paint, Glyph, Item, item_at, Step, refused, went, before, and_then, on_page, due, effect, act, run, Acts, no_acts, these, ready, byte_acts, word_acts, word_in, acts, perform, steps}
use Rattle.rules.specs.House.{onward, play_on, played}
use Rattle.rules.specs.Find.{Key, key}
use Rattle.laws.proofs.Cases.{on, no}
use Rattle.laws_read.proofs.Runs.{well, well_before}
use Rattle.laws_read.proofs.Play.{play}
use Rattle.laws_read.specs.Outline.{Sign, signs, byte_sign, signs_of, outline, outline_acts, keys_from}

-- ---- one act

abbrev pub glyphs_of : Step → List Glyph
glyphs_of (refused n) = []
glyphs_of (went e gs is) = gs

-- what went so has these signs, whatever comes behind it
abbrev pub ShownBy : Env → List Sign → Step → Type 0
ShownBy e ls (refused n) = Unit {0}
ShownBy e ls (went e' gs is) = (ms : List Sign) → map key gs ++ keys_from e'.ordinal e'.gap ms ≡ keys_from e.ordinal e.gap (ls ++ ms)

abbrev Shown : Env → Act → Step → Type 0
Shown e a x = ShownBy e (signs a) x

if_shown : (e : Env) (a : Act) (b : Bool) (x : Step) (n : ℕ) → (b ≡ true → Shown e a x) → Shown e a (if b then x else refused n)
if_shown e a true x n f = f refl
if_shown e a false x n f = tt

module _ (e : Env) where
  with_font_lem : (a : Act) (go : ℕ → Step) (o : Option ℕ) → ((f : ℕ) → Shown e a (go f)) → Shown e a (with_font e go o)
  with_font_lem a go none h = tt
  with_font_lem a go (some f) h = if_shown e a (ltb 0 e.size) (go f) 8 (λ k. h f)

  by_index : (n f : ℕ) → Shown e (index n) (indexed e n f)
  unfolding keys_from
  by_index n f = on (ltb n origin) (λ k. rw k (λ ms. refl)) (λ k. rw k (λ ms. refl))

  effect-shown : (a : Act) → Shown e a (effect e a)
  unfolding keys_from
  effect-shown (glyph n) = with_font_lem (glyph n) (recorded e n 0) e.font (λ f ms. refl)
  effect-shown (index n) = with_font_lem (index n) (indexed e n) e.font (by_index n)
  effect-shown (to x n) = λ ms. refl
  effect-shown (by x n) = if_shown e (by x n) (fits (get x e.spot) n) (went (set_spot e (put x (plus (get x e.spot) n) e.spot)) [] []) 10 (λ k ms. refl)
  effect-shown (page n) = λ ms. refl
  effect-shown (font n) = if_shown e (font n) (is_mounted (mounted_at (n - origin) e.mounts)) (went (set_font e (n - origin)) [] []) 8 (λ k ms. refl)
  effect-shown (size n) = λ ms. refl
  effect-shown (colour c ns) = λ ms. refl
  effect-shown break = λ ms. refl
  effect-shown space = λ ms. refl
  effect-shown (draw s ns) =
      if_shown e (draw s ns) (may_go e.spot (way_of s ns)) (went (set_fill_paint (set_spot e (spot_after e.spot (way_of s ns))) (filled e s ns)) [] (item_at e (draw s ns) ∷ [])) 10 (λ k ms. refl)
  effect-shown (device n) = λ ms. refl
  effect-shown (resolution n h v) = λ ms. refl
  effect-shown init = λ ms. refl
  effect-shown (file n) = λ ms. refl
  effect-shown (mount n m) = λ ms. refl
  effect-shown (plain c ns) = λ ms. refl
  effect-shown (raw t) = λ ms. refl
  effect-shown stop = λ ms. refl

  act-shown : (a : Act) → Shown e a (act e a)
  unfolding act
  act-shown a = if_shown e a (due e a) (effect e a) 7 (λ k. effect-shown a)

-- ---- acts, then commands

run-shown : (xs : List Act) (e : Env) → ShownBy e (outline_acts xs) (run e xs)
unfolding run outline_acts
run-shown [] e = λ ms. refl
run-shown (a ∷ xs) e = go (act e a) (act-shown e a) (λ d. run-shown xs d)
  where
    after : (d : Env) (gs : List Glyph) (is : List Item) → ShownBy e (signs a) (went d gs is) → (x : Step) → ShownBy d (outline_acts xs) x → ShownBy e (signs a ++ outline_acts xs) (before gs is x)
    after d gs is s (refused n) k = tt
    after d gs is s (went d' gs' is') k = λ ms.
        ap (λ (l : List Key). l ++ keys_from d'.ordinal d'.gap ms) (map-append key gs gs')
        ∙ append_assoc (map key gs) (map key gs') (keys_from d'.ordinal d'.gap ms)
        ∙ ap (λ (l : List Key). map key gs ++ l) (k ms)
        ∙ s (outline_acts xs ++ ms)
        ∙ ap (keys_from e.ordinal e.gap) (sym (append_assoc (signs a) (outline_acts xs) ms))

    go : (x : Step) → ShownBy e (signs a) x → ((d : Env) → ShownBy d (outline_acts xs) (run d xs)) → ShownBy e (signs a ++ outline_acts xs) (and_then x (λ d. run d xs))
    go (refused n) s more = tt
    go (went d gs is) s more = after d gs is s (run d xs) (more d)

-- with nothing behind it
pub shown_keys : (e : Env) (ls : List Sign) (d : Env) (gs : List Glyph) (is : List Item) → ShownBy e ls (went d gs is) → map key gs ≡ keys_from e.ordinal e.gap ls
unfolding keys_from
shown_keys e ls d gs is s = sym (append-nil (map key gs)) ∙ s [] ∙ ap (keys_from e.ordinal e.gap) (append-nil ls)

pub keys_of_acts : (xs : List Act) (e : Env) → well (run e xs) ≡ true → map key (glyphs_of (run e xs)) ≡ keys_from e.ordinal e.gap (outline_acts xs)
keys_of_acts xs e h = go (run e xs) (run-shown xs e) h
  where
    go : (x : Step) → ShownBy e (outline_acts xs) x → well x ≡ true → map key (glyphs_of x) ≡ keys_from e.ordinal e.gap (outline_acts xs)
    go (refused n) s h = no h
    go (went d gs is) s h = shown_keys e (outline_acts xs) d gs is s

outline-append : (xs ys : List Act) → outline_acts (xs ++ ys) ≡ outline_acts xs ++ outline_acts ys
unfolding outline_acts
outline-append [] ys = refl
outline-append (x ∷ xs) ys = rw (outline-append xs ys) (sym (append_assoc (signs x) (outline_acts xs) (outline_acts ys)))

-- the acts of a command have its outline
abbrev Outlined : Cmd → Acts → Type 0
Outlined c (no_acts n) = Unit {0}
Outlined c (these xs) = outline_acts xs ≡ signs_of c

module _ (w : Widths) where
  word_outlined : (n : ℕ) (fs : List Font) (name : List ℕ) (far : ℕ → ℕ) (bs : List ℕ) → Outlined (word n bs) (word_acts fs name far bs)
  unfolding word_acts outline_acts
  word_outlined n fs name far [] = refl
  word_outlined n fs name far (b ∷ bs) = go (width_of name b fs) (word_acts fs name far bs) (word_outlined n fs name far bs)
    where
      go : (o : Option ℕ) (x : Acts) → Outlined (word n bs) x → Outlined (word n (b ∷ bs)) (byte_acts b far o x)
      go none x h = tt
      go (some k) (no_acts m) h = tt
      go (some k) (these xs) h = ap (λ (l : List Sign). byte_sign b ∷ l) h

  ready_outlined : (e : Env) (c : Cmd) (go : ℕ → Acts) (o : Option ℕ) → ((f : ℕ) → Outlined c (go f)) → Outlined c (ready e go o)
  ready_outlined e c go none h = on (on_page e) (λ k. rw k tt) (λ k. rw k tt)
  ready_outlined e c go (some f) h = on (on_page e) (λ k. rw k (on (ltb 0 e.size) (λ j. rw j (h f)) (λ j. rw j tt))) (λ k. rw k tt)

  acts_outlined : (e : Env) (c : Cmd) → Outlined c (acts w e c)
  unfolding outline_acts
  acts_outlined e (just a) = append-nil (signs a)
  acts_outlined e (word n bs) = ready_outlined e (word n bs) (word_in w e n bs) e.font (λ f. word_outlined n w.fonts (mounted_at f e.mounts) _ bs)
  acts_outlined e (pair n b) = ready_outlined e (pair n b) (λ f. these (by across n ∷ glyph (b ∷ []) ∷ [])) e.font (λ f. refl)

  pub step_shown : (e : Env) (c : Cmd) → ShownBy e (signs_of c) (perform e (acts w e c))
  step_shown e c = go (acts w e c) (acts_outlined e c)
    where
      go : (x : Acts) → Outlined c x → ShownBy e (signs_of c) (perform e x)
      go (no_acts n) o = tt
      go (these xs) o = subst (λ (ls : List Sign). ShownBy e ls (run e xs)) o (run-shown xs e)

  pub outline-played : (cs : List Cmd) (e : Env) → well (steps w e cs) ≡ true → outline_acts (played w e cs) ≡ outline cs
  unfolding steps played outline outline_acts
  outline-played [] e h = refl
  outline-played (c ∷ cs) e h = all (acts w e c) (acts_outlined e c) (λ d k. outline-played cs d k) h
    where
      some_of : (x : Step) → ((d : Env) → well (steps w d cs) ≡ true → outline_acts (played w d cs) ≡ outline cs)
          → well (and_then x (λ d. steps w d cs)) ≡ true → outline_acts (onward (λ d. played w d cs) x) ≡ outline cs
      some_of (refused n) more h = no h
      some_of (went d gs is) more h = more d (well_before gs is (steps w d cs) h)

      all : (x : Acts) → Outlined c x → ((d : Env) → well (steps w d cs) ≡ true → outline_acts (played w d cs) ≡ outline cs)
          → well (and_then (perform e x) (λ d. steps w d cs)) ≡ true → outline_acts (play_on e (λ d. played w d cs) x) ≡ signs_of c ++ outline cs
      all (no_acts n) o more h = no h
      all (these xs) o more h = outline-append xs (onward (λ d. played w d cs) (run e xs)) ∙ ap₂ (λ (l m : List Sign). l ++ m) o (some_of (run e xs) more h)

  pub keys_of : (cs : List Cmd) → well (steps w start cs) ≡ true → map key (glyphs_of (steps w start cs)) ≡ keys_from 0 0 (outline cs)
  keys_of cs h =
      rw (← play w cs start h, ← outline-played cs start h) (keys_of_acts (played w start cs) start (rw (play w cs start h) h))
