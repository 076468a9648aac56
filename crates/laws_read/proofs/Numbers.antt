-- The numbers with which a command is refused by what it does: 7 to 10.
use Prim.Native.Nat.{ℕ, ◌-◌, ◌≤◌}
use native.Mathlib.Omega.{arith}
use mathlib.Core.List.{List, [], ◌∷◌}
use mathlib.Core.Option.{Option, none, some}
use lib.Dec.{ltb}
use Rattle.rules.specs.Bytes.{origin}
use Rattle.rules.specs.Act.{across, Act, glyph, index, to, by, page, font, size, colour, break, space, draw, device, resolution, init, file, mount, plain, raw, stop, Cmd, just, word, pair}
use Rattle.rules.specs.Drawing.{way_of}
use Rattle.rules.specs.Widths.{Widths, Font, width_of}
use Rattle.rules.specs.State.{get, fits, may_go, Env, Glyph, Item, Step, refused, went, before, and_then, on_page, due, with_font, recorded, indexed, mounted_at, is_mounted, effect, act, run, Acts, no_acts, these, ready, byte_acts, word_acts, word_in, acts, perform}
use Rattle.laws.proofs.Cases.{if_both}

abbrev pub FromTo : ℕ → ℕ → ℕ → Type 0
FromTo lo hi n = (lo ≤ n) × (n ≤ hi)

abbrev pub StepIn : Step → Type 0
StepIn (refused n) = FromTo 7 10 n
StepIn (went e gs xs) = Unit {0}

font_in : (e : Env) (go : ℕ → Step) (o : Option ℕ) → ((f : ℕ) → StepIn (go f)) → StepIn (with_font e go o)
font_in e go none h = omega arith
font_in e go (some f) h = if_both StepIn (ltb 0 e.size) (go f) (refused 8) (h f) (omega arith)

effect_in : (e : Env) (a : Act) → StepIn (effect e a)
effect_in e (glyph n) = font_in e (recorded e n 0) e.font (λ f. tt)
effect_in e (index n) = font_in e (indexed e n) e.font (λ f. if_both StepIn (ltb n origin) _ _ tt tt)
effect_in e (to x n) = tt
effect_in e (by x n) = if_both StepIn (fits (get x e.spot) n) _ (refused 10) tt (omega arith)
effect_in e (page n) = tt
effect_in e (font n) = if_both StepIn (is_mounted (mounted_at (n - origin) e.mounts)) _ (refused 8) tt (omega arith)
effect_in e (size n) = tt
effect_in e (colour c ns) = tt
effect_in e break = tt
effect_in e space = tt
effect_in e (draw s ns) = if_both StepIn (may_go e.spot (way_of s ns)) _ (refused 10) tt (omega arith)
effect_in e (device n) = tt
effect_in e (resolution n h v) = tt
effect_in e init = tt
effect_in e (file n) = tt
effect_in e (mount n m) = tt
effect_in e (plain c ns) = tt
effect_in e (raw t) = tt
effect_in e stop = tt

act_in : (e : Env) (a : Act) → StepIn (act e a)
unfolding act
act_in e a = if_both StepIn (due e a) (effect e a) (refused 7) (effect_in e a) (omega arith)

before_in : (gs : List Glyph) (xs : List Item) (x : Step) → StepIn x → StepIn (before gs xs x)
before_in gs xs (refused n) h = h
before_in gs xs (went e gs' xs') h = tt

then_in : (x : Step) (go : Env → Step) → StepIn x → ((e : Env) → StepIn (go e)) → StepIn (and_then x go)
then_in (refused n) go h f = h
then_in (went e gs xs) go h f = before_in gs xs (go e) (f e)

run_in : (xs : List Act) (e : Env) → StepIn (run e xs)
unfolding run
run_in [] e = tt
run_in (a ∷ xs) e = then_in (act e a) (λ e'. run e' xs) (act_in e a) (λ e'. run_in xs e')

abbrev ActsIn : Acts → Type 0
ActsIn (no_acts n) = FromTo 7 10 n
ActsIn (these xs) = Unit {0}

ready_in : (e : Env) (go : ℕ → Acts) (o : Option ℕ) → ((f : ℕ) → ActsIn (go f)) → ActsIn (ready e go o)
ready_in e go none h = if_both ActsIn (on_page e) (no_acts 8) (no_acts 7) (omega arith) (omega arith)
ready_in e go (some f) h = if_both ActsIn (on_page e) _ (no_acts 7) (if_both ActsIn (ltb 0 e.size) (go f) (no_acts 8) (h f) (omega arith)) (omega arith)

byte_acts_in : (b : ℕ) (far : ℕ → ℕ) (o : Option ℕ) (more : Acts) → ActsIn more → ActsIn (byte_acts b far o more)
byte_acts_in b far none more h = omega arith
byte_acts_in b far (some w) (no_acts n) h = h
byte_acts_in b far (some w) (these xs) h = tt

word_acts_in : (fs : List Font) (name : List ℕ) (far : ℕ → ℕ) (bs : List ℕ) → ActsIn (word_acts fs name far bs)
unfolding word_acts
word_acts_in fs name far [] = tt
word_acts_in fs name far (b ∷ bs) = byte_acts_in b far (width_of name b fs) (word_acts fs name far bs) (word_acts_in fs name far bs)

acts_in : (w : Widths) (e : Env) (c : Cmd) → ActsIn (acts w e c)
acts_in w e (just a) = tt
acts_in w e (word n bs) = ready_in e (word_in w e n bs) e.font (λ f. word_acts_in _ _ _ bs)
acts_in w e (pair n b) = ready_in e (λ f. these (by across n ∷ glyph (b ∷ []) ∷ [])) e.font (λ f. tt)

perform_in : (e : Env) (x : Acts) → ActsIn x → StepIn (perform e x)
perform_in e (no_acts n) h = h
perform_in e (these xs) h = run_in xs e

-- what a command does in an environment
pub step_in : (w : Widths) (e : Env) (c : Cmd) → StepIn (perform e (acts w e c))
step_in w e c = perform_in e (acts w e c) (acts_in w e c)
