-- What holds behind an act, where it was not refused.
use Rattle.std.specs.Prelude.{if◌then◌else◌}
use Prim.Native.Nat.{ℕ}
use mathlib.Core.Bool.{Bool, true, false}
use mathlib.Core.List.{List, ◌++◌}
use mathlib.Core.Option.{Option, none, some}
use mathlib.Core.Path.{◌≡◌, refl}
use lib.Dec.{ltb}
use Rattle.rules.specs.Act.{Act}
use Rattle.rules.specs.State.{Env, Glyph, Item, with_font, Step, refused, went, before, and_then, due, effect, act}

abbrev pub is_refused : Step → Bool
is_refused (refused n) = true
is_refused (went e gs xs) = false

abbrev pub After : (Env → List Glyph → List Item → Type 0) → Step → Type 0
After P (refused n) = Unit {0}
After P (went e gs xs) = P e gs xs

module _ (P : Env → List Glyph → List Item → Type 0) where
  pub if_after : (b : Bool) (x : Step) (n : ℕ) → (b ≡ true → After P x) → After P (if b then x else refused n)
  if_after true x n h = h refl
  if_after false x n h = tt

  pub font_after : (e : Env) (go : ℕ → Step) (o : Option ℕ) → e.font ≡ o → ((f : ℕ) → e.font ≡ some f → After P (go f)) → After P (with_font e go o)
  font_after e go none k h = tt
  font_after e go (some f) k h = if_after (ltb 0 e.size) (go f) 8 (λ s. h f k)

  pub act_after : (e : Env) (a : Act) → After P (effect e a) → After P (act e a)
  unfolding act
  act_after e a h = if_after (due e a) (effect e a) 7 (λ d. h)

  pub behind : (e e' : Env) (gs : List Glyph) (xs : List Item) (a : Act) → After P (effect e a) → act e a ≡ went e' gs xs → P e' gs xs
  behind e e' gs xs a h k = rw k at (act_after e a h)

-- what follows from it
pub after_map : (P Q : Env → List Glyph → List Item → Type 0) (s : Step) → ((d : Env) (gs : List Glyph) (xs : List Item) → P d gs xs → Q d gs xs) → After P s → After Q s
after_map P Q (refused n) f h = tt
after_map P Q (went d gs xs) f h = f d gs xs h

-- one step and then another
pub then_after : (P : Env → List Glyph → List Item → Type 0) (s : Step) (go : Env → Step) → After (λ d gs xs. After (λ d' gs' xs'. P d' (gs ++ gs') (xs ++ xs')) (go d)) s → After P (and_then s go)
then_after P (refused n) go h = tt
then_after P (went d gs xs) go h = joined (go d) h
  where
    joined : (s : Step) → After (λ d' gs' xs'. P d' (gs ++ gs') (xs ++ xs')) s → After P (before gs xs s)
    joined (refused n) k = tt
    joined (went d' gs' xs') k = k
