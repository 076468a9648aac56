-- Laws of runs of acts.
use mathlib.Core.Bool.{Bool, true, false}
use mathlib.Core.List.{List, [], ◌∷◌, ◌++◌, append_assoc, append-nil}
use mathlib.Core.Path.{◌≡◌, refl, sym, ap, ◌∙◌}
use Rattle.rules.specs.Act.{Act}
use Rattle.rules.specs.State.{Env, Glyph, Item, Step, refused, went, before, and_then, act, run, stopped}

-- all went well, and `x s` came
abbrev pub well : Step → Bool
well (refused n) = false
well (went e gs xs) = stopped e

pub before_nil : (x : Step) → before [] [] x ≡ x
before_nil (refused n) = refl
before_nil (went e gs xs) = refl

before-before : (gs : List Glyph) (xs : List Item) (gs' : List Glyph) (xs' : List Item) (x : Step)
    → before gs xs (before gs' xs' x) ≡ before (gs ++ gs') (xs ++ xs') x
before-before gs xs gs' xs' (refused n) = refl
before-before gs xs gs' xs' (went e gs'' xs'') = rw (append_assoc gs gs' gs'', append_assoc xs xs' xs'')

and_then-before : (gs : List Glyph) (xs : List Item) (x : Step) (go : Env → Step) → and_then (before gs xs x) go ≡ before gs xs (and_then x go)
and_then-before gs xs (refused n) go = refl
and_then-before gs xs (went e gs' xs') go = sym (before-before gs xs gs' xs' (go e))

pub and_then-and_then : (x : Step) (f g : Env → Step) → and_then (and_then x f) g ≡ and_then x (λ e. and_then (f e) g)
and_then-and_then (refused n) f g = refl
and_then-and_then (went e gs xs) f g = and_then-before gs xs (f e) g

pub run-append : (xs ys : List Act) (e : Env) → run e (xs ++ ys) ≡ and_then (run e xs) (λ e'. run e' ys)
unfolding run
run-append [] ys e = sym (before_nil (run e ys))
run-append (a ∷ xs) ys e = go (λ e'. run-append xs ys e') (act e a)
  where
    go : ((e' : Env) → run e' (xs ++ ys) ≡ and_then (run e' xs) (λ e''. run e'' ys)) → (s : Step)
        → and_then s (λ e'. run e' (xs ++ ys)) ≡ and_then (and_then s (λ e'. run e' xs)) (λ e'. run e' ys)
    go more (refused n) = refl
    go more (went e' gs is) = ap (before gs is) (more e') ∙ sym (and_then-before gs is (run e' xs) (λ e'. run e' ys))

pub well_before : (gs : List Glyph) (xs : List Item) (x : Step) → well (before gs xs x) ≡ true → well x ≡ true
well_before gs xs (refused n) h = h
well_before gs xs (went e gs' xs') h = h

pub one_act : (a : Act) (e e' : Env) (gs : List Glyph) (xs : List Item) → act e a ≡ went e' gs xs → run e (a ∷ []) ≡ went e' gs xs
unfolding run
one_act a e e' gs xs q = rw (q, append-nil gs, append-nil xs)
