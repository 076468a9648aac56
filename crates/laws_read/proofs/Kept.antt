-- The house spelling keeps every act but motions, in order.
use Prim.Native.Nat.{ℕ}
use mathlib.Core.Bool.{true}
use mathlib.Core.List.{List, [], ◌∷◌, ◌++◌, map, append_assoc, append-nil}
use mathlib.Core.Option.{Option, none, some}
use mathlib.Core.Path.{◌≡◌, refl, sym, ap, ap₂, ◌∙◌}
use lib.Dec.{ltb, eqb}
use Rattle.rules.specs.Act.{across, Act, glyph, index, to, by, page, font, size, colour, break, space, draw, device, resolution, init, file, mount, plain, raw, stop, Cmd, just, word, pair}
use Rattle.rules.specs.Widths.{Widths, Font, width_of}
use Rattle.rules.specs.State.{Spot, corner, Env, start, Step, refused, went, and_then, on_page, mounted_at, act, run, Acts, no_acts, these, ready, byte_acts, word_acts, word_in, acts, perform, steps}
use Rattle.rules.specs.House.{manner, moves, kept, pen, onward, house, play_on, played, spelling}
use Rattle.laws.proofs.Cases.{on, no, if_both}
use Rattle.laws_read.proofs.Runs.{well, well_before}
use Rattle.laws_read.proofs.Play.{acts_well, played_justs, spelling-run, spelling-read}
use Rattle.laws_read.specs.Kept.{unmoved, unmotioned, single_glyph, kept_of, all_kept}

kept_append : (xs ys : List Act) → unmotioned (xs ++ ys) ≡ unmotioned xs ++ unmotioned ys
unfolding unmotioned
kept_append [] ys = refl
kept_append (x ∷ xs) ys = rw (kept_append xs ys) (sym (append_assoc (unmoved x) (unmotioned xs) (unmotioned ys)))

-- ---- what is kept of an act

moved-kept : (p q : Spot) (a : Act) → unmotioned (moves p q ++ a ∷ []) ≡ unmoved a
unfolding unmotioned
moved-kept p q a =
    on (eqb q.h p.h)
    (λ c. on (eqb q.v p.v) (λ d. rw (c, d) (append-nil (unmoved a))) (λ d. rw (c, d) (append-nil (unmoved a))))
    (λ c. on (eqb q.v p.v) (λ d. rw (c, d) (append-nil (unmoved a))) (λ d. rw (c, d) (append-nil (unmoved a))))

kept-act : (p q : Spot) (a : Act) → unmotioned (kept (manner a) p q a) ≡ unmoved a
unfolding unmotioned
kept-act p q (glyph n) = moved-kept p q (glyph n)
kept-act p q (index n) = moved-kept p q (index n)
kept-act p q (to x n) = refl
kept-act p q (by x n) = refl
kept-act p q (page n) = refl
kept-act p q (font n) = refl
kept-act p q (size n) = refl
kept-act p q (colour c ns) = refl
kept-act p q break = refl
kept-act p q space = refl
kept-act p q (draw s ns) = moved-kept p q (draw s ns)
kept-act p q (device n) = refl
kept-act p q (resolution n h v) = refl
kept-act p q init = refl
kept-act p q (file n) = refl
kept-act p q (mount n m) = refl
kept-act p q (plain c ns) = refl
kept-act p q (raw t) = moved-kept p q (raw t)
kept-act p q stop = moved-kept p q stop

house-kept : (xs : List Act) (e : Env) (p : Spot) → well (run e xs) ≡ true → unmotioned (house e p xs) ≡ unmotioned xs
unfolding run house unmotioned
house-kept [] e p h = refl
house-kept (a ∷ xs) e p h =
    kept_append (kept (manner a) p e.spot a) _
    ∙ ap₂ (λ (l m : List Act). l ++ m) (kept-act p e.spot a) (go (act e a) (λ d r w. house-kept xs d r w) h)
  where
    go : (x : Step) → ((d : Env) (r : Spot) → well (run d xs) ≡ true → unmotioned (house d r xs) ≡ unmotioned xs) → well (and_then x (λ d. run d xs)) ≡ true
        → unmotioned (onward (λ d. house d (pen (manner a) p d.spot) xs) x) ≡ unmotioned xs
    go (refused n) more w = no w
    go (went d gs is) more w = more d (pen (manner a) p d.spot) (well_before gs is (run d xs) w)

-- ---- what is kept of a command

abbrev KeptBy : Cmd → Acts → Type 0
KeptBy c (no_acts n) = Unit {0}
KeptBy c (these xs) = unmotioned xs ≡ kept_of c

module _ (w : Widths) where
  word_kept : (n : ℕ) (fs : List Font) (name : List ℕ) (far : ℕ → ℕ) (bs : List ℕ) → KeptBy (word n bs) (word_acts fs name far bs)
  unfolding word_acts unmotioned
  word_kept n fs name far [] = refl
  word_kept n fs name far (b ∷ bs) = go (width_of name b fs) (word_acts fs name far bs) (word_kept n fs name far bs)
    where
      go : (o : Option ℕ) (x : Acts) → KeptBy (word n bs) x → KeptBy (word n (b ∷ bs)) (byte_acts b far o x)
      go none x h = tt
      go (some k) (no_acts m) h = tt
      go (some k) (these xs) h = ap (λ (l : List Act). single_glyph b ∷ l) h

  ready-kept : (e : Env) (c : Cmd) (go : ℕ → Acts) (o : Option ℕ) → ((f : ℕ) → KeptBy c (go f)) → KeptBy c (ready e go o)
  ready-kept e c go none h = if_both (KeptBy c) (on_page e) (no_acts 8) (no_acts 7) tt tt
  ready-kept e c go (some f) h = if_both (KeptBy c) (on_page e) _ (no_acts 7) (if_both (KeptBy c) (ltb 0 e.size) (go f) (no_acts 8) (h f) tt) tt

  acts-kept : (e : Env) (c : Cmd) → KeptBy c (acts w e c)
  unfolding unmotioned
  acts-kept e (just a) = append-nil (unmoved a)
  acts-kept e (word n bs) = ready-kept e (word n bs) (word_in w e n bs) e.font (λ f. word_kept n w.fonts (mounted_at f e.mounts) _ bs)
  acts-kept e (pair n b) = ready-kept e (pair n b) (λ f. these (by across n ∷ glyph (b ∷ []) ∷ [])) e.font (λ f. refl)

  played-kept : (cs : List Cmd) (e : Env) → well (steps w e cs) ≡ true → unmotioned (played w e cs) ≡ all_kept cs
  unfolding steps played unmotioned all_kept
  played-kept [] e h = refl
  played-kept (c ∷ cs) e h = all (acts w e c) (acts-kept e c) (λ d k. played-kept cs d k) h
    where
      some_of : (x : Step) → ((d : Env) → well (steps w d cs) ≡ true → unmotioned (played w d cs) ≡ all_kept cs)
          → well (and_then x (λ d. steps w d cs)) ≡ true → unmotioned (onward (λ d. played w d cs) x) ≡ all_kept cs
      some_of (refused n) more h = no h
      some_of (went d gs is) more h = more d (well_before gs is (steps w d cs) h)

      all : (x : Acts) → KeptBy c x → ((d : Env) → well (steps w d cs) ≡ true → unmotioned (played w d cs) ≡ all_kept cs)
          → well (and_then (perform e x) (λ d. steps w d cs)) ≡ true → unmotioned (play_on e (λ d. played w d cs) x) ≡ kept_of c ++ all_kept cs
      all (no_acts n) o more h = no h
      all (these xs) o more h = kept_append xs (onward (λ d. played w d cs) (run e xs)) ∙ ap₂ (λ (l m : List Act). l ++ m) o (some_of (run e xs) more h)

-- the spelling, read as commands, has the stream's acts but motions
pub spelling-kept : (w : Widths) (cs : List Cmd) → well (steps w start cs) ≡ true → unmotioned (played w start (map just (spelling w cs))) ≡ unmotioned (played w start cs)
spelling-kept w cs h =
    ap unmotioned (played_justs w (spelling w cs) start (rw (spelling-run w cs h) h)) ∙ house-kept (played w start cs) start corner (acts_well w cs h)

pub commands-kept : (w : Widths) (cs : List Cmd) → well (steps w start cs) ≡ true → all_kept (map just (spelling w cs)) ≡ all_kept cs
commands-kept w cs h =
    sym (played-kept w (map just (spelling w cs)) start (rw (spelling-read w cs h) h)) ∙ spelling-kept w cs h ∙ played-kept w cs start h
