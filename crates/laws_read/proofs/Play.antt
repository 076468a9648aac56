-- From acts to lists of commands: the round trip of commands.
use mathlib.Core.Bool.{true}
use mathlib.Core.List.{List, [], ◌∷◌, ◌++◌, map}
use mathlib.Core.Path.{◌≡◌, refl, ap, ◌∙◌}
use Rattle.rules.specs.Act.{Act, Cmd, just}
use Rattle.rules.specs.Widths.{Widths}
use Rattle.rules.specs.State.{corner, Env, start, Step, refused, went, before, and_then, act, run, Acts, no_acts, these, acts, perform, steps}
use Rattle.rules.specs.House.{onward, play_on, played, spelling}
use Rattle.laws.proofs.Cases.{no}
use Rattle.laws_read.proofs.Runs.{well, run-append, before_nil, and_then-and_then, well_before}
use Rattle.laws_read.proofs.Tied.{trip, fixed}

module _ (w : Widths) where
  -- what the acts of commands do, the commands do
  pub play : (cs : List Cmd) (e : Env) → well (steps w e cs) ≡ true → run e (played w e cs) ≡ steps w e cs
  unfolding run steps played
  play [] e h = refl
  play (c ∷ cs) e h = all (acts w e c) (λ d k. play cs d k) h
    where
      some : (xs : List Act) (x : Step) → run e xs ≡ x → ((d : Env) → well (steps w d cs) ≡ true → run d (played w d cs) ≡ steps w d cs)
          → well (and_then x (λ e'. steps w e' cs)) ≡ true → run e (xs ++ onward (λ e'. played w e' cs) x) ≡ and_then x (λ e'. steps w e' cs)
      some xs (refused n) q more h = no h
      some xs (went e' gs is) q more h =
          run-append xs (played w e' cs) e ∙ rw q (ap (before gs is) (more e' (well_before gs is (steps w e' cs) h)))

      all : (x : Acts) → ((d : Env) → well (steps w d cs) ≡ true → run d (played w d cs) ≡ steps w d cs)
          → well (and_then (perform e x) (λ e'. steps w e' cs)) ≡ true
          → run e (play_on e (λ e'. played w e' cs) x) ≡ and_then (perform e x) (λ e'. steps w e' cs)
      all (no_acts n) more h = no h
      all (these xs) more h = some xs (run e xs) refl more h

  -- commands that are one act each
  pub justs : (xs : List Act) (e : Env) → steps w e (map just xs) ≡ run e xs
  unfolding run steps
  justs [] e = refl
  justs (a ∷ xs) e = and_then-and_then (act e a) (λ d. went d [] []) (λ d. steps w d (map just xs)) ∙ go (act e a) (λ d. justs xs d)
    where
      go : (x : Step) → ((d : Env) → steps w d (map just xs) ≡ run d xs)
          → and_then x (λ d. before [] [] (steps w d (map just xs))) ≡ and_then x (λ d. run d xs)
      go (refused n) more = refl
      go (went e' gs is) more = rw (more e') (ap (before gs is) (before_nil (run e' xs)))

  pub played_justs : (xs : List Act) (e : Env) → well (run e xs) ≡ true → played w e (map just xs) ≡ xs
  unfolding run played
  played_justs [] e h = refl
  played_justs (a ∷ xs) e h = ap (λ (l : List Act). a ∷ l) (go (act e a) (λ d k. played_justs xs d k) h)
    where
      go : (x : Step) → ((d : Env) → well (run d xs) ≡ true → played w d (map just xs) ≡ xs) → well (and_then x (λ d. run d xs)) ≡ true
          → onward (λ d. played w d (map just xs)) (and_then x (λ d. went d [] [])) ≡ xs
      go (refused n) more h = no h
      go (went e' gs is) more h = more e' (well_before gs is (run e' xs) h)

  module _ (cs : List Cmd) (h : well (steps w start cs) ≡ true) where
    pub acts_well : well (run start (played w start cs)) ≡ true
    acts_well = rw (play cs start h) h

    pub spelling-run : run start (spelling w cs) ≡ steps w start cs
    spelling-run = trip (played w start cs) start corner (λ k. refl) acts_well ∙ play cs start h

    -- The round trip of commands: glyphs, drawings and controls and the environment at the end are the same; the spelling is its own spelling.
    pub spelling-read : steps w start (map just (spelling w cs)) ≡ steps w start cs
    spelling-read = justs (spelling w cs) start ∙ spelling-run

    pub spelling_again : spelling w (map just (spelling w cs)) ≡ spelling w cs
    spelling_again =
        rw (played_justs (spelling w cs) start (rw spelling-run h)) (fixed (played w start cs) start corner (λ k. refl) acts_well)
