-- `x T`, `x r` and `x i` come first, in that order, and `x s` last: each command takes one phase to another.
use Prim.Native.Nat.{ℕ, ◌-◌}
use native.Mathlib.Omega.{arith}
use mathlib.Core.Bool.{Bool, true, false, ◌&&◌}
use mathlib.Core.List.{List, [], ◌∷◌, ◌++◌}
use mathlib.Core.Option.{Option, none, some}
use mathlib.Core.Path.{◌≡◌, refl, sym, ap, ◌∙◌}
use lib.Dec.{eqb, ltb}
use borrow.Author.Tests.{eqb-true}
use Rattle.rules.specs.Bytes.{origin}
use Rattle.rules.specs.Act.{across, Act, glyph, index, to, by, page, font, size, colour, break, space, draw, device, resolution, init, file, mount, plain, raw, stop, Cmd, just, word, pair}
use Rattle.rules.specs.Drawing.{way_of}
use Rattle.rules.specs.Widths.{Widths, Font, width_of}
use Rattle.rules.specs.State.{Env, Glyph, Item, Step, refused, went, before, and_then, on_page, due, get, fits, may_go, recorded, indexed, mounted_at, is_mounted, with_font, effect, act, run, start, Acts, no_acts, these, ready, byte_acts, word_acts, word_in, acts, perform, steps, stopped}
use Rattle.laws.proofs.Cases.{on, no, if_both, if_on, and_left}
use Rattle.laws.proofs.Good.{AllActs}
use Rattle.laws_offsets.specs.Frame.{Framing, x_T, x_r, x_i, x_s, NoFraming}

-- ---- the phase in which an act may stand, and the one behind it

abbrev phases : Act → ℕ × ℕ
phases (glyph n) = (3, 3)
phases (index n) = (3, 3)
phases (to x n) = (3, 3)
phases (by x n) = (3, 3)
phases (page n) = (3, 3)
phases (font n) = (3, 3)
phases (size n) = (3, 3)
phases (colour c ns) = (3, 3)
phases break = (3, 3)
phases space = (3, 3)
phases (draw s ns) = (3, 3)
phases (device n) = (0, 1)
phases (resolution n h v) = (1, 2)
phases init = (2, 3)
phases (file n) = (3, 3)
phases (mount n m) = (3, 3)
phases (plain c ns) = (3, 3)
phases (raw t) = (3, 3)
phases stop = (3, 4)

on_page_lem : (e : Env) → on_page e ≡ true → e.phase ≡ 3
on_page_lem e h = eqb-true e.phase 3 (and_left (eqb e.phase 3) (ltb 0 e.ordinal) h)

due_phase : (e : Env) (a : Act) → due e a ≡ true → e.phase ≡ (phases a).0
due_phase e (glyph n) h = on_page_lem e h
due_phase e (index n) h = on_page_lem e h
due_phase e (to x n) h = on_page_lem e h
due_phase e (by x n) h = on_page_lem e h
due_phase e (page n) h = eqb-true e.phase 3 h
due_phase e (font n) h = eqb-true e.phase 3 h
due_phase e (size n) h = eqb-true e.phase 3 h
due_phase e (colour c ns) h = eqb-true e.phase 3 h
due_phase e break h = eqb-true e.phase 3 h
due_phase e space h = eqb-true e.phase 3 h
due_phase e (draw s ns) h = on_page_lem e h
due_phase e (device n) h = eqb-true e.phase 0 h
due_phase e (resolution n m v) h = eqb-true e.phase 1 h
due_phase e init h = eqb-true e.phase 2 h
due_phase e (file n) h = eqb-true e.phase 3 h
due_phase e (mount n m) h = eqb-true e.phase 3 h
due_phase e (plain c ns) h = eqb-true e.phase 3 h
due_phase e (raw t) h = eqb-true e.phase 3 h
due_phase e stop h = eqb-true e.phase 3 h

-- the phase behind a step, where it was not refused
abbrev Behind : ℕ → Step → Type 0
Behind n (refused k) = Unit {0}
Behind n (went d gs xs) = d.phase ≡ n

font_behind : (e : Env) (go : ℕ → Step) (o : Option ℕ) → ((f : ℕ) → Behind 3 (go f)) → Behind 3 (with_font e go o)
font_behind e go none h = tt
font_behind e go (some f) h = if_both (Behind 3) (ltb 0 e.size) (go f) (refused 8) (h f) tt

effect_phase : (e : Env) (a : Act) → e.phase ≡ (phases a).0 → Behind (phases a).1 (effect e a)
effect_phase e (glyph n) p = font_behind e (recorded e n 0) e.font (λ f. p)
effect_phase e (index n) p = font_behind e (indexed e n) e.font (λ f. if_both (Behind 3) (ltb n origin) _ _ p p)
effect_phase e (to x n) p = p
effect_phase e (by x n) p = if_both (Behind 3) (fits (get x e.spot) n) _ (refused 10) p tt
effect_phase e (page n) p = p
effect_phase e (font n) p = if_both (Behind 3) (is_mounted (mounted_at (n - origin) e.mounts)) _ (refused 8) p tt
effect_phase e (size n) p = p
effect_phase e (colour c ns) p = p
effect_phase e break p = p
effect_phase e space p = p
effect_phase e (draw s ns) p = if_both (Behind 3) (may_go e.spot (way_of s ns)) _ (refused 10) p tt
effect_phase e (device n) p = refl
effect_phase e (resolution n h v) p = refl
effect_phase e init p = refl
effect_phase e (file n) p = p
effect_phase e (mount n m) p = p
effect_phase e (plain c ns) p = p
effect_phase e (raw t) p = p
effect_phase e stop p = refl

-- a step from one phase to another
abbrev Through : Env → ℕ × ℕ → Step → Type 0
Through e p (refused n) = Unit {0}
Through e p (went d gs xs) = (e.phase ≡ p.0) × (d.phase ≡ p.1)

act_through : (e : Env) (a : Act) → Through e (phases a) (act e a)
unfolding act
act_through e a = if_on (Through e (phases a)) (due e a) (effect e a) (refused 7) (λ d. go (due_phase e a d) (effect e a) (effect_phase e a (due_phase e a d))) (λ d. tt)
  where
    go : e.phase ≡ (phases a).0 → (s : Step) → Behind (phases a).1 s → Through e (phases a) s
    go p (refused n) h = tt
    go p (went d gs xs) h = (p, h)

-- ---- commands

abbrev Inner : List Act → Type 0
Inner xs = AllActs (λ (a : Act). (phases a).1 ≡ 3) xs

behind-before : (n : ℕ) (gs : List Glyph) (xs : List Item) (s : Step) → Behind n s → Behind n (before gs xs s)
behind-before n gs xs (refused k) h = tt
behind-before n gs xs (went d gs' xs') h = h

run_inner : (xs : List Act) (e : Env) → Inner xs → e.phase ≡ 3 → Behind 3 (run e xs)
unfolding run
run_inner [] e h p = p
run_inner (a ∷ xs) e h p = go (λ d q. run_inner xs d h.1 q) (act e a) (act_through e a)
  where
    go : ((d : Env) → d.phase ≡ 3 → Behind 3 (run d xs)) → (s : Step) → Through e (phases a) s → Behind 3 (and_then s (λ d. run d xs))
    go more (refused n) k = tt
    go more (went d gs is) k = behind-before 3 gs is (run d xs) (more d (k.1 ∙ h.0))

abbrev InnerActs : Acts → Type 0
InnerActs (no_acts n) = Unit {0}
InnerActs (these xs) = Inner xs

word_inner : (fs : List Font) (name : List ℕ) (far : ℕ → ℕ) (bs : List ℕ) → InnerActs (word_acts fs name far bs)
unfolding word_acts
word_inner fs name far [] = tt
word_inner fs name far (b ∷ bs) = go (width_of name b fs) (word_acts fs name far bs) (word_inner fs name far bs)
  where
    go : (o : Option ℕ) (x : Acts) → InnerActs x → InnerActs (byte_acts b far o x)
    go none x h = tt
    go (some w) (no_acts n) h = tt
    go (some w) (these xs) h = (refl, (refl, h))

abbrev ThroughActs : Env → Acts → Type 0
ThroughActs e x = Through e (3, 3) (perform e x)

inner_through : (e : Env) (x : Acts) → e.phase ≡ 3 → InnerActs x → ThroughActs e x
inner_through e (no_acts n) p h = tt
inner_through e (these xs) p h = go (run e xs) (run_inner xs e h p)
  where
    go : (s : Step) → Behind 3 s → Through e (3, 3) s
    go (refused n) k = tt
    go (went d gs is) k = (p, k)

ready_through : (e : Env) (go : ℕ → Acts) (o : Option ℕ) → ((f : ℕ) → InnerActs (go f)) → ThroughActs e (ready e go o)
ready_through e go none h = if_both (ThroughActs e) (on_page e) (no_acts 8) (no_acts 7) tt tt
ready_through e go (some f) h =
    on (on_page e)
    (λ k. rw k (if_both (ThroughActs e) (ltb 0 e.size) (go f) (no_acts 8) (inner_through e (go f) (on_page_lem e k) (h f)) tt))
    (λ k. rw k tt)

abbrev cmd_phases : Cmd → ℕ × ℕ
cmd_phases (just a) = phases a
cmd_phases (word n bs) = (3, 3)
cmd_phases (pair n b) = (3, 3)

cmd_through : (w : Widths) (e : Env) (c : Cmd) → Through e (cmd_phases c) (perform e (acts w e c))
unfolding run
cmd_through w e (just a) = go (act e a) (act_through e a)
  where
    go : (s : Step) → Through e (phases a) s → Through e (phases a) (and_then s (λ d. run d []))
    go (refused n) k = tt
    go (went d gs is) k = k
cmd_through w e (word n bs) = ready_through e (word_in w e n bs) e.font (λ f. word_inner w.fonts _ _ bs)
cmd_through w e (pair n b) = ready_through e (λ f. these (by across n ∷ glyph (b ∷ []) ∷ [])) e.font (λ f. (refl, (refl, tt)))

-- ---- which command it is

abbrev is_inner : Cmd → Bool
is_inner c = eqb (cmd_phases c).0 3 && eqb (cmd_phases c).1 3

framing_outer : (c : Cmd) → Framing c → is_inner c ≡ false
framing_outer c (x_T n) = refl
framing_outer c (x_r n h v) = refl
framing_outer c x_i = refl
framing_outer c x_s = refl

outer_framing : (a : Act) → is_inner (just a) ≡ false → Framing (just a)
outer_framing (glyph n) h = no (sym h)
outer_framing (index n) h = no (sym h)
outer_framing (to x n) h = no (sym h)
outer_framing (by x n) h = no (sym h)
outer_framing (page n) h = no (sym h)
outer_framing (font n) h = no (sym h)
outer_framing (size n) h = no (sym h)
outer_framing (colour c ns) h = no (sym h)
outer_framing break h = no (sym h)
outer_framing space h = no (sym h)
outer_framing (draw s ns) h = no (sym h)
outer_framing (device n) h = x_T n
outer_framing (resolution n m v) h = x_r n m v
outer_framing init h = x_i
outer_framing (file n) h = no (sym h)
outer_framing (mount n m) h = no (sym h)
outer_framing (plain c ns) h = no (sym h)
outer_framing (raw t) h = no (sym h)
outer_framing stop h = x_s

cmd_framing : (c : Cmd) → is_inner c ≡ false → Framing c
cmd_framing (just a) h = outer_framing a h
cmd_framing (word n bs) h = no (sym h)
cmd_framing (pair n b) h = no (sym h)

inner_phases : (c : Cmd) → is_inner c ≡ true → ((cmd_phases c).0 ≡ 3) × ((cmd_phases c).1 ≡ 3)
inner_phases c h = (eqb-true (cmd_phases c).0 3 (and_left (eqb (cmd_phases c).0 3) (eqb (cmd_phases c).1 3) h), eqb-true (cmd_phases c).1 3 (go (eqb (cmd_phases c).0 3) h))
  where
    go : (b : Bool) → (b && eqb (cmd_phases c).1 3) ≡ true → eqb (cmd_phases c).1 3 ≡ true
    go true k = k
    go false k = no k

-- ---- all commands

abbrev phase_in : ℕ → Step → ℕ
phase_in k (refused n) = k
phase_in k (went e gs xs) = e.phase

-- the commands from e on end behind `x s`
abbrev Ends : Widths → Env → List Cmd → Type 0
Ends w e cs = phase_in 0 (steps w e cs) ≡ 4

pub record Onward (w : Widths) (e : Env) (c : Cmd) (cs : List Cmd) : Type 0 where
  pub next : Env
  pub here : e.phase ≡ (cmd_phases c).0
  pub there : next.phase ≡ (cmd_phases c).1
  pub ends : Ends w next cs

onward : (w : Widths) (e : Env) (c : Cmd) (cs : List Cmd) → Ends w e (c ∷ cs) → Onward w e c cs
unfolding steps
onward w e c cs h = go (perform e (acts w e c)) (cmd_through w e c) h
  where
    past : (gs : List Glyph) (xs : List Item) (s : Step) → phase_in 0 (before gs xs s) ≡ 4 → phase_in 0 s ≡ 4
    past gs xs (refused n) k = k
    past gs xs (went v gs' xs') k = k

    go : (s : Step) → Through e (cmd_phases c) s → phase_in 0 (and_then s (λ d. steps w d cs)) ≡ 4 → Onward w e c cs
    go (refused n) t k = absurd (omega (arith, k))
    go (went d gs xs) t k = record { next = d; here = t.0; there = t.1; ends = past gs xs (steps w d cs) k }

-- where the next command needs a phase, it is one that may stand in it
abbrev Needs : ℕ → Cmd → Type 0
Needs k c = k ≡ (cmd_phases c).0

module _ (w : Widths) where
  -- the phase of e is k, and that of the environment behind c is what the commands cs begin with
  from : (e : Env) (c : Cmd) (cs : List Cmd) (k : ℕ) → e.phase ≡ k → Ends w e (c ∷ cs) → Needs k c × ((d : Env) × (d.phase ≡ (cmd_phases c).1) × Ends w d cs)
  from e c cs k p h = let x : Onward w e c cs = onward w e c cs h in (sym p ∙ x.here, (x.next, x.there, x.ends))

  none_from_4 : (cs : List Cmd) (e : Env) → e.phase ≡ 4 → Ends w e cs → cs ≡ []
  none_from_4 [] e p h = refl
  none_from_4 (c ∷ cs) e p h = go c (from e c cs 4 p h).0
    where
      go : (c : Cmd) → Needs 4 c → c ∷ cs ≡ []
      go c k = on (is_inner c) (λ i. absurd (omega (arith, k, (inner_phases c i).0))) (λ i. outer c (cmd_framing c i) k)
        where
          outer : (c : Cmd) → Framing c → Needs 4 c → c ∷ cs ≡ []
          outer c (x_T n) k = absurd (omega (arith, k))
          outer c (x_r n m v) k = absurd (omega (arith, k))
          outer c x_i k = absurd (omega (arith, k))
          outer c x_s k = absurd (omega (arith, k))

  -- the body, and `x s` behind it
  abbrev Body : List Cmd → Type 0
  Body cs = (ds : List Cmd) × (cs ≡ ds ++ just stop ∷ []) × NoFraming ds

  body_from_3 : (cs : List Cmd) (e : Env) → e.phase ≡ 3 → Ends w e cs → Body cs
  unfolding steps
  body_from_3 [] e p h = absurd (omega (arith, p, h))
  body_from_3 (c ∷ cs) e p h =
      let x : Needs 3 c × ((d : Env) × (d.phase ≡ (cmd_phases c).1) × Ends w d cs) = from e c cs 3 p h in
      on (is_inner c)
      (λ i. inside (λ f. no (sym (framing_outer c f) ∙ i)) (body_from_3 cs x.1.0 (x.1.1 ∙ (inner_phases c i).1) x.1.2))
      (λ i. outer c (cmd_framing c i) x.0 x.1.0 x.1.1 x.1.2)
    where
      inside : (Framing c → ⊥) → Body cs → Body (c ∷ cs)
      inside f y = (c ∷ y.0, ap (λ (l : List Cmd). c ∷ l) y.1, (f, y.2))

      outer : (c : Cmd) → Framing c → Needs 3 c → (d : Env) → d.phase ≡ (cmd_phases c).1 → Ends w d cs → Body (c ∷ cs)
      outer c (x_T n) k d q g = absurd (omega (arith, k))
      outer c (x_r n m v) k d q g = absurd (omega (arith, k))
      outer c x_i k d q g = absurd (omega (arith, k))
      outer c x_s k d q g = ([], ap (λ (l : List Cmd). just stop ∷ l) (none_from_4 cs d q g), tt)

  -- the prologue
  abbrev FromTwo : List Cmd → Type 0
  FromTwo cs = (ds : List Cmd) × (cs ≡ just init ∷ (ds ++ just stop ∷ [])) × NoFraming ds

  from_2 : (cs : List Cmd) (e : Env) → e.phase ≡ 2 → Ends w e cs → FromTwo cs
  unfolding steps
  from_2 [] e p h = absurd (omega (arith, p, h))
  from_2 (c ∷ cs) e p h =
      let x : Needs 2 c × ((d : Env) × (d.phase ≡ (cmd_phases c).1) × Ends w d cs) = from e c cs 2 p h in
      on (is_inner c) (λ i. absurd (omega (arith, x.0, (inner_phases c i).0))) (λ i. outer c (cmd_framing c i) x.0 x.1.0 x.1.1 x.1.2)
    where
      outer : (c : Cmd) → Framing c → Needs 2 c → (d : Env) → d.phase ≡ (cmd_phases c).1 → Ends w d cs → FromTwo (c ∷ cs)
      outer c (x_T n) k d q g = absurd (omega (arith, k))
      outer c (x_r n m v) k d q g = absurd (omega (arith, k))
      outer c x_i k d q g = let y : Body cs = body_from_3 cs d q g in (y.0, ap (λ (l : List Cmd). just init ∷ l) y.1, y.2)
      outer c x_s k d q g = absurd (omega (arith, k))

  abbrev FromOne : List Cmd → Type 0
  FromOne cs = (i h v : ℕ) × (ds : List Cmd) × (cs ≡ just (resolution i h v) ∷ just init ∷ (ds ++ just stop ∷ [])) × NoFraming ds

  from_1 : (cs : List Cmd) (e : Env) → e.phase ≡ 1 → Ends w e cs → FromOne cs
  unfolding steps
  from_1 [] e p h = absurd (omega (arith, p, h))
  from_1 (c ∷ cs) e p h =
      let x : Needs 1 c × ((d : Env) × (d.phase ≡ (cmd_phases c).1) × Ends w d cs) = from e c cs 1 p h in
      on (is_inner c) (λ i. absurd (omega (arith, x.0, (inner_phases c i).0))) (λ i. outer c (cmd_framing c i) x.0 x.1.0 x.1.1 x.1.2)
    where
      outer : (c : Cmd) → Framing c → Needs 1 c → (d : Env) → d.phase ≡ (cmd_phases c).1 → Ends w d cs → FromOne (c ∷ cs)
      outer c (x_T n) k d q g = absurd (omega (arith, k))
      outer c (x_r n m v) k d q g = let y : FromTwo cs = from_2 cs d q g in (n, m, v, y.0, ap (λ (l : List Cmd). just (resolution n m v) ∷ l) y.1, y.2)
      outer c x_i k d q g = absurd (omega (arith, k))
      outer c x_s k d q g = absurd (omega (arith, k))

  abbrev FromNone : List Cmd → Type 0
  FromNone cs = (n : List ℕ) × (i h v : ℕ) × (ds : List Cmd) × (cs ≡ just (device n) ∷ just (resolution i h v) ∷ just init ∷ (ds ++ just stop ∷ [])) × NoFraming ds

  from_0 : (cs : List Cmd) (e : Env) → e.phase ≡ 0 → Ends w e cs → FromNone cs
  unfolding steps
  from_0 [] e p h = absurd (omega (arith, p, h))
  from_0 (c ∷ cs) e p h =
      let x : Needs 0 c × ((d : Env) × (d.phase ≡ (cmd_phases c).1) × Ends w d cs) = from e c cs 0 p h in
      on (is_inner c) (λ i. absurd (omega (arith, x.0, (inner_phases c i).0))) (λ i. outer c (cmd_framing c i) x.0 x.1.0 x.1.1 x.1.2)
    where
      outer : (c : Cmd) → Framing c → Needs 0 c → (d : Env) → d.phase ≡ (cmd_phases c).1 → Ends w d cs → FromNone (c ∷ cs)
      outer c (x_T n) k d q g = let y : FromOne cs = from_1 cs d q g in (n, y.0, y.1, y.2, y.3, ap (λ (l : List Cmd). just (device n) ∷ l) y.4, y.5)
      outer c (x_r n m v) k d q g = absurd (omega (arith, k))
      outer c x_i k d q g = absurd (omega (arith, k))
      outer c x_s k d q g = absurd (omega (arith, k))

-- the commands that end behind `x s`
pub framed : (w : Widths) (end : Env) (gs : List Glyph) (xs : List Item) (cs : List Cmd) → steps w start cs ≡ went end gs xs → stopped end ≡ true
    → (n : List ℕ) × (i h v : ℕ) × (ds : List Cmd) × (cs ≡ just (device n) ∷ just (resolution i h v) ∷ just init ∷ (ds ++ just stop ∷ [])) × NoFraming ds
framed w end gs xs cs p h = from_0 w cs start refl (rw p (eqb-true end.phase 4 h))
