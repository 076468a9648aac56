-- What is written for a command is the house spelling of its acts, and behind it a reader is where the rules say.
use Rattle.std.specs.Prelude.{if◌then◌else◌}
use Prim.Native.Nat.{ℕ, zero, suc, ◌+◌, ◌*◌, ◌-◌, ◌<◌}
use native.Mathlib.Omega.{arith}
use mathlib.Core.Bool.{Bool, true, false}
use mathlib.Core.List.{List, [], ◌∷◌, ◌++◌, append_assoc, append-nil}
use mathlib.Core.Option.{Option, none, some}
use mathlib.Core.Path.{◌≡◌, refl, sym, ap, ap₂, ◌∙◌}
use lib.Dec.{ltb, eqb}
use lib.ListN.{length, take, drop, get_or}
use borrow.Author.Tests.{ltb-true, le-leb}
use Rattle.rules.specs.Bytes.{origin, most, near}
use Rattle.rules.specs.Act.{Axis, across, down, line, arc, circle, solid_circle, ellipse, solid_ellipse, polygon, solid_polygon, spline, thickness, gray_fill, colour_fill, Act, glyph, index, to, by, page, font, size, colour, break, space, draw, device, resolution, init, file, mount, plain, raw, stop, Cmd, just, word, pair}
use Rattle.rules.specs.Scan.{name_in}
use Rattle.rules.specs.Widths.{Widths, Font, width_of, advance}
use Rattle.rules.specs.State.{Spot, Env, Glyph, Item, Step, refused, went, before, and_then, set_gap, glyph_of, with_font, recorded, act, run, Acts, no_acts, these, ready, byte_acts, word_acts, word_in, acts, perform, mounted_at}
use Rattle.rules.specs.State as S
use Rattle.rules.specs.House as R
use Rattle.rules.specs.House.{anchored, floating, turning, moving, manner, moves, kept, pen, onward, house, played, signed_decimal, spell_act, spell_all}
use Rattle.scan_command.specs.View.{act_of, cmd_of}
use Rattle.laws.proofs.Cases.{on, no, and_left, and_right}
use Rattle.laws.proofs.Good.{GoodCmd}
use Rattle.laws_read.proofs.Spells.{Near, perform-near}
use Rattle.laws_print.proofs.Trip.{spell_all-append}
use Rattle.read_model.specs.declared.Environment.{Environment}
use Rattle.read_model.specs.declared.Word.{Word}
use Rattle.read_model.specs.declared.Did.{Did}
use Rattle.read_model.specs.Environment.{font_of, env_of, on_page, may_move}
use Rattle.read_model.specs.Words.{entry_at, far_at, word_next, word_here}
use Rattle.read_model.specs.Turns.{block_now}
use Rattle.read_model.proofs.Words.{entry_for, here, acts_in, has_acts, Carries, carries_next, glyph_on, by_on, far_is, Reads}
use Rattle.read_model.proofs.Commands.{mounts_after_cmd}
use Rattle.read_model.proofs.Live.{Live, mounts_of}
use Rattle.respell_model.specs.declared.Manner.{Manner}
use Rattle.respell_model.specs.declared.Manner.TheVariants as M
use Rattle.respell_model.specs.Lines.{line_of}
use Rattle.respell_model.proofs.Sheets.{signed-near}
use Rattle.respell_model.proofs.Lines.{line_in}
use Rattle.respell_model.specs.Command.{move_to, moves_to, word_lines, word_pen_h, word_pen_v, manner_of, written, pen_h, pen_v, spelled_at}

-- ---- the house spelling of joined acts

-- where a reader of the spelling is behind the acts
abbrev pub pen_on : Spot → (Env → Spot) → Step → Spot
pen_on p go (refused n) = p
pen_on p go (went e gs is) = go e

unfoldable pub pen_after : Env → Spot → List Act → Spot
pen_after e p [] = p
pen_after e p (a ∷ xs) = pen_on p (λ e'. pen_after e' (pen (manner a) p e'.spot) xs) (act e a)

-- a step went to the environment d
abbrev Ends : Env → Step → Type 0
Ends d (refused n) = ⊥
Ends d (went e gs is) = e ≡ d

ends_before : (d : Env) (gs : List Glyph) (is : List Item) (x : Step) → Ends d (before gs is x) → Ends d x
ends_before d gs is (refused n) h = h
ends_before d gs is (went e gs' is') h = h

house_ends : (xs ys : List Act) (e : Env) (p : Spot) (d : Env) → Ends d (run e xs) → house e p (xs ++ ys) ≡ house e p xs ++ house d (pen_after e p xs) ys
unfolding house run pen_after
house_ends [] ys e p d h = ap (λ (x : Env). house x p ys) h
house_ends (a ∷ xs) ys e p d h = go (act e a) h (λ x q k. house_ends xs ys x q d k)
  where
    go : (x : Step) → Ends d (and_then x (λ e'. run e' xs)) → ((e' : Env) (q : Spot) → Ends d (run e' xs) → house e' q (xs ++ ys) ≡ house e' q xs ++ house d (pen_after e' q xs) ys)
        → kept (manner a) p e.spot a ++ onward (λ e'. house e' (pen (manner a) p e'.spot) (xs ++ ys)) x
        ≡ (kept (manner a) p e.spot a ++ onward (λ e'. house e' (pen (manner a) p e'.spot) xs) x) ++ house d (pen_on p (λ e'. pen_after e' (pen (manner a) p e'.spot) xs) x) ys
    go (refused n) k more = absurd k
    go (went e' gs is) k more =
        ap (λ (l : List Act). kept (manner a) p e.spot a ++ l) (more e' (pen (manner a) p e'.spot) (ends_before d gs is (run e' xs) k))
        ∙ sym (append_assoc (kept (manner a) p e.spot a) (house e' (pen (manner a) p e'.spot) xs) (house d (pen_after e' (pen (manner a) p e'.spot) xs) ys))

pub house-append : (xs ys : List Act) (e : Env) (p : Spot) (d : Env) (gs : List Glyph) (is : List Item) → run e xs ≡ went d gs is
    → house e p (xs ++ ys) ≡ house e p xs ++ house d (pen_after e p xs) ys
house-append xs ys e p d gs is q = house_ends xs ys e p d (rw q refl)

-- one command, then the rest
pub played-next : (w : Widths) (e : Env) (p : Spot) (c : Cmd) (cs : List Cmd) (xs : List Act) (d : Env) (gs : List Glyph) (is : List Item) → acts w e c ≡ these xs → run e xs ≡ went d gs is
    → house e p (played w e (c ∷ cs)) ≡ house e p xs ++ house d (pen_after e p xs) (played w d cs)
unfolding played
played-next w e p c cs xs d gs is h q = rw (h, q) (house-append xs (played w d cs) e p d gs is q)

-- ---- acts of a command that went

abbrev is_gone : Step → Bool
is_gone (refused n) = false
is_gone (went e gs is) = true

-- it has acts
pub went-these : (e : Env) (x : Acts) (d : Env) (gs : List Glyph) (is : List Item) → perform e x ≡ went d gs is → x ≡ these (acts_in x)
went-these e (no_acts n) d gs is h = no (ap is_gone h)
went-these e (these xs) d gs is h = refl

-- ---- motions

moved-spelled : (x : Axis) (p q : ℕ) → near q ≡ true → spell_all (if eqb q p then [] else to x q ∷ []) ≡ move_to (R.to_letter x) p q
unfolding spell_all spell_act
moved-spelled x p q h = on (eqb q p) (λ k. rw k) (λ k. rw (k, signed-near q h, append-nil (signed_decimal q)))

moves-spelled : (p q : Spot) → near q.h ≡ true → near q.v ≡ true → spell_all (moves p q) ≡ moves_to p.h p.v q.h q.v
moves-spelled p q h v =
    spell_all-append (if eqb q.h p.h then [] else to across q.h ∷ []) (if eqb q.v p.v then [] else to down q.v ∷ [])
    ∙ ap₂ (λ (x y : List ℕ). x ++ y) (moved-spelled across p.h q.h h) (moved-spelled down p.v q.v v)

-- ---- a command that is one act

-- the line of the command at a place is that of the act
abbrev pub LineIs : List ℕ → ℕ → ℕ → ℕ → Cmd → Type 0
LineIs s at a l (just x) = line_of s at (act_of (at + a) (at + l) x) ≡ line_in (manner x) (spell_act x)
LineIs s at a l (word n bs) = Unit {0}
LineIs s at a l (pair n b) = Unit {0}

-- the code's manner
abbrev manner_in : R.Manner → Manner
manner_in anchored = M.Anchored
manner_in floating = M.Floating
manner_in turning = M.Turning
manner_in moving = M.Moving

manner_is : (p q : ℕ) (x : Act) → manner_of (act_of p q x) ≡ manner_in (manner x)
manner_is p q (glyph n) = refl
manner_is p q (index n) = refl
manner_is p q (to x n) = refl
manner_is p q (by x n) = refl
manner_is p q (page n) = refl
manner_is p q (font n) = refl
manner_is p q (size n) = refl
manner_is p q (colour c ns) = refl
manner_is p q break = refl
manner_is p q space = refl
manner_is p q (draw line ns) = refl
manner_is p q (draw arc ns) = refl
manner_is p q (draw circle ns) = refl
manner_is p q (draw solid_circle ns) = refl
manner_is p q (draw ellipse ns) = refl
manner_is p q (draw solid_ellipse ns) = refl
manner_is p q (draw polygon ns) = refl
manner_is p q (draw solid_polygon ns) = refl
manner_is p q (draw spline ns) = refl
manner_is p q (draw thickness ns) = refl
manner_is p q (draw gray_fill ns) = refl
manner_is p q (draw (colour_fill c) ns) = refl
manner_is p q (device n) = refl
manner_is p q (resolution n h v) = refl
manner_is p q init = refl
manner_is p q (file n) = refl
manner_is p q (mount n m) = refl
manner_is p q (plain c ns) = refl
manner_is p q (raw t) = refl
manner_is p q stop = refl

-- what is written behind the place p, and where a reader is then, the code's position behind the command being h, v
abbrev pub Spells : List ℕ → List ℕ → ℕ → Environment → ℕ → ℕ → ℕ → ℕ → ℕ → Cmd → Env → Spot → List Act → Type 0
Spells s ws u e at a l h v c d p xs =
    (spell_all (house d p xs) ≡ spelled_at s ws u e at h v p.h p.v (cmd_of (at + a) (at + l) c))
    × (pen_after d p xs ≡ record { h = pen_h s ws u e h p.h (manner_of (cmd_of (at + a) (at + l) c)); v = pen_v ws u e v p.v (manner_of (cmd_of (at + a) (at + l) c)) })

anchored-spelled : (p q : Spot) (a : Act) → near q.h ≡ true → near q.v ≡ true → spell_all (moves p q ++ a ∷ []) ≡ moves_to p.h p.v q.h q.v ++ (spell_act a ++ 10 ∷ [])
unfolding spell_all
anchored-spelled p q a h v = spell_all-append (moves p q) (a ∷ []) ∙ ap (λ (l : List ℕ). l ++ (spell_act a ++ 10 ∷ [])) (moves-spelled p q h v)

module _ (s ws : List ℕ) (u : ℕ) (e : Environment) (near_h : near e.h ≡ true) (near_v : near e.v ≡ true) where
  kept-spelled : (m : R.Manner) (a : Act) (t : List ℕ) (h v : ℕ) (p : Spot) → t ≡ line_in m (spell_act a)
      → spell_all (kept m p (record { h = e.h; v = e.v }) a) ≡ written s ws u e h v p.h p.v (t ++ 10 ∷ []) (manner_in m)
  unfolding spell_all
  kept-spelled anchored a t h v p q = rw q (anchored-spelled p (record { h = e.h; v = e.v }) a near_h near_v)
  kept-spelled floating a t h v p q = rw q
  kept-spelled turning a t h v p q = rw q
  kept-spelled moving a t h v p q = refl

  pen_is : (m : R.Manner) (h v : ℕ) (p : Spot) → pen m p (record { h = h; v = v }) ≡ record { h = pen_h s ws u e h p.h (manner_in m); v = pen_v ws u e v p.v (manner_in m) }
  pen_is anchored h v p = refl
  pen_is floating h v p = refl
  pen_is turning h v p = refl
  pen_is moving h v p = refl

  module _ (ms : List (List ℕ)) (at a l : ℕ) where
    just_spelled : (x : Act) → LineIs s at a l (just x) → (d : Env) (p : Spot) → Ends d (run (env_of e ms) (x ∷ [])) → Spells s ws u e at a l d.spot.h d.spot.v (just x) (env_of e ms) p (x ∷ [])
    unfolding house run pen_after spelled_at
    just_spelled x i d p k = rw (manner_is (at + a) (at + l) x) (go (act (env_of e ms) x) k)
      where
        go : (y : Step) → Ends d (and_then y (λ g. went g [] []))
            → (spell_all (kept (manner x) p (record { h = e.h; v = e.v }) x ++ onward (λ g. []) y) ≡ written s ws u e d.spot.h d.spot.v p.h p.v (line_of s at (act_of (at + a) (at + l) x) ++ 10 ∷ []) (manner_in (manner x)))
            × (pen_on p (λ g. pen (manner x) p g.spot) y ≡ record { h = pen_h s ws u e d.spot.h p.h (manner_in (manner x)); v = pen_v ws u e d.spot.v p.v (manner_in (manner x)) })
        go (refused n) z = absurd z
        go (went g gs is) z = (
          rw (append-nil (kept (manner x) p (record { h = e.h; v = e.v }) x)) (kept-spelled (manner x) x (line_of s at (act_of (at + a) (at + l) x)) d.spot.h d.spot.v p i),
          ap (λ (f : Env). pen (manner x) p f.spot) z ∙ pen_is (manner x) d.spot.h d.spot.v p,
        )

-- ---- two digits

one_ends : (d : Env) (y : Step) → Ends d (and_then y (λ g. went g [] [])) → Ends d y
one_ends d (refused n) h = h
one_ends d (went g gs is) h = h

-- a glyph leaves the place
glyph_stays : (g d : Env) (n : List ℕ) → Ends d (act g (glyph n)) → g.spot ≡ d.spot
unfolding act
glyph_stays g d n h = on (S.on_page g) (λ k. go g.font (rw k at h)) (λ k. absurd (rw k at h))
  where
    go : (o : Option ℕ) → Ends d (with_font g (recorded g n 0) o) → g.spot ≡ d.spot
    go none z = absurd z
    go (some f) z = on (ltb 0 g.size) (λ k. ap (λ (x : Env). x.spot) (rw k at z)) (λ k. absurd (rw k at z))

-- a glyph that comes last
last_glyph : (g d : Env) (p : Spot) (n : List ℕ) → near d.spot.h ≡ true → near d.spot.v ≡ true → Ends d (run g (glyph n ∷ []))
    → (spell_all (house g p (glyph n ∷ [])) ≡ moves_to p.h p.v d.spot.h d.spot.v ++ (spell_act (glyph n) ++ 10 ∷ [])) × (pen_after g p (glyph n ∷ []) ≡ d.spot)
unfolding house run pen_after
last_glyph g d p n nh nv h = go (act g (glyph n)) (one_ends d (act g (glyph n)) h)
  where
    same : g.spot ≡ d.spot
    same = glyph_stays g d n (one_ends d (act g (glyph n)) h)

    go : (y : Step) → Ends d y
        → (spell_all ((moves p g.spot ++ glyph n ∷ []) ++ onward (λ f. []) y) ≡ moves_to p.h p.v d.spot.h d.spot.v ++ (spell_act (glyph n) ++ 10 ∷ [])) × (pen_on p (λ f. f.spot) y ≡ d.spot)
    go (refused m) k = absurd k
    go (went f gs is) k = (rw (append-nil (moves p g.spot ++ glyph n ∷ []), same) (anchored-spelled p d.spot (glyph n) nh nv), ap (λ (x : Env). x.spot) k)

module _ (s ws : List ℕ) (u : ℕ) (e : Environment) (ms : List (List ℕ)) (at a l : ℕ) where
  pair_spelled : (n b : ℕ) → take 1 (drop (at + a) s) ≡ b ∷ [] → (d : Env) (p : Spot) → near d.spot.h ≡ true → near d.spot.v ≡ true
      → Ends d (run (env_of e ms) (by across n ∷ glyph (b ∷ []) ∷ []))
      → Spells s ws u e at a l d.spot.h d.spot.v (pair n b) (env_of e ms) p (by across n ∷ glyph (b ∷ []) ∷ [])
  unfolding house run pen_after spelled_at spell_act
  pair_spelled n b t d p nh nv k = rw t (go (act (env_of e ms) (by across n)) k)
    where
      go : (y : Step) → Ends d (and_then y (λ g. run g (glyph (b ∷ []) ∷ [])))
          → (spell_all (onward (λ g. house g p (glyph (b ∷ []) ∷ [])) y) ≡ moves_to p.h p.v d.spot.h d.spot.v ++ (99 ∷ 32 ∷ b ∷ 10 ∷ []))
          × (pen_on p (λ g. pen_after g p (glyph (b ∷ []) ∷ [])) y ≡ record { h = d.spot.h; v = d.spot.v })
      go (refused m) z = absurd z
      go (went g gs is) z = last_glyph g d p (b ∷ []) nh nv (ends_before d gs is (run g (glyph (b ∷ []) ∷ [])) z)

-- ---- a word

-- behind a motion that may be made, the place is within the limit
moved-near : (x n : ℕ) → may_move x n ≡ true → near (x + n - origin) ≡ true
moved-near x n h =
    let l : origin < x + n = ltb-true origin (x + n) (and_left (ltb origin (x + n)) (ltb (x + n) (3 * origin)) h) in
    let g : x + n < 3 * origin = ltb-true (x + n) (3 * origin) (and_right (ltb origin (x + n)) (ltb (x + n) (3 * origin)) h) in
    rw (le-leb (origin - most) (x + n - origin) (omega arith), le-leb (x + n - origin) (origin + most) (omega arith))

-- a glyph and a motion, then the rest
two_on : (e d g : Env) (n : List ℕ) (k : ℕ) (ys : List Act) (p : Spot) (gs : List Glyph) → act e (glyph n) ≡ went d gs [] → act d (by across k) ≡ went g [] []
    → (house e p (glyph n ∷ by across k ∷ ys) ≡ (moves p e.spot ++ glyph n ∷ []) ++ house g d.spot ys) × (pen_after e p (glyph n ∷ by across k ∷ ys) ≡ pen_after g d.spot ys)
unfolding house pen_after
two_on e d g n k ys p gs h q = (rw (h, q), rw (h, q))

module _ (e : Env) (f unit : ℕ) (fs : List Font) (name s ws : List ℕ) (block track : ℕ) where
  abbrev far : ℕ → ℕ
  far x = advance x e.size unit e.quantum + track

  -- n bytes from d on, written behind the place p
  abbrev Worded : ℕ → Word → Spot → List Act → Type 0
  Worded n d p xs =
      (spell_all (house (here e d) p xs) ≡ word_lines n s ws p.h p.v d) × (pen_after (here e d) p xs ≡ record { h = word_pen_h n s ws p.h d; v = word_pen_v n p.v d })

  -- where the run of a byte and the rest ends, the motion behind the byte was made
  may_move_lem : (d : Word) (b k : ℕ) (ys : List Act) (g : Env) → Carries e f unit d → far_at s ws d ≡ far k → Ends g (run (here e d) (glyph (b ∷ []) ∷ by across (far k) ∷ ys))
      → (may_move d.h (far_at s ws d) ≡ true) × Ends g (run (here e (word_next s ws d)) ys)
  unfolding run
  may_move_lem d b k ys g c w h =
      let z : Ends g (and_then (act (set_gap (here e d) 0) (by across (far k))) (λ x. run x ys)) =
      ends_before g (glyph_of (here e d) f (b ∷ []) 0 ∷ []) [] (and_then (act (set_gap (here e d) 0) (by across (far k))) (λ x. run x ys))
      (rw (glyph_on (here e d) f (b ∷ []) c.page c.font c.sized) at h) in
      let y : Ends g (and_then (if may_move d.h (far_at s ws d) then went (here e (word_next s ws d)) [] [] else refused 10) (λ x. run x ys)) =
      rw (by_on e d (far k) c.page, ← w) at z in
      on (may_move d.h (far_at s ws d))
      (λ m. (m, ends_before g [] [] (run (here e (word_next s ws d)) ys) (rw m at y)))
      (λ m. absurd (rw m at y))

  pen_v_lem : (n : ℕ) (d : Word) → word_pen_v n d.v (word_next s ws d) ≡ d.v
  pen_v_lem zero d = refl
  pen_v_lem (suc n) d = refl

  byte_line : (b c : ℕ) (l : List ℕ) → c ≡ b → (spell_act (glyph (b ∷ [])) ++ 10 ∷ []) ++ l ≡ 99 ∷ 32 ∷ c ∷ 10 ∷ l
  unfolding spell_act
  byte_line b c l r = rw r

  -- a byte of width k, then the rest
  byte_spelled : (d : Word) (b k n : ℕ) (ys : List Act) (p : Spot) → Carries e f unit d → near d.h ≡ true → near d.v ≡ true → get_or s d.at 0 ≡ b → far_at s ws d ≡ far k
      → may_move d.h (far_at s ws d) ≡ true → Worded n (word_next s ws d) (record { h = d.h; v = d.v }) ys
      → Worded (suc n) d p (glyph (b ∷ []) ∷ by across (far k) ∷ ys)
  unfolding word_lines word_pen_h
  byte_spelled d b k n ys p c nh nv r w m more =
      let q : Spot = record { h = d.h; v = d.v } in
      let moved : act (set_gap (here e d) 0) (by across (far k)) ≡ went (here e (word_next s ws d)) [] [] = by_on e d (far k) c.page ∙ rw (← w, m) in
      let two : (house (here e d) p (glyph (b ∷ []) ∷ by across (far k) ∷ ys) ≡ (moves p q ++ glyph (b ∷ []) ∷ []) ++ house (here e (word_next s ws d)) q ys)
      × (pen_after (here e d) p (glyph (b ∷ []) ∷ by across (far k) ∷ ys) ≡ pen_after (here e (word_next s ws d)) q ys) =
      two_on (here e d) (set_gap (here e d) 0) (here e (word_next s ws d)) (b ∷ []) (far k) ys p (glyph_of (here e d) f (b ∷ []) 0 ∷ [])
      (glyph_on (here e d) f (b ∷ []) c.page c.font c.sized) moved in (
        ap spell_all two.0 ∙ spell_all-append (moves p q ++ glyph (b ∷ []) ∷ []) (house (here e (word_next s ws d)) q ys)
            ∙ ap₂ (λ (x y : List ℕ). x ++ y) (anchored-spelled p q (glyph (b ∷ [])) nh nv) more.0
            ∙ append_assoc (moves_to p.h p.v d.h d.v) (spell_act (glyph (b ∷ [])) ++ 10 ∷ []) (word_lines n s ws d.h d.v (word_next s ws d))
            ∙ ap (λ (l : List ℕ). moves_to p.h p.v d.h d.v ++ l) (byte_line b (get_or s d.at 0) (word_lines n s ws d.h d.v (word_next s ws d)) r),
        two.1 ∙ more.1 ∙ ap (λ (i : ℕ). record { h = word_pen_h n s ws d.h (word_next s ws d); v = i }) (pen_v_lem n d),
      )

  word_spelled : (bs : List ℕ) (d : Word) (p : Spot) (xs : List Act) (g : Env) → word_acts fs name far bs ≡ these xs → Carries e f unit d → near d.h ≡ true → near d.v ≡ true
      → d.block ≡ block → d.track ≡ track → Reads fs name s ws block far bs d.at → Ends g (run (here e d) xs) → Worded (length bs) d p xs
  unfolding word_acts word_lines word_pen_h house pen_after spell_all
  word_spelled [] d p xs g q c nh nv i t r h = rw (← ap acts_in q) (refl, refl)
  word_spelled (b ∷ bs) d p xs g q c nh nv i t r h =
      go (width_of name b fs) r.1 (word_acts fs name far bs) q
      (λ ys k m z. word_spelled bs (word_next s ws d) (record { h = d.h; v = d.v }) ys g k (carries_next e f unit d s ws c) (moved-near d.h (far_at s ws d) m) nv i t r.2 z)
    where
      go : (o : Option ℕ) → entry_at ws block b ≡ entry_for o → (x : Acts) → byte_acts b far o x ≡ these xs
          → ((ys : List Act) → x ≡ these ys → may_move d.h (far_at s ws d) ≡ true → Ends g (run (here e (word_next s ws d)) ys) → Worded (length bs) (word_next s ws d) (record { h = d.h; v = d.v }) ys)
          → Worded (suc (length bs)) d p xs
      go none w x k more = no (ap has_acts k)
      go (some j) w (no_acts m) k more = no (ap has_acts k)
      go (some j) w (these ys) k more =
          let y : far_at s ws d ≡ far j = far_is e f unit fs name s ws block track d b j c i t r.0 w in
          let z : (may_move d.h (far_at s ws d) ≡ true) × Ends g (run (here e (word_next s ws d)) ys) = may_move_lem d b j ys g c y (rw (← ap acts_in k) at h) in
          rw (← ap acts_in k) (byte_spelled d b j (length bs) ys p c nh nv r.0 y z.0 (more ys refl z.0 z.1))

-- ---- every command

-- a word or two digits that have acts: on a page, with a font and a size
module _ (e : Environment) (ms : List (List ℕ)) (go : ℕ → Acts) (xs : List Act) where
  is_ready : {X : Type 0} → ready (env_of e ms) go (font_of e.font) ≡ these xs
      → ((f : ℕ) → e.font ≡ suc f → on_page e ≡ true → ltb 0 e.size ≡ true → go f ≡ these xs → X) → X
  is_ready {X} h more = by_font e.font refl h
    where
      by_font : (k : ℕ) → e.font ≡ k → ready (env_of e ms) go (font_of k) ≡ these xs → X
      by_font zero q z = on (on_page e) (λ g. no (ap has_acts (rw g at z))) (λ g. no (ap has_acts (rw g at z)))
      by_font (suc f) q z =
          on (on_page e)
          (λ g. on (ltb 0 e.size) (λ k. more f q g k (rw (g, k) at z)) (λ k. no (ap has_acts (rw (g, k) at z))))
          (λ g. no (ap has_acts (rw g at z)))

module _ (w : Widths) (find : List ℕ → ℕ) (s : List ℕ) (y : (i : ℕ) → get_or s i 0 < 256) (ms : List (List ℕ)) (ws : List ℕ) (u : ℕ) (e : Environment) (v : Live w find ms ws u e) (at l a : ℕ) where
  spells_word : (n : ℕ) (bs : List ℕ) → GoodCmd (word n bs) → take (length bs) (drop (at + a) s) ≡ bs → (d : Env) (xs : List Act) → acts w (env_of e ms) (word n bs) ≡ these xs
      → Ends d (run (env_of e ms) xs) → (p : Spot) → Spells s ws u e at a l d.spot.h d.spot.v (word n bs) (env_of e ms) p xs
  unfolding spelled_at
  spells_word n bs g t d xs q k p =
      let z : at + a + length bs - (at + a) ≡ length bs = omega arith in
      rw z
      (is_ready e ms (word_in w (env_of e ms) n bs) xs q
      (λ f i o m r. word_spelled (env_of e ms) f w.unitwidth w.fonts (mounted_at f ms) s ws (block_now ws e) n bs (word_here e u n (length bs) (at + a) (block_now ws e)) p xs d r
      (record {
        page = o;
        font = ap font_of i;
        sized = m;
        ordinal = refl;
        number = refl;
        position = rw i (omega arith);
        size = refl;
        quantum = refl;
        unitwidth = v.unit;
      })
      v.near_h v.near_v refl refl (mounts_of w find s y ms ws u e v (at + a) (at + l) (word n bs) g t f i) k))

  -- the position behind the command is that of the environment d
  spells : (c : Cmd) → GoodCmd c → take (length (name_in c)) (drop (at + a) s) ≡ name_in c → LineIs s at a l c → (d : Env) (xs : List Act) → acts w (env_of e ms) c ≡ these xs
      → near d.spot.h ≡ true → near d.spot.v ≡ true → Ends d (run (env_of e ms) xs) → (p : Spot) → Spells s ws u e at a l d.spot.h d.spot.v c (env_of e ms) p xs
  spells (just x) g t i d xs q nh nv k p =
      rw (← ap acts_in q) (just_spelled s ws u e v.near_h v.near_v ms at a l x i d p (rw (← ap acts_in q) at k))
  spells (word n bs) g t i d xs q nh nv k p = spells_word n bs g t d xs q k p
  spells (pair n b) g t i d xs q nh nv k p =
      is_ready e ms (λ f. these (by across n ∷ glyph (b ∷ []) ∷ [])) xs q
      (λ f j o m r. rw (← ap acts_in r) (pair_spelled s ws u e ms at a l n b t d p nh nv (rw (← ap acts_in r) at k)))

  -- What is written for a command that went is the house spelling of its acts; x is what the code did.
  pub command-spelled : (c : Cmd) → GoodCmd c → take (length (name_in c)) (drop (at + a) s) ≡ name_in c → LineIs s at a l c → (d : Env) (gs : List Glyph) (is : List Item) (x : Did)
      → perform (env_of e ms) (acts w (env_of e ms) c) ≡ went d gs is → env_of x.env (mounts_after_cmd c ms) ≡ d → (xs : List Act) → acts w (env_of e ms) c ≡ these xs → (p : Spot)
      → Spells s ws u e at a l x.env.h x.env.v c (env_of e ms) p xs
  command-spelled c g t i d gs is x z r xs q p =
      let n : Near d.spot = rw z at (perform-near w (env_of e ms) c g (v.near_h, v.near_v)) in
      let k : Ends d (run (env_of e ms) xs) = rw (sym (ap (perform (env_of e ms)) q) ∙ z) refl in
      rw (ap (λ (f : Env). f.spot.h) r, ap (λ (f : Env). f.spot.v) r) (spells c g t i d xs q n.0 n.1 k p)

  -- the command, then the rest
  pub command_on : (c : Cmd) → GoodCmd c → take (length (name_in c)) (drop (at + a) s) ≡ name_in c → LineIs s at a l c → (d : Env) (gs : List Glyph) (is : List Item) (x : Did)
      → perform (env_of e ms) (acts w (env_of e ms) c) ≡ went d gs is → env_of x.env (mounts_after_cmd c ms) ≡ d → (p : Spot) (cs : List Cmd)
      → spell_all (house (env_of e ms) p (played w (env_of e ms) (c ∷ cs)))
      ≡ spelled_at s ws u e at x.env.h x.env.v p.h p.v (cmd_of (at + a) (at + l) c)
      ++ spell_all (house (env_of x.env (mounts_after_cmd c ms)) (record { h = pen_h s ws u e x.env.h p.h (manner_of (cmd_of (at + a) (at + l) c)); v = pen_v ws u e x.env.v p.v (manner_of (cmd_of (at + a) (at + l) c)) }) (played w (env_of x.env (mounts_after_cmd c ms)) cs))
  command_on c g t i d gs is x z r p cs =
      let xs : List Act = acts_in (acts w (env_of e ms) c) in
      let q : acts w (env_of e ms) c ≡ these xs = went-these (env_of e ms) (acts w (env_of e ms) c) d gs is z in
      let k : run (env_of e ms) xs ≡ went d gs is = sym (ap (perform (env_of e ms)) q) ∙ z in
      let o : Spells s ws u e at a l x.env.h x.env.v c (env_of e ms) p xs = command-spelled c g t i d gs is x z r xs q p in
      ap spell_all (played-next w (env_of e ms) p c cs xs d gs is q k)
      ∙ spell_all-append (house (env_of e ms) p xs) (house d (pen_after (env_of e ms) p xs) (played w d cs))
      ∙ ap₂ (λ (f h : List ℕ). f ++ h) o.0 (ap₂ (λ (f : Env) (h : Spot). spell_all (house f h (played w f cs))) (sym r) o.1)
