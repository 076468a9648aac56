-- What holds between the code's environment with its scratch row and the rules' environment, and that every command keeps it.
use Prim.Native.Nat.{ℕ, suc, ◌+◌, ◌*◌, ◌-◌, ◌<◌, ◌≤◌}
use native.Mathlib.Omega.{arith}
use native.Mathlib.Nat.{add-zero}
use native.Mathlib.Decide.{ℕ_discrete}
use mathlib.Core.Bool.{true, ◌&&◌}
use mathlib.Core.List.{List, [], ◌∷◌}
use mathlib.Core.Path.{◌≡◌, refl, sym, ap, ◌∙◌}
use lib.Dec.{leb, ltb}
use lib.ListN.{length, take, drop, get_or, set, length-set}
use lib.Seq.{get_or-set_same, get_or-set_other, get_or-drop, drop-drop}
use borrow.Author.Tests.{leb-true, lt-ltb}
use Rattle.rules.specs.Bytes.{origin, most, near, within}
use Rattle.rules.specs.Act.{Act, glyph, index, to, by, page, font, size, colour, break, space, draw, device, resolution, init, file, mount, plain, raw, stop, line, arc, circle, solid_circle, ellipse, solid_ellipse, polygon, solid_polygon, spline, thickness, gray_fill, colour_fill, Cmd, just, word, pair}
use Rattle.rules.specs.Widths.{Widths, Font, width_of, advance}
use Rattle.rules.specs.Scan.{limits, name_of, name_in, is_name}
use Rattle.rules.specs.State.{Env, Glyph, Item, Step, refused, went, and_then, act, run, acts, perform, mounted_at, is_mounted}
use Rattle.scan_command.specs.View.{act_of, cmd_of}
use Rattle.laws.proofs.Cases.{on, no as impossible, and_left, and_right}
use Rattle.laws.proofs.Good.{all_true, Name, Good, GoodCmd}
use Rattle.laws_read.proofs.Spells.{Near, perform-near}
use Rattle.laws_read.proofs.Keeps.{Held, FontHeld, perform_held, named_mounted, position-small}
use Rattle.read_model.specs.declared.Environment.{Environment}
use Rattle.read_model.specs.declared.Did.{Did}
use Rattle.read_model.specs.Environment.{font_of, env_of, in_body}
use Rattle.read_model.specs.Words.{entry_at, word_on}
use Rattle.read_model.specs.Turns.{mount_at, asked_mount, block_now, word_asked, did_at, scratch_after}
use Rattle.read_model.proofs.Acts.{Agrees, Placed, MountOf, mounts_after}
use Rattle.read_model.proofs.Words.{entry_for, Reads}
use Rattle.read_model.proofs.Commands.{mounts_after_cmd, MountsOf, WordFor, command_agrees}

-- ---- the scratch row

-- what the mounts hold for a name; `find` gives the slot of a name's font
abbrev pub mark_of : (List ℕ → ℕ) → List ℕ → ℕ
mark_of find [] = 0
mark_of find (b ∷ n) = find (b ∷ n) + 1

pub record Mounted (w : Widths) (find : List ℕ → ℕ) (ms : List (List ℕ)) (ws : List ℕ) : Type 0 where
  pub size : length ms ≡ 256
  pub long : 256 ≤ length ws
  pub mount : (n : ℕ) → n < 256 → mount_at ws n ≡ mark_of find (mounted_at n ms)
  pub table : (name : List ℕ) (b : ℕ) → b < 256 → entry_at ws (find name + 1) b ≡ entry_for (width_of name b w.fonts)

mark_named : (find : List ℕ → ℕ) (n : List ℕ) → is_mounted n ≡ true → mark_of find n ≡ find n + 1
mark_named find [] h = impossible h
mark_named find (b ∷ n) h = refl

mark_some : (find : List ℕ → ℕ) (n : List ℕ) → ltb 0 (mark_of find n) ≡ is_mounted n
mark_some find [] = refl
mark_some find (b ∷ n) = lt-ltb 0 (find (b ∷ n) + 1) (omega arith)

mounted_set : (w : Widths) (find : List ℕ → ℕ) (ms : List (List ℕ)) (ws : List ℕ) (i : ℕ) (m : List ℕ) → i < 256 → Name m → Mounted w find ms ws
    → Mounted w find (set ms i m) (set ws i (find m + 1))
mounted_set w find ms ws i m l g k = record {
  size = length-set ms i m ∙ k.size;
  long = let z : 256 ≤ length ws = k.long in omega (arith, length-set ws i (find m + 1));
  mount = λ n h. go n h (ℕ_discrete n i);
  table = λ name b h. get_or-set_other ws i ((find name + 1) * 256 + b) (find m + 1) 0 (λ e. omega arith) ∙ k.table name b h;
}
  where
    go : (n : ℕ) → n < 256 → Dec (n ≡ i) → mount_at (set ws i (find m + 1)) n ≡ mark_of find (mounted_at n (set ms i m))
    go n h (yes e) =
        let z : 256 ≤ length ws = k.long in
        let y : length ms ≡ 256 = k.size in
        rw (e, get_or-set_same ws i (find m + 1) 0 (omega arith), get_or-set_same ms i m [] (omega arith)) (sym (mark_named find m (named_mounted m g)))
    go n h (no e) = rw (get_or-set_other ws i n (find m + 1) 0 e, get_or-set_other ms i n m [] e) (k.mount n h)

-- ---- what holds at a command

pub record Live (w : Widths) (find : List ℕ → ℕ) (ms : List (List ℕ)) (ws : List ℕ) (u : ℕ) (e : Environment) : Type 0 where
  pub mounted : Mounted w find ms ws
  pub unit : u ≡ w.unitwidth
  pub near_h : near e.h ≡ true
  pub near_v : near e.v ≡ true
  pub held : Held (font_of e.font) ms

near_within : (x : ℕ) → near x ≡ true → (0 < x) × (x < 2 * origin)
near_within x h =
    let l : origin - most ≤ x = leb-true (origin - most) x (and_left (leb (origin - most) x) (leb x (origin + most)) h) in
    let g : x ≤ origin + most = leb-true x (origin + most) (and_right (leb (origin - most) x) (leb x (origin + most)) h) in
    (omega arith, omega arith)

placed : (e : Environment) → near e.h ≡ true → near e.v ≡ true → Placed e
placed e h v = ((near_within e.h h).0, (near_within e.h h).1, (near_within e.v v).0, (near_within e.v v).1)

-- the bytes of a word stand in the stream, and the table has their widths
reads_from : (fs : List Font) (name s ws : List ℕ) (block : ℕ) (far : ℕ → ℕ) → ((b : ℕ) → b < 256 → entry_at ws block b ≡ entry_for (width_of name b fs)) → ((i : ℕ) → get_or s i 0 < 256)
    → (bs : List ℕ) (p : ℕ) → take (length bs) (drop p s) ≡ bs → Reads fs name s ws block far bs p
reads_from fs name s ws block far t y [] p h = tt
reads_from fs name s ws block far t y (b ∷ bs) p h = go (drop p s) refl h (λ k. reads_from fs name s ws block far t y bs (p + 1) k)
  where
    heads : List ℕ → ℕ
    heads [] = 0
    heads (x ∷ r) = x

    tails : List ℕ → List ℕ
    tails [] = []
    tails (x ∷ r) = r

    go : (r : List ℕ) → drop p s ≡ r → take (suc (length bs)) r ≡ b ∷ bs → (take (length bs) (drop (p + 1) s) ≡ bs → Reads fs name s ws block far bs (p + 1))
        → (get_or s p 0 ≡ b) × (entry_at ws block b ≡ entry_for (width_of name b fs)) × Reads fs name s ws block far bs (p + 1)
    go [] q e more = absurd (let z : 0 ≡ suc (length bs) = ap length e in omega arith)
    go (x ∷ r) q e more =
        let k : x ≡ b = ap heads e in
        let g : get_or s p 0 ≡ b = ap (λ (i : ℕ). get_or s i 0) (sym (add-zero p)) ∙ sym (get_or-drop p s 0 0) ∙ ap (λ (l : List ℕ). get_or l 0 0) q ∙ k in
        let d : drop (p + 1) s ≡ r = sym (drop-drop 1 p s) ∙ ap (drop 1) q in
        (g, t b (rw (← g) (y p)), more (rw d (ap tails e)))

-- ---- what a command asks of the mounts

-- the position of an `f` and of a mount is one of 256
module _ (w : Widths) (find : List ℕ → ℕ) (s : List ℕ) (y : (i : ℕ) → get_or s i 0 < 256) (ms : List (List ℕ)) (ws : List ℕ) (u : ℕ) (e : Environment) (v : Live w find ms ws u e) where
  act_mounts : (p q : ℕ) (a : Act) → all_true (limits a) ≡ true → MountOf ms (asked_mount ws (act_of p q a)) a
  act_mounts p q (font n) g = rw (v.mounted.mount (n - origin) (position-small n (and_left (within origin (origin + 255) n) true g))) (mark_some find (mounted_at (n - origin) ms))
  act_mounts p q a g = tt

  -- the block of the current font
  block_is : (f : ℕ) → e.font ≡ suc f → block_now ws e ≡ find (mounted_at f ms) + 1
  block_is f q =
      let h : (f < 256) × (is_mounted (mounted_at f ms) ≡ true) = v.held.font f (ap font_of q) in
      ap (λ (k : ℕ). mount_at ws (k - 1)) q ∙ ap (mount_at ws) (omega arith) ∙ v.mounted.mount f h.0 ∙ mark_named find (mounted_at f ms) h.1

  pub mounts_of : (p q : ℕ) (c : Cmd) → GoodCmd c → take (length (name_in c)) (drop p s) ≡ name_in c → MountsOf w s ws ms e p (asked_mount ws (cmd_of p q c)) (block_now ws e) c
  mounts_of p q (just a) g h = act_mounts p q a g.0
  mounts_of p q (word n bs) g h =
      λ f k. reads_from w.fonts (mounted_at f ms) s ws (block_now ws e) (λ x. advance x e.size w.unitwidth e.quantum + n) (λ b l. ap (λ (x : ℕ). entry_at ws x b) (block_is f k) ∙ v.mounted.table (mounted_at f ms) b l) y bs p h
  mounts_of p q (pair n b) g h = tt

  pub word_for : (at p q : ℕ) (c : Cmd) → WordFor s ws u e at p (block_now ws e) (word_asked s ws u e at (cmd_of p q c)) c
  word_for at p q (just a) = tt
  word_for at p q (word n bs) = let z : p + length bs - p ≡ length bs = omega arith in ap (λ (k : ℕ). word_on s ws e at u n k p (block_now ws e)) z
  word_for at p q (pair n b) = tt

  -- what the code does at a command is what the rules say
  pub did_agrees : (at l a : ℕ) (c : Cmd) → GoodCmd c → take (length (name_in c)) (drop (at + a) s) ≡ name_in c
      → Agrees s ws (mounts_after_cmd c ms) at (at + a) l (perform (env_of e ms) (acts w (env_of e ms) c)) (did_at s ws u e at (cmd_of (at + a) (at + l) c))
  did_agrees at l a c g h =
      command_agrees w s ws ms at l (at + a) (asked_mount ws (cmd_of (at + a) (at + l) c)) (block_now ws e) u e (word_asked s ws u e at (cmd_of (at + a) (at + l) c)) v.unit (placed e v.near_h v.near_v) c g.1
      (mounts_of (at + a) (at + l) c g h) (word_for at (at + a) (at + l) c)

-- ---- what a command keeps

abbrev pub WentIn : Step → Type 0
WentIn (refused n) = ⊥
WentIn (went e gs is) = Unit {0}

module _ (w : Widths) (find : List ℕ → ℕ) (s : List ℕ) (ms : List (List ℕ)) (ws : List ℕ) (u : ℕ) (e : Environment) (v : Live w find ms ws u e) where
  -- mounting happens in the body alone, and there the act went
  act_mounted : (p q : ℕ) (a : Act) → Good a → take (length (name_of a)) (drop p s) ≡ name_of a → WentIn (act (env_of e ms) a) → Mounted w find (mounts_after a ms) (scratch_after find s ws e (act_of p q a))
  unfolding act
  act_mounted p q (glyph n) g h k = v.mounted
  act_mounted p q (index n) g h k = v.mounted
  act_mounted p q (to x n) g h k = v.mounted
  act_mounted p q (by x n) g h k = v.mounted
  act_mounted p q (page n) g h k = v.mounted
  act_mounted p q (font n) g h k = v.mounted
  act_mounted p q (size n) g h k = v.mounted
  act_mounted p q (colour c ns) g h k = v.mounted
  act_mounted p q break g h k = v.mounted
  act_mounted p q space g h k = v.mounted
  act_mounted p q (draw line ns) g h k = v.mounted
  act_mounted p q (draw arc ns) g h k = v.mounted
  act_mounted p q (draw circle ns) g h k = v.mounted
  act_mounted p q (draw solid_circle ns) g h k = v.mounted
  act_mounted p q (draw ellipse ns) g h k = v.mounted
  act_mounted p q (draw solid_ellipse ns) g h k = v.mounted
  act_mounted p q (draw polygon ns) g h k = v.mounted
  act_mounted p q (draw solid_polygon ns) g h k = v.mounted
  act_mounted p q (draw spline ns) g h k = v.mounted
  act_mounted p q (draw thickness ns) g h k = v.mounted
  act_mounted p q (draw gray_fill ns) g h k = v.mounted
  act_mounted p q (draw (colour_fill c) ns) g h k = v.mounted
  act_mounted p q (device n) g h k = v.mounted
  act_mounted p q (resolution n x z) g h k = v.mounted
  act_mounted p q init g h k = v.mounted
  act_mounted p q (file n) g h k = v.mounted
  act_mounted p q (mount n m) g h k =
      rw (in_body_lem k, h) (mounted_set w find ms ws (n - origin) m (position-small n (and_left (within origin (origin + 255) n) (is_name m && true) g.0)) g.1 v.mounted)
    where
      in_body_lem : WentIn (act (env_of e ms) (mount n m)) → in_body e ≡ true
      in_body_lem z = on (in_body e) (λ b. b) (λ b. absurd (rw b at z))
  act_mounted p q (plain c ns) g h k = v.mounted
  act_mounted p q (raw t) g h k = v.mounted
  act_mounted p q stop g h k = v.mounted

  went_one : (a : Act) → WentIn (perform (env_of e ms) (acts w (env_of e ms) (just a))) → WentIn (act (env_of e ms) a)
  unfolding run
  went_one a k = go (act (env_of e ms) a) k
    where
      go : (x : Step) → WentIn (and_then x (λ d. went d [] [])) → WentIn x
      go (refused n) h = h
      go (went d gs is) h = tt

  cmd_mounted : (p q : ℕ) (c : Cmd) → GoodCmd c → take (length (name_in c)) (drop p s) ≡ name_in c → WentIn (perform (env_of e ms) (acts w (env_of e ms) c))
      → Mounted w find (mounts_after_cmd c ms) (scratch_after find s ws e (cmd_of p q c))
  cmd_mounted p q (just a) g h k = act_mounted p q a g h (went_one a k)
  cmd_mounted p q (word n bs) g h k = v.mounted
  cmd_mounted p q (pair n b) g h k = v.mounted

  -- behind a command that went, all still holds
  pub live_next : (at l a : ℕ) (c : Cmd) → GoodCmd c → take (length (name_in c)) (drop (at + a) s) ≡ name_in c → (d : Env) (gs : List Glyph) (is : List Item) (x : Did)
      → perform (env_of e ms) (acts w (env_of e ms) c) ≡ went d gs is → env_of x.env (mounts_after_cmd c ms) ≡ d
      → Live w find (mounts_after_cmd c ms) (scratch_after find s ws e (cmd_of (at + a) (at + l) c)) u x.env
  live_next at l a c g h d gs is x q r =
      let n : Near d.spot = rw q at (perform-near w (env_of e ms) c g (v.near_h, v.near_v)) in
      let k : FontHeld d = rw q at (perform_held w (env_of e ms) c g v.held) in
      record {
        mounted = cmd_mounted (at + a) (at + l) c g h (rw q tt);
        unit = v.unit;
        near_h = rw (ap (λ (z : Env). z.spot.h) r) n.0;
        near_v = rw (ap (λ (z : Env). z.spot.v) r) n.1;
        held = rw (ap (λ (z : Env). z.font) r, ap (λ (z : Env). z.mounts) r) k;
      }
