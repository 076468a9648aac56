-- Document 01, refusals 7 to 10 of a command: "Each is given exactly for its reason", and "at one command the smallest number". The reasons
-- are 01's sentences once more, said by what the environment holds before the command, apart from the tests of the rules (`due`, `ready`,
-- `with_font`, `to_font`, `word_acts`, `fits`). What `CmdWritten` and `Inside` ask for holds in every run: `Runs`. Proofs: `proofs/Needed.antt`.
use Rattle.std.specs.Prelude.{ℕ, suc, ◌<◌, ◌≤◌, Bool, true, false, List, [], ◌∷◌, ◌⊎◌, ◌≡◌, ℤ, pos, ◌+ℤ◌}
use Rattle.std.proofs.Math.Option.{none, some}
use Rattle.rules.specs.Act.{glyph, index, to, by, page, font, size, colour, break, space, draw, device, resolution, init, file, mount, plain, raw, stop, Cmd, just, word, pair}
use Rattle.rules.specs.Widths.{Widths}
use Rattle.rules.specs.State.{Env, start, Glyph, Item, mounted_at, refused, went, acts, perform}
use Rattle.rules.specs.Record.{shown}
use Rattle.laws_motion.specs.Motions.{Beyond, Inside, Outside, Says, Grows, h_after, SomeBeyond}
use Rattle.laws_motion.specs.Runs.{CmdWritten}

-- ---- how far a stream has come: the environment's `phase` is how many of the three prologue commands came, and 4 behind `x s`

-- "Prologue: `x T`, `x r`, `x i`, in that order": which of them a command is, 0 where it is none
abbrev pub in_prologue : Cmd → ℕ
in_prologue (just (glyph n)) = 0
in_prologue (just (index n)) = 0
in_prologue (just (to x n)) = 0
in_prologue (just (by x n)) = 0
in_prologue (just (page n)) = 0
in_prologue (just (font n)) = 0
in_prologue (just (size n)) = 0
in_prologue (just (colour c ns)) = 0
in_prologue (just break) = 0
in_prologue (just space) = 0
in_prologue (just (draw s ns)) = 0
in_prologue (just (device n)) = 1
in_prologue (just (resolution n h v)) = 2
in_prologue (just init) = 3
in_prologue (just (file n)) = 0
in_prologue (just (mount n m)) = 0
in_prologue (just (plain c ns)) = 0
in_prologue (just (raw t)) = 0
in_prologue (just stop) = 0
in_prologue (word n bs) = 0
in_prologue (pair n b) = 0

-- behind a command
abbrev pub phase_behind : Cmd → ℕ → ℕ
phase_behind (just (glyph n)) p = p
phase_behind (just (index n)) p = p
phase_behind (just (to x n)) p = p
phase_behind (just (by x n)) p = p
phase_behind (just (page n)) p = p
phase_behind (just (font n)) p = p
phase_behind (just (size n)) p = p
phase_behind (just (colour c ns)) p = p
phase_behind (just break) p = p
phase_behind (just space) p = p
phase_behind (just (draw s ns)) p = p
phase_behind (just (device n)) p = 1
phase_behind (just (resolution n h v)) p = 2
phase_behind (just init) p = 3
phase_behind (just (file n)) p = p
phase_behind (just (mount n m)) p = p
phase_behind (just (plain c ns)) p = p
phase_behind (just (raw t)) p = p
phase_behind (just stop) p = 4  -- "`x s` ends the stream"
phase_behind (word n bs) p = p
phase_behind (pair n b) p = p

pub record Phases : Type 0 where
  pub starts : start.phase ≡ 0
  pub goes_on : (w : Widths) (e e' : Env) (gs : List Glyph) (xs : List Item) (c : Cmd) → perform e (acts w e c) ≡ went e' gs xs → e'.phase ≡ phase_behind c e.phase

-- ---- 7: "prologue out of order, or a prologue command later; motion, glyph, `N` or any `D` before the first `p`; a byte of anything after
-- `x s`"

-- "motion, glyph, `N` or any `D`": words and two digits are glyphs
abbrev pub on_page_only : Cmd → Bool
on_page_only (just (glyph n)) = true
on_page_only (just (index n)) = true
on_page_only (just (to x n)) = true
on_page_only (just (by x n)) = true
on_page_only (just (page n)) = false
on_page_only (just (font n)) = false
on_page_only (just (size n)) = false
on_page_only (just (colour c ns)) = false
on_page_only (just break) = false
on_page_only (just space) = false
on_page_only (just (draw s ns)) = true
on_page_only (just (device n)) = false
on_page_only (just (resolution n h v)) = false
on_page_only (just init) = false
on_page_only (just (file n)) = false
on_page_only (just (mount n m)) = false
on_page_only (just (plain c ns)) = false
on_page_only (just (raw t)) = false
on_page_only (just stop) = false
on_page_only (word n bs) = true
on_page_only (pair n b) = true

pub data NotDue (e : Env) (c : Cmd) : Type 0 where
  -- "prologue out of order": not all of it came, and the command is not the next of it; "nothing before or between"
  out_of_order : e.phase < 3 → (in_prologue c ≡ suc e.phase → ⊥) → NotDue e c
  -- "or a prologue command later"
  later : 3 ≤ e.phase → 1 ≤ in_prologue c → NotDue e c
  -- "motion, glyph, `N` or any `D` before the first `p`": the page ordinal is "0 before the first `p`"
  before_page : e.ordinal ≡ 0 → on_page_only c ≡ true → NotDue e c
  -- "a byte of anything after `x s`"
  after_stop : 4 ≤ e.phase → NotDue e c

-- ---- 8: "`f` to an unmounted position; glyph or `N` without current font and size"

-- one of both is missing; a size is at least 1
abbrev pub NoFontAndSize : Env → Type 0
NoFontAndSize e = (e.font ≡ none) ⊎ (e.size ≡ 0)

-- no name stands at this position; a name has at least one byte
abbrev pub Unmounted : Env → ℕ → Type 0
Unmounted e n = (i : ℕ) × (shown n ≡ pos i) × (mounted_at i e.mounts ≡ [])

abbrev pub Lacks : Env → Cmd → Type 0
Lacks e (just (glyph n)) = NoFontAndSize e
Lacks e (just (index n)) = NoFontAndSize e
Lacks e (just (to x n)) = ⊥
Lacks e (just (by x n)) = ⊥
Lacks e (just (page n)) = ⊥
Lacks e (just (font n)) = Unmounted e n
Lacks e (just (size n)) = ⊥
Lacks e (just (colour c ns)) = ⊥
Lacks e (just break) = ⊥
Lacks e (just space) = ⊥
Lacks e (just (draw s ns)) = ⊥
Lacks e (just (device n)) = ⊥
Lacks e (just (resolution n h v)) = ⊥
Lacks e (just init) = ⊥
Lacks e (just (file n)) = ⊥
Lacks e (just (mount n m)) = ⊥
Lacks e (just (plain c ns)) = ⊥
Lacks e (just (raw t)) = ⊥
Lacks e (just stop) = ⊥
Lacks e (word n bs) = NoFontAndSize e
Lacks e (pair n b) = NoFontAndSize e

-- ---- 9: "no width for a byte of `t` or `u`"

abbrev pub SomeByte : (ℕ → Type 0) → List ℕ → Type 0
SomeByte P [] = ⊥
SomeByte P (b ∷ bs) = P b ⊎ SomeByte P bs

-- "The table used is that of the name now mounted at the current position": it says no width of the byte
abbrev pub NoWidthOf : Widths → Env → ℕ → ℕ → Type 0
NoWidthOf w e f b = (x : ℕ) → Says w.fonts (mounted_at f e.mounts) b x → ⊥

abbrev pub NoWidth : Widths → Env → Cmd → Type 0
NoWidth w e (just a) = ⊥
NoWidth w e (word n bs) = (f : ℕ) × (e.font ≡ some f) × SomeByte (NoWidthOf w e f) bs
NoWidth w e (pair n b) = ⊥

-- ---- 10: "h or v beyond 99,999,999 either way after a command, or after any glyph of a word (`Dp`: at its end only)"

abbrev pub TooFar : Widths → Env → Cmd → Type 0
TooFar w e (just a) = Outside e a
TooFar w e (word n bs) = (f : ℕ) × (e.font ≡ some f) × ((zs : List ℤ) × Grows w e f (shown n) bs zs × SomeBeyond (h_after (shown e.spot.h) zs))
TooFar w e (pair n b) = Beyond (shown e.spot.h +ℤ shown n)

-- ---- the numbers

-- the reason of this number is against the command
pub data Against (w : Widths) (e : Env) (c : Cmd) : ℕ → Type 0 where
  not-due : NotDue e c → Against w e c 7
  lacks : Lacks e c → Against w e c 8
  no_width : NoWidth w e c → Against w e c 9
  too_far : TooFar w e c → Against w e c 10

-- the smallest number whose reason is against it
pub record Smallest (w : Widths) (e : Env) (c : Cmd) (k : ℕ) : Type 0 where
  pub against : Against w e c k
  pub no_smaller : (j : ℕ) → j < k → Against w e c j → ⊥

pub record Reasons : Type 0 where
  -- "at one command the smallest number"
  pub given : (w : Widths) (e : Env) (c : Cmd) (k : ℕ) → CmdWritten c → Inside e → Smallest w e c k → perform e (acts w e c) ≡ refused k
  -- "Each is given exactly for its reason."
  pub only : (w : Widths) (e : Env) (c : Cmd) (k : ℕ) → CmdWritten c → Inside e → perform e (acts w e c) ≡ refused k → Smallest w e c k
  -- a command that is performed has none against it, and one that has none is performed
  pub none_against : (w : Widths) (e e' : Env) (gs : List Glyph) (xs : List Item) (c : Cmd) → CmdWritten c → Inside e → perform e (acts w e c) ≡ went e' gs xs → (k : ℕ) → Against w e c k → ⊥
  pub else_done : (w : Widths) (e : Env) (c : Cmd) → CmdWritten c → Inside e → ((k : ℕ) → Against w e c k → ⊥) → (e' : Env) × (gs : List Glyph) × (xs : List Item) × (perform e (acts w e c) ≡ went e' gs xs)
