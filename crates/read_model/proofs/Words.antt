-- What the code does for a word is what the rules say of it.
use Rattle.std.specs.Prelude.{Option, Some, None, if◌then◌else◌}
use Prim.Native.Nat.{ℕ, zero, suc, ◌+◌, ◌-◌}
use native.Mathlib.Omega.{arith}
use mathlib.Core.Bool.{Bool, true, false}
use mathlib.Core.List.{List, [], ◌∷◌, map}
use mathlib.Core.Option.{Option as Maybe, none, some}
use mathlib.Core.Path.{◌≡◌, refl, ap, ap₂, ◌∙◌}
use lib.Dec.{ltb}
use lib.ListN.{length, get_or}
use borrow.Author.Tests.{lt-ltb}
use Rattle.rules.specs.declared.Record.{Record}
use Rattle.rules.specs.Bytes.{origin}
use Rattle.rules.specs.Act.{across, Act, glyph, by}
use Rattle.rules.specs.Widths.{Font, width_of, advance}
use Rattle.rules.specs.State.{Env, Glyph, Step, refused, went, before, on_page, with_font, recorded, act, run, Acts, no_acts, these, byte_acts, word_acts, glyph_of, set_gap, set_spot}
use Rattle.rules.specs.Record.{record_of, glyph_rows}
use Rattle.laws.proofs.Cases.{on, no}
use Rattle.read_model.specs.declared.Word.{Word}
use Rattle.read_model.specs.Environment.{may_move}
use Rattle.read_model.specs.Words.{entry_at, all_wide, far_at, word_next, word_end, word_record, word_records}

-- a width as the table holds it
abbrev pub entry_for : Maybe ℕ → ℕ
entry_for none = 0
entry_for (some w) = w + 1

-- the environment at a byte of the word
abbrev pub here : Env → Word → Env
here e d = set_gap (set_spot e (record { h = d.h; v = d.v })) d.gap

-- what a word's records take from the environment
pub record Carries (e : Env) (f unit : ℕ) (d : Word) : Type 0 where
  pub page : on_page e ≡ true
  pub font : e.font ≡ some f
  pub sized : ltb 0 e.size ≡ true
  pub ordinal : d.ordinal ≡ e.ordinal
  pub number : d.number ≡ e.number
  pub position : d.font ≡ f
  pub size : d.size ≡ e.size
  pub quantum : d.quantum ≡ e.quantum
  pub unitwidth : d.unitwidth ≡ unit

pub carries_next : (e : Env) (f unit : ℕ) (d : Word) (s ws : List ℕ) → Carries e f unit d → Carries e f unit (word_next s ws d)
carries_next e f unit d s ws c = record {
  page = c.page;
  font = c.font;
  sized = c.sized;
  ordinal = c.ordinal;
  number = c.number;
  position = c.position;
  size = c.size;
  quantum = c.quantum;
  unitwidth = c.unitwidth;
}

-- ---- widths

module _ (fs : List Font) (name s ws : List ℕ) (block : ℕ) (far : ℕ → ℕ) where
  -- each byte stands in the stream, and the table has its width
  abbrev pub Reads : List ℕ → ℕ → Type 0
  Reads [] at = Unit {0}
  Reads (b ∷ bs) at = (get_or s at 0 ≡ b) × (entry_at ws block b ≡ entry_for (width_of name b fs)) × Reads bs (at + 1)

  abbrev pub Wide : List ℕ → ℕ → Acts → Type 0
  Wide bs at (no_acts n) = (n ≡ 9) × (all_wide (length bs) s ws block at ≡ false)
  Wide bs at (these xs) = all_wide (length bs) s ws block at ≡ true

  pub acts_wide : (bs : List ℕ) (at : ℕ) → Reads bs at → Wide bs at (word_acts fs name far bs)
  unfolding word_acts all_wide
  acts_wide [] at r = refl
  acts_wide (b ∷ bs) at r = go (width_of name b fs) (ap (entry_at ws block) r.0 ∙ r.1) (word_acts fs name far bs) (acts_wide bs (at + 1) r.2)
    where
      go : (o : Maybe ℕ) → entry_at ws block (get_or s at 0) ≡ entry_for o → (x : Acts) → Wide bs (at + 1) x → Wide (b ∷ bs) at (byte_acts b far o x)
      go none q x h = (refl, rw q)
      go (some k) q (no_acts n) h = (h.0, rw (q, lt-ltb 0 (k + 1) (omega arith), h.1))
      go (some k) q (these xs) h = rw (q, lt-ltb 0 (k + 1) (omega arith), h)

-- ---- what the acts do

font_on : (e : Env) (f : ℕ) (go : ℕ → Step) (o : Maybe ℕ) → o ≡ some f → ltb 0 e.size ≡ true → with_font e go o ≡ go f
font_on e f go o a z = rw (a, z)

pub glyph_on : (e : Env) (f : ℕ) (n : List ℕ) → on_page e ≡ true → e.font ≡ some f → ltb 0 e.size ≡ true → act e (glyph n) ≡ went (set_gap e 0) (glyph_of e f n 0 ∷ []) []
unfolding act
glyph_on e f n g a z = rw g (font_on e f (recorded e n 0) e.font a z)

pub by_on : (e : Env) (d : Word) (n : ℕ) → on_page e ≡ true
    → act (set_gap (here e d) 0) (by across n) ≡ (if may_move d.h n then went (set_gap (set_spot e (record { h = d.h + n - origin; v = d.v })) 0) [] [] else refused 10)
unfolding act
by_on e d n g = rw g

-- a glyph and a motion, then the rest
two_on : (e d g : Env) (a b : Act) (ys : List Act) (x : Glyph) → act e a ≡ went d (x ∷ []) [] → act d b ≡ went g [] [] → run e (a ∷ b ∷ ys) ≡ before (x ∷ []) [] (run g ys)
unfolding run
two_on e d g a b ys x h k = rw (h, k) (go (run g ys))
  where
    go : (y : Step) → before (x ∷ []) [] (before [] [] y) ≡ before (x ∷ []) [] y
    go (refused n) = refl
    go (went c gs is) = refl

two_off : (e d : Env) (a b : Act) (ys : List Act) (x : Glyph) (n : ℕ) → act e a ≡ went d (x ∷ []) [] → act d b ≡ refused n → run e (a ∷ b ∷ ys) ≡ refused n
unfolding run
two_off e d a b ys x n h k = rw (h, k)

-- ---- a word

abbrev gap_after : ℕ → ℕ → ℕ
gap_after zero g = g
gap_after (suc n) g = 0

-- a run of a word's acts, against where the word ends and its records
abbrev pub Ran : Env → Word → ℕ → Option ℕ → List Record → Step → Type 0
Ran e d n None rs (refused m) = m ≡ 10
Ran e d n (Some h) rs (refused m) = ⊥
Ran e d n None rs (went e' gs is) = ⊥
Ran e d n (Some h) rs (went e' gs is) =
    (e' ≡ set_gap (set_spot e (record { h = h; v = d.v })) (gap_after n d.gap)) × (map record_of (glyph_rows d.at gs) ≡ rs) × (is ≡ [])

abbrev pub acts_in : Acts → List Act
acts_in (no_acts n) = []
acts_in (these xs) = xs

abbrev pub has_acts : Acts → Bool
has_acts (no_acts n) = false
has_acts (these xs) = true

module _ (e : Env) (f unit : ℕ) (fs : List Font) (name s ws : List ℕ) (block track : ℕ) where
  abbrev far : ℕ → ℕ
  far x = advance x e.size unit e.quantum + track

  pub far_is : (d : Word) (b k : ℕ) → Carries e f unit d → d.block ≡ block → d.track ≡ track → get_or s d.at 0 ≡ b → entry_at ws block b ≡ k + 1 → far_at s ws d ≡ far k
  far_is d b k c p q r w =
      rw (r, p, w, q, c.size, c.unitwidth, c.quantum) (ap (λ (x : ℕ). advance x e.size unit e.quantum + track) (omega arith))

  -- one byte further
  ran_on : (d : Word) (b k n : ℕ) (h : Option ℕ) (x : Step) → Carries e f unit d → Ran e (word_next s ws d) n h (word_records n s ws (word_next s ws d)) x
      → Ran e d (suc n) h (word_records (suc n) s ws d) (before (glyph_of (here e d) f (b ∷ []) 0 ∷ []) [] x)
  unfolding word_records glyph_rows
  ran_on d b k n None (refused m) c r = r
  ran_on d b k n (Some h) (refused m) c r = r
  ran_on d b k n None (went e' gs is) c r = r
  ran_on d b k n (Some h) (went e' gs is) c r =
      (r.0 ∙ gap_same n, ap₂ (λ (y : Record) (l : List Record). y ∷ l) record_same r.1, r.2)
    where
      gap_same : (n : ℕ) → set_gap (set_spot e (record { h = h; v = d.v })) (gap_after n 0) ≡ set_gap (set_spot e (record { h = h; v = d.v })) 0
      gap_same zero = refl
      gap_same (suc n) = refl

      record_same : record_of (record { glyph = glyph_of (here e d) f (b ∷ []) 0; place = d.at }) ≡ word_record d
      record_same = rw (c.ordinal, c.number, c.position, c.size)

  -- a byte of width k, then the rest
  byte_runs : (d : Word) (b k n : ℕ) (ys : List Act) → Carries e f unit d → far_at s ws d ≡ far k
      → (may_move d.h (far_at s ws d) ≡ true → Ran e (word_next s ws d) n (word_end n s ws (word_next s ws d)) (word_records n s ws (word_next s ws d)) (run (here e (word_next s ws d)) ys))
      → Ran e d (suc n) (word_end (suc n) s ws d) (word_records (suc n) s ws d) (run (here e d) (glyph (b ∷ []) ∷ by across (far k) ∷ ys))
  unfolding word_end
  byte_runs d b k n ys c w more =
      on (may_move d.h (far_at s ws d))
      (λ m. rw (m, two_on (here e d) (set_gap (here e d) 0) (here e (word_next s ws d)) (glyph (b ∷ [])) (by across (far k)) ys (glyph_of (here e d) f (b ∷ []) 0) (glyph_on (here e d) f (b ∷ []) c.page c.font c.sized) (moved m))
      (ran_on d b k n (word_end n s ws (word_next s ws d)) (run (here e (word_next s ws d)) ys) c (more m)))
      (λ m. rw (m, two_off (here e d) (set_gap (here e d) 0) (glyph (b ∷ [])) (by across (far k)) ys (glyph_of (here e d) f (b ∷ []) 0) 10 (glyph_on (here e d) f (b ∷ []) c.page c.font c.sized) (stopped m))
      refl)
    where
      moved : may_move d.h (far_at s ws d) ≡ true → act (set_gap (here e d) 0) (by across (far k)) ≡ went (here e (word_next s ws d)) [] []
      moved m = by_on e d (far k) c.page ∙ rw (← w, m)

      stopped : may_move d.h (far_at s ws d) ≡ false → act (set_gap (here e d) 0) (by across (far k)) ≡ refused 10
      stopped m = by_on e d (far k) c.page ∙ rw (← w, m)

  pub word_runs : (bs : List ℕ) (d : Word) (xs : List Act) → word_acts fs name far bs ≡ these xs → Carries e f unit d → d.block ≡ block → d.track ≡ track → Reads fs name s ws block far bs d.at
      → Ran e d (length bs) (word_end (length bs) s ws d) (word_records (length bs) s ws d) (run (here e d) xs)
  unfolding word_acts word_end word_records run glyph_rows
  word_runs [] d xs q c p t r = rw (← ap acts_in q) (refl, refl, refl)
  word_runs (b ∷ bs) d xs q c p t r =
      go (width_of name b fs) r.1 (word_acts fs name far bs) q (λ ys h m. word_runs bs (word_next s ws d) ys h (carries_next e f unit d s ws c) p t r.2)
    where
      go : (o : Maybe ℕ) → entry_at ws block b ≡ entry_for o → (x : Acts) → byte_acts b far o x ≡ these xs
          → ((ys : List Act) → x ≡ these ys → may_move d.h (far_at s ws d) ≡ true → Ran e (word_next s ws d) (length bs) (word_end (length bs) s ws (word_next s ws d)) (word_records (length bs) s ws (word_next s ws d)) (run (here e (word_next s ws d)) ys))
          → Ran e d (suc (length bs)) (word_end (suc (length bs)) s ws d) (word_records (suc (length bs)) s ws d) (run (here e d) xs)
      go none w x q more = no (ap has_acts q)
      go (some k) w (no_acts n) q more = no (ap has_acts q)
      go (some k) w (these ys) q more = rw (← ap acts_in q) (byte_runs d b k (length bs) ys c (far_is d b k c p t r.0 w) (more ys refl))
