-- The layer of places is true to the stream: the bytes of each record's name stand at its place, and each drawing's and
-- control's bytes are within the stream.
use Prim.Native.Nat.{ℕ, zero, suc, ◌+◌, ◌-◌, ◌≤◌}
use native.Mathlib.Omega.{arith}
use mathlib.Core.Bool.{◌||◌}
use mathlib.Core.List.{List, [], ◌∷◌, ◌++◌, append_assoc, append-nil}
use mathlib.Core.Option.{Option, none, some}
use mathlib.Core.Path.{◌≡◌, refl, sym, ap, ap₂, subst, ◌∙◌}
use lib.Dec.{ltb}
use lib.ListN.{length, take, drop, length-take, length-drop}
use lib.Seq.{drop-drop}
use Rattle.rules.specs.Bytes.{is, is_white, one_line, origin}
use Rattle.rules.specs.Act.{Act, glyph, index, to, by, page, font, size, colour, break, space, draw, device, resolution, init, file, mount, plain, raw, stop, Cmd, just, word, pair}
use Rattle.rules.specs.Drawing.{way_of}
use Rattle.rules.specs.Scan.{command, Scan, got, bad, Cmds, done, wrong, next, one_command, commands}
use Rattle.rules.specs.Widths.{Widths, WidthList, unsound, sound, width_list, Font, width_of}
use Rattle.rules.specs.State.{Env, start, Glyph, Item, Step, refused, went, before, and_then, on_page, due, fits, get, may_go, with_font, recorded, indexed, mounted_at, is_mounted, effect, act, run, Acts, no_acts, these, ready, byte_acts, word_acts, word_in, acts, perform, stopped}
use Rattle.rules.specs.Record.{GlyphRow, ItemRow, name_place, glyph_rows, item_rows, Answer, refuse, answer, after_rows, go_on, follow}
use Rattle.rules.specs.Answers.{stream_most, is_over, read_with, read}
use Rattle.laws.proofs.Cases.{if_both}
use Rattle.laws_scan.proofs.Bounds.{Stands, glyphs_of, glyphs_in, name_stands, Within, command_in}

-- ---- the commands of a stream

-- each command's name stands at its place, and the command ends within s
abbrev pub AllStand : List ℕ → Cmds → Type 0
AllStand s (done at) = Unit {0}
AllStand s (wrong n at k) = Unit {0}
AllStand s (next c at a l more) = Stands (glyphs_in c) a s × (at + l ≤ length s) × AllStand s more

one_stands : (s : List ℕ) (at b : ℕ) (r : List ℕ) (go : ℕ → Cmds) (x : Scan) → drop at s ≡ b ∷ r → ((k : ℕ) → AllStand s (go k)) → Within (b ∷ r) x
    → AllStand s (one_command at go x)
one_stands s at b r go (bad n k) e f h = tt
one_stands s at b r go (got c a l) e f h =
    (rw (← drop-drop a at s, e) (name_stands c a (b ∷ r) h.stands), omega (arith, h.some, h.most, sym (length-drop at s) ∙ ap length e), f (l - 1))

pub commands_stand : (s r : List ℕ) (at k : ℕ) → drop at s ≡ r → AllStand s (commands at k r)
unfolding commands
commands_stand s [] at k e = tt
commands_stand s (b ∷ r) at (suc k) e = commands_stand s r (at + 1) k (sym (drop-drop 1 at s) ∙ ap (drop 1) e)
commands_stand s (b ∷ r) at zero e =
    let f : (k : ℕ) → AllStand s (commands (at + 1) k r) = λ k. commands_stand s r (at + 1) k (sym (drop-drop 1 at s) ∙ ap (drop 1) e) in
    if_both (AllStand s) (is_white b) _ _ (f 0)
    (if_both (AllStand s) (is "#" b) _ _ (f (one_line r))
    (one_stands s at b r (λ k. commands (at + 1) k r) (command b r) e f (command_in b r)))

-- ---- the glyphs of a command have its name, one behind the other

unfoldable pub cat : List Glyph → List ℕ
cat [] = []
cat (g ∷ gs) = g.name ++ cat gs

cat_append : (gs hs : List Glyph) → cat (gs ++ hs) ≡ cat gs ++ cat hs
unfolding cat
cat_append [] hs = refl
cat_append (g ∷ gs) hs = rw (cat_append gs hs) (sym (append_assoc g.name (cat gs) (cat hs)))

abbrev pub Cats : List ℕ → Step → Type 0
Cats n (refused k) = Unit {0}
Cats n (went e gs xs) = cat gs ≡ n

module _ (e : Env) where
  font_cats : (n : List ℕ) (go : ℕ → Step) (o : Option ℕ) → ((f : ℕ) → Cats n (go f)) → Cats n (with_font e go o)
  font_cats n go none h = tt
  font_cats n go (some f) h = if_both (Cats n) (ltb 0 e.size) (go f) (refused 8) (h f) tt

  effect_cats : (a : Act) → Cats (glyphs_of a) (effect e a)
  unfolding cat
  effect_cats (glyph n) = font_cats n (recorded e n 0) e.font (λ f. append-nil n)
  effect_cats (index n) = font_cats [] (indexed e n) e.font (λ f. if_both (Cats []) (ltb n origin) _ _ refl refl)
  effect_cats (to x n) = refl
  effect_cats (by x n) = if_both (Cats []) (fits (get x e.spot) n) _ _ refl tt
  effect_cats (page n) = refl
  effect_cats (font n) = if_both (Cats []) (is_mounted (mounted_at (n - origin) e.mounts)) _ _ refl tt
  effect_cats (size n) = refl
  effect_cats (colour c ns) = refl
  effect_cats break = refl
  effect_cats space = refl
  effect_cats (draw s ns) = if_both (Cats []) (may_go e.spot (way_of s ns)) _ _ refl tt
  effect_cats (device n) = refl
  effect_cats (resolution n h v) = refl
  effect_cats init = refl
  effect_cats (file n) = refl
  effect_cats (mount n m) = refl
  effect_cats (plain c ns) = refl
  effect_cats (raw t) = refl
  effect_cats stop = refl

  pub act_cats : (a : Act) → Cats (glyphs_of a) (act e a)
  unfolding act
  act_cats a = if_both (Cats (glyphs_of a)) (due e a) (effect e a) (refused 7) (effect_cats a) tt

unfoldable pub names_of : List Act → List ℕ
names_of [] = []
names_of (a ∷ xs) = glyphs_of a ++ names_of xs

pub run_cats : (xs : List Act) (e : Env) → Cats (names_of xs) (run e xs)
unfolding run names_of cat
run_cats [] e = refl
run_cats (a ∷ xs) e = go (act e a) (act_cats e a) (λ d. run_cats xs d)
  where
    after : (gs : List Glyph) (is : List Item) (x : Step) → cat gs ≡ glyphs_of a → Cats (names_of xs) x → Cats (glyphs_of a ++ names_of xs) (before gs is x)
    after gs is (refused n) h k = tt
    after gs is (went d hs js) h k = cat_append gs hs ∙ rw (h, k)

    go : (x : Step) → Cats (glyphs_of a) x → ((d : Env) → Cats (names_of xs) (run d xs)) → Cats (glyphs_of a ++ names_of xs) (and_then x (λ d. run d xs))
    go (refused n) h f = tt
    go (went d gs is) h f = after gs is (run d xs) h (f d)

abbrev NamedActs : Cmd → Acts → Type 0
NamedActs c (no_acts n) = Unit {0}
NamedActs c (these xs) = names_of xs ≡ glyphs_in c

word_named : (n : ℕ) (fs : List Font) (name : List ℕ) (far : ℕ → ℕ) (bs : List ℕ) → NamedActs (word n bs) (word_acts fs name far bs)
unfolding word_acts names_of
word_named n fs name far [] = refl
word_named n fs name far (b ∷ bs) = go (width_of name b fs) (word_acts fs name far bs) (word_named n fs name far bs)
  where
    go : (o : Option ℕ) (x : Acts) → NamedActs (word n bs) x → NamedActs (word n (b ∷ bs)) (byte_acts b far o x)
    go none x h = tt
    go (some k) (no_acts m) h = tt
    go (some k) (these xs) h = ap (λ (l : List ℕ). b ∷ l) h

ready-named : (e : Env) (c : Cmd) (go : ℕ → Acts) (o : Option ℕ) → ((f : ℕ) → NamedActs c (go f)) → NamedActs c (ready e go o)
ready-named e c go none h = if_both (NamedActs c) (on_page e) (no_acts 8) (no_acts 7) tt tt
ready-named e c go (some f) h =
    if_both (NamedActs c) (on_page e) _ (no_acts 7) (if_both (NamedActs c) (ltb 0 e.size) (go f) (no_acts 8) (h f) tt) tt

module _ (w : Widths) where
  acts-named : (e : Env) (c : Cmd) → NamedActs c (acts w e c)
  unfolding names_of
  acts-named e (just a) = append-nil (glyphs_of a)
  acts-named e (word n bs) = ready-named e (word n bs) (word_in w e n bs) e.font (λ f. word_named n w.fonts (mounted_at f e.mounts) _ bs)
  acts-named e (pair n b) = ready-named e (pair n b) _ e.font (λ f. refl)

  pub step_cats : (e : Env) (c : Cmd) → Cats (glyphs_in c) (perform e (acts w e c))
  step_cats e c = go (acts w e c) (acts-named e c)
    where
      go : (x : Acts) → NamedActs c x → Cats (glyphs_in c) (perform e x)
      go (no_acts n) h = tt
      go (these xs) h = subst (λ (n : List ℕ). Cats n (run e xs)) h (run_cats xs e)

-- ---- rows

abbrev head_or : ℕ → List ℕ → ℕ
head_or d [] = d
head_or d (b ∷ l) = b

-- a name in two parts stands where its parts stand
both_stand : (x y l : List ℕ) → take (length (x ++ y)) l ≡ x ++ y → (take (length x) l ≡ x) × (take (length y) (drop (length x) l) ≡ y)
both_stand [] y l h = (refl, h)
both_stand (b ∷ x) y [] h = let e : 0 ≡ suc (length (x ++ y)) = ap length h in absurd (omega arith)
both_stand (b ∷ x) y (c ∷ l) h =
    let p : (take (length x) l ≡ x) × (take (length y) (drop (length x) l) ≡ y) = both_stand x y l (ap (λ (k : List ℕ). drop 1 k) h) in
    (ap₂ (λ (d : ℕ) (k : List ℕ). d ∷ k) (ap (head_or c) h) p.0, p.1)

-- the bytes of a record's name stand at its place in s, and so within s; an empty name has place 0
pub record RowIn (s : List ℕ) (r : GlyphRow) : Type 0 where
  pub stands : Stands r.glyph.name r.place s
  pub within : r.place + length r.glyph.name ≤ length s
  pub unnamed : length r.glyph.name ≡ 0 → r.place ≡ 0

abbrev pub AllRows : List ℕ → List GlyphRow → Type 0
AllRows s [] = Unit {0}
AllRows s (r ∷ rs) = RowIn s r × AllRows s rs

-- a drawing's or control's bytes are within s
abbrev pub AllItems : List ℕ → List ItemRow → Type 0
AllItems s [] = Unit {0}
AllItems s (x ∷ xs) = (x.place + x.len ≤ length s) × AllItems s xs

AllRows·append : (s : List ℕ) (rs qs : List GlyphRow) → AllRows s rs → AllRows s qs → AllRows s (rs ++ qs)
AllRows·append s [] qs h k = k
AllRows·append s (r ∷ rs) qs h k = (h.0, AllRows·append s rs qs h.1 k)

AllItems·append : (s : List ℕ) (xs ys : List ItemRow) → AllItems s xs → AllItems s ys → AllItems s (xs ++ ys)
AllItems·append s [] ys h k = k
AllItems·append s (x ∷ xs) ys h k = (h.0, AllItems·append s xs ys h.1 k)

-- "an `N` name has place 0"
no_name : (a : ℕ) (n : List ℕ) → length n ≡ 0 → name_place a n ≡ 0
no_name a [] k = refl
no_name a (b ∷ n) k = absurd (omega (arith, k))

module _ (s : List ℕ) where
  -- a record of this name, its place as the rules have it
  row_in : (g : Glyph) (a : ℕ) → Stands g.name a s → RowIn s (record { glyph = g; place = name_place a g.name })
  row_in g a h = record { stands = at_name g.name h; within = in_name g.name h; unnamed = no_name a g.name }
    where
      at_name : (n : List ℕ) → Stands n a s → Stands n (name_place a n) s
      at_name [] k = refl
      at_name (b ∷ n) k = k

      in_name : (n : List ℕ) → Stands n a s → name_place a n + length n ≤ length s
      in_name [] k = omega arith
      in_name (b ∷ n) k = omega (arith, sym (ap length k) ∙ length-take (suc (length n)) (drop a s), length-drop a s)

  rows_stand : (gs : List Glyph) (a : ℕ) → Stands (cat gs) a s → AllRows s (glyph_rows a gs)
  unfolding glyph_rows cat
  rows_stand [] a h = tt
  rows_stand (g ∷ gs) a h =
      let p : Stands g.name a s × (take (length (cat gs)) (drop (length g.name) (drop a s)) ≡ cat gs) = both_stand g.name (cat gs) (drop a s) h in
      (row_in g a p.0, rows_stand gs (a + length g.name) (rw (← drop-drop (length g.name) a s) p.1))

  items_in : (xs : List Item) (at l : ℕ) → at + l ≤ length s → AllItems s (item_rows at l xs)
  unfolding item_rows
  items_in [] at l h = tt
  items_in (x ∷ xs) at l h = (omega arith, items_in xs at l h)

abbrev pub RowsOf : List ℕ → Answer → Type 0
RowsOf s (refuse n at) = Unit {0}
RowsOf s (answer rs xs e) = AllRows s rs × AllItems s xs

module _ (w : Widths) (s : List ℕ) where
  after_rows_lem : (rs : List GlyphRow) (xs : List ItemRow) (x : Answer) → AllRows s rs → AllItems s xs → RowsOf s x → RowsOf s (after_rows rs xs x)
  after_rows_lem rs xs (refuse n at) h g k = tt
  after_rows_lem rs xs (answer qs ys e) h g k = (AllRows·append s rs qs h k.0, AllItems·append s xs ys g k.1)

  pub follow_rows : (cs : Cmds) (e : Env) → AllStand s cs → RowsOf s (follow w e cs)
  unfolding follow
  follow_rows (done at) e h = if_both (RowsOf s) (stopped e) _ _ (tt, tt) tt
  follow_rows (wrong n at k) e h = if_both (RowsOf s) (stopped e) _ _ tt tt
  follow_rows (next c at a l more) e h = go (perform e (acts w e c)) (step_cats w e c) (λ d. follow_rows more d h.2)
    where
      go : (x : Step) → Cats (glyphs_in c) x → ((d : Env) → RowsOf s (follow w d more)) → RowsOf s (go_on at a l (λ d. follow w d more) x)
      go (refused n) k f = tt
      go (went d gs xs) k f = after_rows_lem (glyph_rows a gs) (item_rows at l xs) (follow w d more) (rows_stand s gs a (rw k h.0)) (items_in s xs at l h.1) (f d)

-- Every record of a stream has its name's bytes at its place, and every entry's bytes are in the stream.
pub names_stand : (w : Widths) (s : List ℕ) → RowsOf s (follow w start (commands 0 0 s))
names_stand w s = follow_rows w s (commands 0 0 s) start (commands_stand s s 0 0 refl)

pub read_stands : (s list : List ℕ) → RowsOf s (read s list)
unfolding read
read_stands s list = if_both (RowsOf s) (is_over stream_most s || is_over 65_536 list) _ _ tt (go (width_list list))
  where
    go : (w : WidthList) → RowsOf s (read_with s w)
    go (unsound at) = tt
    go (sound w) = names_stand w s
