-- Records and entries are where their commands are, and no command is left out.
use Prim.Native.Nat.{ℕ, zero, suc, ◌+◌, ◌-◌, ◌<◌, ◌≤◌}
use native.Mathlib.Omega.{arith}
use native.Mathlib.Nat.{add-zero}
use mathlib.Core.Bool.{Bool, true, false, ◌||◌}
use mathlib.Core.List.{List, [], ◌∷◌, ◌++◌, map, append_assoc, append-nil}
use mathlib.Core.Option.{Option, none, some}
use mathlib.Core.Path.{◌≡◌, refl, sym, ap, subst, ◌∙◌}
use borrow.Author.Tests.{eqb-true}
use lib.Dec.{ltb}
use lib.ListN.{length, drop, length-drop, length-append}
use lib.Seq.{drop-drop}
use Rattle.rules.specs.Bytes.{is, is_not_newline, is_white, one_line, origin}
use Rattle.rules.specs.Act.{across, Act, glyph, index, to, by, page, font, size, colour, break, space, draw, device, resolution, init, file, mount, plain, raw, stop, Cmd, just, word, pair}
use Rattle.rules.specs.Drawing.{way_of}
use Rattle.rules.specs.Scan.{got, bad, Scan, command, Cmds, one_command, commands}
use Rattle.rules.specs.Widths.{Widths, WidthList, unsound, sound, width_list, Font, width_of}
use Rattle.rules.specs.State.{get, fits, may_go, Env, start, Glyph, Item, Step, refused, went, before, and_then, on_page, due, with_font, recorded, indexed, mounted_at, is_mounted, effect, act, run, Acts, no_acts, these, ready, byte_acts, word_acts, word_in, acts, perform, stopped}
use Rattle.rules.specs.Record.{GlyphRow, ItemRow, name_place, glyph_rows, item_rows, Answer, refuse, answer, after_rows, go_on, follow}
use Rattle.rules.specs.Answers.{stream_most, is_over, read_with, read}
use Rattle.laws.proofs.Cases.{on, no, if_both, if_on}
use Rattle.laws_scan.proofs.Bounds.{span_le, command-within, glyphs_in}
use Rattle.laws_scan.proofs.Walk.{from, from_white, from_comment, from_got}
use Rattle.laws_scan.proofs.Names.{cat, step_cats}
use Rattle.laws_offsets.specs.Stream.{byte_at, behind_at, command_at, FirstByte, ReadTo, from_start, past_white, past_comment, past_command}
use Rattle.laws_offsets.specs.Places.{Performed, EntriesFrom, name_bytes, RecordAt, EachRecord, Placed, Places}
use Rattle.laws_offsets.proofs.Stream.{between, byte_here}
use Rattle.laws_offsets.proofs.Exactly.{inside_of, got_inside, got_no, white-bad, hash_bad}

-- ---- what a command enters: nothing; or itself, and only where it is one act

abbrev ItemsOf : Cmd → List Item → Type 0
ItemsOf c [] = Unit {0}
ItemsOf c (x ∷ []) = c ≡ just x.act
ItemsOf c (x ∷ y ∷ xs) = ⊥

abbrev Enters : Cmd → Step → Type 0
Enters c (refused n) = Unit {0}
Enters c (went e gs xs) = ItemsOf c xs

abbrev pub Quiet : Step → Type 0
Quiet (refused n) = Unit {0}
Quiet (went e gs xs) = xs ≡ []

font_quiet : (e : Env) (go : ℕ → Step) (o : Option ℕ) → ((f : ℕ) → Quiet (go f)) → Quiet (with_font e go o)
font_quiet e go none h = tt
font_quiet e go (some f) h = if_both Quiet (ltb 0 e.size) (go f) (refused 8) (h f) tt

quiet_enters : (c : Cmd) (x : Step) → Quiet x → Enters c x
quiet_enters c (refused n) h = tt
quiet_enters c (went e gs xs) h = rw h tt

glyph_quiet : (e : Env) (n : List ℕ) → Quiet (effect e (glyph n))
glyph_quiet e n = font_quiet e (recorded e n 0) e.font (λ f. refl)

by_quiet : (e : Env) (n : ℕ) → Quiet (effect e (by across n))
by_quiet e n = if_both Quiet (fits e.spot.h n) _ (refused 10) refl tt

effect_enters : (e : Env) (a : Act) → Enters (just a) (effect e a)
effect_enters e (glyph n) = quiet_enters (just (glyph n)) (effect e (glyph n)) (glyph_quiet e n)
effect_enters e (index n) =
    quiet_enters (just (index n)) (effect e (index n))
    (font_quiet e (indexed e n) e.font (λ f. if_both Quiet (ltb n origin) _ _ refl refl))
effect_enters e (to x n) = tt
effect_enters e (by x n) = if_both (Enters (just (by x n))) (fits (get x e.spot) n) _ (refused 10) tt tt
effect_enters e (page n) = tt
effect_enters e (font n) = if_both (Enters (just (font n))) (is_mounted (mounted_at (n - origin) e.mounts)) _ (refused 8) tt tt
effect_enters e (size n) = tt
effect_enters e (colour c ns) = tt
effect_enters e break = tt
effect_enters e space = tt
effect_enters e (draw s ns) = if_both (Enters (just (draw s ns))) (may_go e.spot (way_of s ns)) _ (refused 10) refl tt
effect_enters e (device n) = refl
effect_enters e (resolution n h v) = refl
effect_enters e init = refl
effect_enters e (file n) = refl
effect_enters e (mount n m) = refl
effect_enters e (plain c ns) = refl
effect_enters e (raw t) = refl
effect_enters e stop = refl

-- an act alone
alone_enters : (e : Env) (a : Act) → Enters (just a) (run e (a ∷ []))
unfolding run act
alone_enters e a = then_enters (act e a) (if_both (Enters (just a)) (due e a) (effect e a) (refused 7) (effect_enters e a) tt)
  where
    then_enters : (x : Step) → Enters (just a) x → Enters (just a) (and_then x (λ d. went d [] []))
    then_enters (refused n) h = tt
    then_enters (went d gs xs) h = rw (append-nil xs) h

then_quiet : (x : Step) (go : Env → Step) → Quiet x → ((d : Env) → Quiet (go d)) → Quiet (and_then x go)
then_quiet (refused n) go h f = tt
then_quiet (went d gs xs) go h f = joined (go d) (f d)
  where
    joined : (y : Step) → Quiet y → Quiet (before gs xs y)
    joined (refused n) k = tt
    joined (went d' gs' xs') k = rw (h, k)

-- acts of a word or of two digits
abbrev QuietActs : Acts → Type 0
QuietActs (no_acts n) = Unit {0}
QuietActs (these ys) = (e : Env) → Quiet (run e ys)

act_quiet : (e : Env) (a : Act) → Quiet (effect e a) → Quiet (act e a)
unfolding act
act_quiet e a h = if_both Quiet (due e a) (effect e a) (refused 7) h tt

byte_quiet : (e : Env) (n : List ℕ) (m : ℕ) (ys : List Act) → ((d : Env) → Quiet (run d ys)) → Quiet (run e (glyph n ∷ by across m ∷ ys))
unfolding run
byte_quiet e n m ys f =
    then_quiet (act e (glyph n)) (λ d. run d (by across m ∷ ys)) (act_quiet e (glyph n) (glyph_quiet e n))
    (λ d. then_quiet (act d (by across m)) (λ d'. run d' ys) (act_quiet d (by across m) (by_quiet d m)) f)

pair_quiet : (e : Env) (n : List ℕ) (m : ℕ) → Quiet (run e (by across m ∷ glyph n ∷ []))
unfolding run
pair_quiet e n m =
    then_quiet (act e (by across m)) (λ d. run d (glyph n ∷ [])) (act_quiet e (by across m) (by_quiet e m))
    (λ d. then_quiet (act d (glyph n)) (λ d'. run d' []) (act_quiet d (glyph n) (glyph_quiet d n)) (λ d'. refl))

word_quiet : (fs : List Font) (name : List ℕ) (far : ℕ → ℕ) (bs : List ℕ) → QuietActs (word_acts fs name far bs)
unfolding word_acts run
word_quiet fs name far [] = λ e. refl
word_quiet fs name far (b ∷ bs) = go (width_of name b fs) (word_acts fs name far bs) (word_quiet fs name far bs)
  where
    go : (o : Option ℕ) (t : Acts) → QuietActs t → QuietActs (byte_acts b far o t)
    go none t h = tt
    go (some x) (no_acts n) h = tt
    go (some x) (these ys) h = λ e. byte_quiet e (b ∷ []) (far x) ys h

ready_quiet : (e : Env) (go : ℕ → Acts) (o : Option ℕ) → ((f : ℕ) → QuietActs (go f)) → QuietActs (ready e go o)
ready_quiet e go none h = if_both QuietActs (on_page e) (no_acts 8) (no_acts 7) tt tt
ready_quiet e go (some f) h = if_both QuietActs (on_page e) _ (no_acts 7) (if_both QuietActs (ltb 0 e.size) (go f) (no_acts 8) (h f) tt) tt

perform_quiet : (e : Env) (x : Acts) → QuietActs x → Quiet (perform e x)
perform_quiet e (no_acts n) h = tt
perform_quiet e (these ys) h = h e

pub word_enters_none : (w : Widths) (e : Env) (n : ℕ) (bs : List ℕ) → Quiet (perform e (acts w e (word n bs)))
word_enters_none w e n bs = perform_quiet e (acts w e (word n bs)) (ready_quiet e (word_in w e n bs) e.font (λ f. word_quiet w.fonts _ _ bs))

pub pair_enters_none : (w : Widths) (e : Env) (n b : ℕ) → Quiet (perform e (acts w e (pair n b)))
pair_enters_none w e n b =
    perform_quiet e (acts w e (pair n b)) (ready_quiet e (λ f. these (by across n ∷ glyph (b ∷ []) ∷ [])) e.font (λ f d. pair_quiet d (b ∷ []) n))

step_enters : (w : Widths) (e : Env) (c : Cmd) → Enters c (perform e (acts w e c))
step_enters w e (just a) = alone_enters e a
step_enters w e (word n bs) = quiet_enters (word n bs) (perform e (acts w e (word n bs))) (word_enters_none w e n bs)
step_enters w e (pair n b) = quiet_enters (pair n b) (perform e (acts w e (pair n b))) (pair_enters_none w e n b)

-- ---- places of names

place_some : (a : ℕ) (n : List ℕ) → 1 ≤ length n → name_place a n ≡ a
place_some a [] h = absurd (omega arith)
place_some a (b ∷ n) h = refl

place_none : (a : ℕ) (n : List ℕ) → length n ≡ 0 → name_place a n ≡ 0
place_none a [] h = refl
place_none a (b ∷ n) h = absurd (omega arith)

name_in_cat : (front : List Glyph) (g : Glyph) (rest : List Glyph) → length g.name ≤ length (cat (front ++ g ∷ rest))
unfolding cat
name_in_cat [] g rest = omega (arith, length-append g.name (cat rest))
name_in_cat (f ∷ front) g rest = omega (arith, length-append f.name (cat (front ++ g ∷ rest)), name_in_cat front g rest)

bytes-append : (front : List Glyph) (g : Glyph) → name_bytes (front ++ g ∷ []) ≡ name_bytes front + length g.name
bytes-append [] g = omega arith
bytes-append (f ∷ front) g = omega (arith, bytes-append front g)

-- ---- the rows of one command

module _ (w : Widths) (s : List ℕ) (at : ℕ) (c : Cmd) (a l : ℕ) (xs : List Item) where
  no_index_name : (front : List Glyph) (g : Glyph) (rest : List Glyph) → Performed w s at c a l (front ++ g ∷ rest) xs → (n : ℕ) → c ≡ just (index n) → length g.name ≡ 0
  no_index_name front g rest p n q =
      let k : cat (front ++ g ∷ rest) ≡ glyphs_in c = rw p.made at (step_cats w p.env c) in
      omega (arith, name_in_cat front g rest, ap length k, ap (λ (x : Cmd). length (glyphs_in x)) q)

  one_record : (front : List Glyph) (g : Glyph) (rest : List Glyph) (m : ℕ) → m ≡ at + a + name_bytes front → Performed w s at c a l (front ++ g ∷ rest) xs
      → RecordAt w s (record { glyph = g; place = name_place m g.name })
  one_record front g rest m e p = record {
    at = at;
    cmd = c;
    name = a;
    len = l;
    front = front;
    rest = rest;
    items = xs;
    here = p;
    place = λ h. place_some m g.name h ∙ e;
    no_name = λ h. place_none m g.name h;
    of_N = λ n q. (place_none m g.name (no_index_name front g rest p n q), no_index_name front g rest p n q);
  }

  records_of : (gs front : List Glyph) (m : ℕ) → m ≡ at + a + name_bytes front → Performed w s at c a l (front ++ gs) xs → EachRecord w s (glyph_rows m gs)
  unfolding glyph_rows
  records_of [] front m e p = tt
  records_of (g ∷ gs) front m e p = (
    one_record front g gs m e p,
    records_of gs (front ++ g ∷ []) (m + length g.name) (omega (arith, e, bytes-append front g)) (rw (append_assoc front (g ∷ []) gs) p),
  )

module _ (w : Widths) (s : List ℕ) where
  each_append : (rs qs : List GlyphRow) → EachRecord w s rs → EachRecord w s qs → EachRecord w s (rs ++ qs)
  each_append [] qs h k = k
  each_append (r ∷ rs) qs h k = (h.0, each_append rs qs h.1 k)

  entries_back : (m n : ℕ) (xs : List ItemRow) → m ≤ n → EntriesFrom w s n xs → EntriesFrom w s m xs
  entries_back m n [] h k = tt
  entries_back m n (x ∷ xs) h k = (omega (arith, k.0), k.1, k.2)

  entries_of : (at : ℕ) (c : Cmd) (a l : ℕ) (gs : List Glyph) (xs : List Item) (ys : List ItemRow) → ItemsOf c xs → Performed w s at c a l gs xs → EntriesFrom w s (at + l) ys
      → EntriesFrom w s at (item_rows at l xs ++ ys)
  unfolding item_rows
  entries_of at c a l gs [] ys q p h = entries_back at (at + l) ys (omega arith) h
  entries_of at c a l gs (x ∷ []) ys q p h =
      (omega arith, record { name = a; glyphs = gs; here = subst (λ (d : Cmd). Performed w s at d a l gs (x ∷ [])) q p }, h)
  entries_of at c a l gs (x ∷ y ∷ xs) ys q p h = absurd q

  -- ---- the rows from a place on

  abbrev Rows : ℕ → Answer → Type 0
  Rows at (refuse n p) = Unit {0}
  Rows at (answer rs xs e) = EachRecord w s rs × EntriesFrom w s at xs

  rows_back : (m n : ℕ) (x : Answer) → m ≤ n → Rows n x → Rows m x
  rows_back m n (refuse k p) h g = tt
  rows_back m n (answer rs xs e) h g = (g.0, entries_back m n xs h g.1)

  after_rows_lem : (at : ℕ) (c : Cmd) (a l : ℕ) (gs : List Glyph) (xs : List Item) (x : Answer) → ItemsOf c xs → Performed w s at c a l gs xs → Rows (at + l) x
      → Rows at (after_rows (glyph_rows (at + a) gs) (item_rows at l xs) x)
  after_rows_lem at c a l gs xs (refuse n k) q p h = tt
  after_rows_lem at c a l gs xs (answer rs ys e) q p h =
      (each_append (glyph_rows (at + a) gs) rs (records_of w s at c a l xs gs [] (at + a) (omega arith) p) h.0, entries_of at c a l gs xs ys q p h.1)

  done_rows : (at : ℕ) (e : Env) (c : Cmd) (a l : ℕ) (more : Env → Answer) (x : Step) → FirstByte s at → ReadTo w s at e → command_at s at ≡ got c a l → perform e (acts w e c) ≡ x
      → Enters c x → ((d : Env) → ReadTo w s (at + l) d → Rows (at + l) (more d)) → Rows at (go_on at (at + a) l more x)
  done_rows at e c a l more (refused n) f h p q k go = tt
  done_rows at e c a l more (went d gs xs) f h p q k go =
      after_rows_lem at c a l gs xs (more d) k (record { first = f; scanned = p; env = e; read_to = h; behind = d; made = q }) (go d (past_command at e d c a l gs xs h p q))

  one_rows : (at b : ℕ) (r : List ℕ) (e : Env) (x : Scan) → FirstByte s at → ReadTo w s at e → command_at s at ≡ x → command b r ≡ x
      → ((k : ℕ) (d : Env) → k ≤ length r → ReadTo w s (at + 1 + k) d → Rows (at + 1 + k) (follow w d (commands (at + 1) k r)))
      → Rows at (follow w e (one_command at (λ k. commands (at + 1) k r) x))
  unfolding follow
  one_rows at b r e (bad n k) f h p q more = if_both (Rows at) (stopped e) _ _ tt tt
  one_rows at b r e (got c a l) f h p q more =
      let g : (1 ≤ l) × (l ≤ suc (length r)) × (a ≤ l) = command-within b r c a l q in
      let z : at + l ≡ at + 1 + (l - 1) = omega arith in
      done_rows at e c a l (λ d. follow w d (commands (at + 1) (l - 1) r)) (perform e (acts w e c)) f h p refl (step_enters w e c)
      (λ d t. rw z (more (l - 1) d (omega arith) (rw z at t)))

  stream_rows : (r : List ℕ) (at k : ℕ) (e : Env) → drop at s ≡ r → at ≤ length s → k ≤ length r → ReadTo w s (at + k) e → Rows (at + k) (follow w e (commands at k r))
  unfolding commands follow
  stream_rows [] at k e d m l h = if_both (Rows (at + k)) (stopped e) _ _ (tt, tt) tt
  stream_rows (b ∷ r) at (suc k) e d m l h =
      let z : at + suc k ≡ at + 1 + k = omega arith in
      rw z (stream_rows r (at + 1) k e (sym (drop-drop 1 at s) ∙ ap (drop 1) d) (omega (arith, sym (length-drop at s) ∙ ap length d)) (omega arith) (rw z at h))
  stream_rows (b ∷ r) at zero e d m l h =
      let here : byte_at s at ≡ b = byte_here w s at b r d in
      let rest : behind_at s at ≡ r = sym (drop-drop 1 at s) ∙ ap (drop 1) d in
      let t : ReadTo w s at e = rw add-zero at h in
      let i : at < length s = omega (arith, sym (length-drop at s) ∙ ap length d) in
      let more : (k : ℕ) (x : Env) → k ≤ length r → ReadTo w s (at + 1 + k) x → Rows (at + 1 + k) (follow w x (commands (at + 1) k r)) =
      λ k x q u. stream_rows r (at + 1) k x rest (omega arith) q u in
      let P : Cmds → Type 0 = λ cs. Rows at (follow w e cs) in
      rw add-zero (if_on P (is_white b) _ _ (λ p. rows_back at (at + 1 + 0) (follow w e (commands (at + 1) 0 r)) (omega arith) (more 0 e (omega arith) (rw add-zero (past_white at e t (rw here p))))) (λ n.
      if_on P (is "#" b) _ _ (λ p. rows_back at (at + 1 + one_line r) (follow w e (commands (at + 1) (one_line r) r)) (omega arith) (more (one_line r) e (span_le is_not_newline r) (rw rest at (past_comment at e t (rw here p))))) (λ p.
      one_rows at b r e (command b r) (record { between = between w s at e t; inside = i; no_white = rw here n; no_comment = rw here p }) t (rw (here, rest)) refl more)))

-- ---- what any command gave is there

-- rows in front of rows
after_after : (rs qs : List GlyphRow) (xs ys : List ItemRow) (x : Answer) → after_rows rs xs (after_rows qs ys x) ≡ after_rows (rs ++ qs) (xs ++ ys) x
after_after rs qs xs ys (refuse n at) = refl
after_after rs qs xs ys (answer ts zs e) = rw (append_assoc rs qs ts, append_assoc xs ys zs)

glyphs_of : (gs : List Glyph) (a : ℕ) → map (λ (r : GlyphRow). r.glyph) (glyph_rows a gs) ≡ gs
unfolding glyph_rows
glyphs_of [] a = refl
glyphs_of (g ∷ gs) a = ap (λ (l : List Glyph). g ∷ l) (glyphs_of gs (a + length g.name))

rows_of : Answer → List GlyphRow
rows_of (refuse n at) = []
rows_of (answer rs xs e) = rs

items_of : Answer → List ItemRow
items_of (refuse n at) = []
items_of (answer rs xs e) = xs

is_answer : Answer → Bool
is_answer (refuse n at) = false
is_answer (answer rs xs e) = true

-- rows and entries with these among them
record Split (rs : List GlyphRow) (ys : List ItemRow) (ms : List GlyphRow) (zs : List ItemRow) : Type 0 where
  front : List GlyphRow
  rest : List GlyphRow
  rows : rs ≡ front ++ (ms ++ rest)
  entered : List ItemRow
  more : List ItemRow
  entries : ys ≡ entered ++ (zs ++ more)

split_at : (rs : List GlyphRow) (ys : List ItemRow) (e : Env) (qs ms : List GlyphRow) (us zs : List ItemRow) (x : Answer) → answer rs ys e ≡ after_rows qs us (after_rows ms zs x) → Split rs ys ms zs
unfolding rows_of items_of is_answer
split_at rs ys e qs ms us zs (refuse n at) h = no (sym (ap is_answer h))
split_at rs ys e qs ms us zs (answer ts vs d) h = record { front = qs; rest = ts; rows = ap rows_of h; entered = us; more = vs; entries = ap items_of h }

module _ (w : Widths) (s : List ℕ) where
  -- the rows of what has been read, and then the rest
  record ReadRows (at : ℕ) (e : Env) : Type 0 where
    rows : List GlyphRow
    entered : List ItemRow
    whole : follow w start (commands 0 0 s) ≡ after_rows rows entered (follow w e (from s at))

  empty_after : (x : Answer) → after_rows [] [] x ≡ x
  empty_after (refuse n at) = refl
  empty_after (answer rs xs e) = refl

  moved_to : (at m : ℕ) (e : Env) → from s at ≡ from s m → ReadRows at e → ReadRows m e
  moved_to at m e q k = record { rows = k.rows; entered = k.entered; whole = k.whole ∙ ap (λ (x : Cmds). after_rows k.rows k.entered (follow w e x)) q }

  step_on : (at : ℕ) (e d : Env) (c : Cmd) (a l : ℕ) (gs : List Glyph) (xs : List Item) → command_at s at ≡ got c a l → perform e (acts w e c) ≡ went d gs xs
      → follow w e (from s at) ≡ after_rows (glyph_rows (at + a) gs) (item_rows at l xs) (follow w d (from s (at + l)))
  unfolding follow
  step_on at e d c a l gs xs q r =
      let i : at < length s = got_inside w s at c a l q in
      let k : is_white (byte_at s at) ≡ false = got_no (is_white (byte_at s at)) (command_at s at) c a l q (white-bad (byte_at s at) (behind_at s at)) in
      let j : is "#" (byte_at s at) ≡ false = got_no (is "#" (byte_at s at)) (command_at s at) c a l q (hash_bad (byte_at s at) (behind_at s at)) in
      rw (from_got s at i k j c a l q, r)

  read_rows : (at : ℕ) (e : Env) → ReadTo w s at e → ReadRows at e
  read_rows _ _ from_start = record { rows = []; entered = []; whole = sym (empty_after _) }
  read_rows _ _ (past_white at e h q) = moved_to at (at + 1) e (from_white s at (inside_of w s is_white at refl q) q) (read_rows at e h)
  read_rows _ _ (past_comment at e h q) =
      let k : is_white (byte_at s at) ≡ false = rw (eqb-true (byte_at s at) 35 q) in
      moved_to at (at + 1 + one_line (behind_at s at)) e (from_comment s at (inside_of w s (λ b. is "#" b) at refl q) k q (at + 1 + one_line (behind_at s at)) refl) (read_rows at e h)
  read_rows _ _ (past_command at e d c a l gs xs h q r) =
      let k : ReadRows at e = read_rows at e h in
      record {
        rows = k.rows ++ glyph_rows (at + a) gs;
        entered = k.entered ++ item_rows at l xs;
        whole = k.whole ∙ ap (after_rows k.rows k.entered) (step_on at e d c a l gs xs q r) ∙ after_after k.rows (glyph_rows (at + a) gs) k.entered (item_rows at l xs) (follow w d (from s (at + l)));
      }

  -- the answer's rows, from a command on
  module _ (rs : List GlyphRow) (ys : List ItemRow) (e : Env) (z : follow w start (commands 0 0 s) ≡ answer rs ys e) where
    split : (at : ℕ) (c : Cmd) (a l : ℕ) (gs : List Glyph) (xs : List Item) → Performed w s at c a l gs xs → Split rs ys (glyph_rows (at + a) gs) (item_rows at l xs)
    split at c a l gs xs p =
        let k : ReadRows at p.env = read_rows at p.env p.read_to in
        split_at rs ys e k.rows (glyph_rows (at + a) gs) k.entered (item_rows at l xs) (follow w p.behind (from s (at + l)))
        (sym z ∙ k.whole ∙ ap (after_rows k.rows k.entered) (step_on at p.env p.behind c a l gs xs p.scanned p.made))

    placed : Placed w s rs ys
    unfolding item_rows
    placed =
        let k : Rows w s 0 (answer rs ys e) = rw z at (stream_rows w s s 0 0 start refl (omega arith) (omega arith) from_start) in
        record {
          records = k.0;
          entries = k.1;
          every_record = λ at c a l gs xs p. let x : Split rs ys (glyph_rows (at + a) gs) (item_rows at l xs) = split at c a l gs xs p in (x.front, glyph_rows (at + a) gs, x.rest, x.rows, glyphs_of gs (at + a));
          every_entry = λ at c a l gs i p. let x : Split rs ys (glyph_rows (at + a) gs) (item_rows at l (i ∷ [])) = split at c a l gs (i ∷ []) p in (x.entered, x.more, x.entries);
        }

pub places : Places
unfolding read is_answer
places s list rs xs e h = go (width_list list) refl (on (is_over stream_most s || is_over 65_536 list) (λ k. no (sym (ap is_answer (sym (rw k at h))))) (λ k. rw k at h))
  where
    go : (x : WidthList) → width_list list ≡ x → read_with s (width_list list) ≡ answer rs xs e → (w : Widths) × (width_list list ≡ sound w) × Placed w s rs xs
    go (unsound at) q k = no (ap is_answer (rw q at k))
    go (sound w) q k = (w, q, placed w s rs xs e (rw q at k))
