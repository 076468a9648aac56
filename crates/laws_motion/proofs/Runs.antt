-- In every run the commands are as their texts make sure of, and every place is within the limit; and of every sound width list.
use Prim.Native.Nat.{ℕ, ◌+◌, ◌-◌, ◌≤◌}
use native.Mathlib.Omega.{arith}
use mathlib.Core.Bool.{Bool, true, ◌&&◌}
use mathlib.Core.List.{List, [], ◌∷◌, ◌++◌, map}
use mathlib.Core.Option.{Option, none, some}
use mathlib.Core.Path.{◌≡◌, refl, ◌∙◌}
use lib.Dec.{leb, ltb}
use lib.IntN.{nat_abs}
use lib.ListN.{length, length-set}
use borrow.Author.Tests.{leb-true, le-ltb}
use Rattle.rules.specs.Bytes.{bytes, most, origin, within, near}
use Rattle.rules.specs.Act.{across, Scheme, cmy, default, gray, cmyk, rgb, Shape, line, arc, circle, solid_circle, ellipse, solid_ellipse, polygon, solid_polygon, spline, thickness, gray_fill, colour_fill, Plain, pause, trailer, height, slant, underline, Act, glyph, index, to, by, page, font, size, colour, break, space, draw, device, resolution, init, file, mount, plain, raw, stop, Cmd, just, word, pair}
use Rattle.rules.specs.Letters.{components}
use Rattle.rules.specs.Drawing.{form_of, is_paired, way_of}
use Rattle.rules.specs.Controls.{plain_count}
use Rattle.rules.specs.Scan.{is_name, is_position, is_positive, is_component, is_gray, is_switch, up_to, shape_limits, plain_limits, Cmds, done, wrong, next, commands, bare}
use Rattle.rules.specs.Widths as W
use Rattle.rules.specs.Widths.{Line, lines_from, is_list_name, add_width, Widths, Due, unit_due, block_due, width_due, LineRead, wrong_line, right_line, unit_line, is_new, may_follow, byte_line, width_line, numbered, block_line, line_says, line_read, WidthList, unsound, sound, line_on, lines_say, width_list, Font, width_of}
use Rattle.rules.specs.State.{Env, start, Step, refused, went, get, fits, may_go, mounted_at, is_mounted, recorded, indexed, effect, on_page, act, run, Acts, no_acts, these, ready, byte_acts, word_acts, word_in, acts, perform, steps}
use Rattle.rules.specs.Record.{shown}
use Rattle.laws.proofs.Cases.{on, and_left, and_right, no, if_both, if_on}
use Rattle.laws.proofs.Good.{all_true, Name, Count, Good, GoodCmd, AllCmds}
use Rattle.laws.proofs.Limits.{within_bounds, up_to-near, up_to_few}
use Rattle.laws_find.proofs.Written.{listed_good}
use Rattle.laws_scan.proofs.Fair.{commands_good}
use Rattle.laws_motion.proofs.Steps.{After, if_after, font_after, behind, after_map, then_after}
use Rattle.laws_motion.proofs.Integers.{abs_diff}
use Rattle.laws_motion.proofs.Held.{shown_pos}
use Rattle.laws_motion.proofs.Moved.{numbers_hold, refusal_10}
use Rattle.laws_motion.specs.Motions.{FromTo, EvenCount, Arguments, AsWritten, Inside}
use Rattle.laws_motion.specs.Runs.{FontNames, Each, Any, Components, UpTo64, DrawingLimits, PlainLimits, IsName, InLimits, CmdWritten, InEveryRun, InEveryList}

-- ---- what is scanned is as its text makes sure of

paired_even : (ns : List ℕ) → is_paired ns ≡ true → EvenCount ns
paired_even [] h = tt
paired_even (x ∷ []) h = no h
paired_even (x ∷ y ∷ []) h = tt
paired_even (x ∷ y ∷ z ∷ r) h = paired_even (z ∷ r) h

count_arguments : (s : Shape) (ns : List ℕ) → Count (form_of s) ns → Arguments s ns
count_arguments line ns h = h
count_arguments arc ns h = h
count_arguments circle ns h = h
count_arguments solid_circle ns h = h
count_arguments ellipse ns h = h
count_arguments solid_ellipse ns h = h
count_arguments polygon ns h = paired_even ns h
count_arguments solid_polygon ns h = paired_even ns h
count_arguments spline ns h = paired_even ns h
count_arguments thickness ns h = h
count_arguments gray_fill ns h = tt
count_arguments (colour_fill c) ns h = tt

-- a number from lo to hi, both moved up
from_to : (lo hi n : ℕ) → within (origin + lo) (origin + hi) n ≡ true → FromTo lo hi n
from_to lo hi n h =
    let b : (origin + lo ≤ n) × (n ≤ origin + hi) = within_bounds (origin + lo) (origin + hi) n h in
    (n - origin, rw (le-ltb n origin (omega (arith, b.0))), omega (arith, b.0), omega (arith, b.1))

good_written : (a : Act) → Good a → AsWritten a
good_written (glyph n) h = tt
good_written (index n) h = tt
good_written (to x n) h = numbers_hold.near_is n (and_left (near n) true h.0)
good_written (by x n) h = tt
good_written (page n) h = tt
good_written (font n) h = tt
good_written (size n) h = tt
good_written (colour c ns) h = tt
good_written break h = tt
good_written space h = tt
good_written (draw s ns) h = count_arguments s ns h.1
good_written (device n) h = tt
good_written (resolution n m v) h = from_to 1 most m (and_left (is_positive m) (is_positive v && true) (and_right (is_positive n) (is_positive m && (is_positive v && true)) h.0))
good_written init h = tt
good_written (file n) h = tt
good_written (mount n m) h = tt
good_written (plain c ns) h = tt
good_written (raw t) h = tt
good_written stop h = tt

-- ---- its limits

module _ (p : ℕ → Bool) (P : ℕ → Type 0) (f : (n : ℕ) → p n ≡ true → P n) where
  each : (ns : List ℕ) → all_true (map p ns) ≡ true → Each P ns
  each [] h = tt
  each (n ∷ ns) h = (f n (and_left (p n) (all_true (map p ns)) h), each ns (and_right (p n) (all_true (map p ns)) h))

any : (n : ℕ) → near n ≡ true → Any n
any n h = numbers_hold.near_is n h

all_any : (ns : List ℕ) → all_true (map near ns) ≡ true → Each Any ns
all_any ns h = each near Any any ns h

all_components : (ns : List ℕ) → all_true (map is_component ns) ≡ true → Each (FromTo 0 65_536) ns
all_components ns h = each is_component (FromTo 0 65_536) (λ n k. from_to 0 65_536 n k) ns h

coloured : (c : Scheme) (ns : List ℕ) → all_true (map is_component ns) ≡ true → length ns ≡ components c → Components c ns
coloured cmy ns h k = (k, all_components ns h)
coloured default ns h k = (k, all_components ns h)
coloured gray ns h k = (k, all_components ns h)
coloured cmyk ns h k = (k, all_components ns h)
coloured rgb ns h k = (k, all_components ns h)

paired_some : (ns : List ℕ) → is_paired ns ≡ true → 2 ≤ length ns
paired_some [] h = no h
paired_some (x ∷ []) h = no h
paired_some (x ∷ y ∷ r) h = omega arith

up_to_64 : (ns : List ℕ) → all_true (up_to 64 ns) ≡ true → is_paired ns ≡ true → UpTo64 ns
up_to_64 ns h k = (paired_some ns k, up_to_few 64 ns h, all_any ns (up_to-near 64 ns h))

gray_limit : (n : ℕ) → is_gray n ≡ true → nat_abs (shown n) ≤ 32_767
gray_limit n h =
    let b : (origin - 32767 ≤ n) × (n ≤ origin + 32767) = within_bounds (origin - 32767) (origin + 32767) n h in
    rw (abs_diff n origin) (omega (arith, b.0, b.1))

drawing-limits : (s : Shape) (ns : List ℕ) → all_true (shape_limits s ns) ≡ true → Count (form_of s) ns → DrawingLimits s ns
drawing-limits line ns h k = (k, all_any ns h)
drawing-limits arc ns h k = (k, all_any ns h)
drawing-limits circle ns h k = (k, all_any ns h)
drawing-limits solid_circle ns h k = (k, all_any ns h)
drawing-limits ellipse ns h k = (k, all_any ns h)
drawing-limits solid_ellipse ns h k = (k, all_any ns h)
drawing-limits polygon ns h k = up_to_64 ns h k
drawing-limits solid_polygon ns h k = up_to_64 ns h k
drawing-limits spline ns h k = up_to_64 ns h k
drawing-limits thickness ns h k = (k, all_any ns h)
drawing-limits gray_fill ns h k = (k, each is_gray (λ n. nat_abs (shown n) ≤ 32_767) gray_limit ns h)
drawing-limits (colour_fill c) ns h k = coloured c ns h k

plain-limits : (c : Plain) (ns : List ℕ) → all_true (plain_limits c ns) ≡ true → length ns ≡ plain_count c → PlainLimits c ns
plain-limits pause ns h k = (k, all_any ns h)
plain-limits trailer ns h k = (k, all_any ns h)
plain-limits height ns h k = (k, all_any ns h)
plain-limits slant ns h k = (k, all_any ns h)
plain-limits underline ns h k = (k, each is_switch (FromTo 0 1) (λ n j. from_to 0 1 n j) ns h)

is_name_lem : (n : List ℕ) → is_name n ≡ true → Name n → IsName n
is_name_lem n h k = (k.some, leb-true (length n) 64 h)

good_limits : (a : Act) → Good a → InLimits a
good_limits (glyph n) h = is_name_lem n (and_left (is_name n) true h.0) h.1
good_limits (index n) h = any n (and_left (near n) true h.0)
good_limits (to x n) h = any n (and_left (near n) true h.0)
good_limits (by x n) h = any n (and_left (near n) true h.0)
good_limits (page n) h = any n (and_left (near n) true h.0)
good_limits (font n) h = from_to 0 255 n (and_left (is_position n) true h.0)
good_limits (size n) h = from_to 1 most n (and_left (is_positive n) true h.0)
good_limits (colour c ns) h = coloured c ns h.0 h.1
good_limits break h = tt
good_limits space h = tt
good_limits (draw s ns) h = drawing-limits s ns h.0 h.1
good_limits (device n) h = is_name_lem n (and_left (is_name n) true h.0) h.1
good_limits (resolution n m v) h =
    let k : (is_positive m && (is_positive v && true)) ≡ true = and_right (is_positive n) (is_positive m && (is_positive v && true)) h.0 in
    (from_to 1 most n (and_left (is_positive n) (is_positive m && (is_positive v && true)) h.0), from_to 1 most m (and_left (is_positive m) (is_positive v && true) k), from_to 1 most v (and_left (is_positive v) true (and_right (is_positive m) (is_positive v && true) k)))
good_limits init h = tt
good_limits (file n) h = is_name_lem n (and_left (is_name n) true h.0) h.1
good_limits (mount n m) h = (from_to 0 255 n (and_left (is_position n) (is_name m && true) h.0), is_name_lem m (and_left (is_name m) true (and_right (is_position n) (is_name m && true) h.0)) h.1)
good_limits (plain c ns) h = plain-limits c ns h.0 h.1
good_limits (raw t) h = leb-true (length t) 4_096 (and_left (leb (length t) 4096) true h.0)
good_limits stop h = tt

cmd_written : (c : Cmd) → GoodCmd c → CmdWritten c
cmd_written (just a) h = (good_written a h, good_limits a h)
cmd_written (word n bs) h = (any n (and_left (near n) true h.0), h.1.some)
cmd_written (pair n b) h = tt

abbrev AllWritten : List Cmd → Type 0
AllWritten [] = Unit {0}
AllWritten (c ∷ cs) = CmdWritten c × AllWritten cs

bare-written : (x : Cmds) → AllCmds x → AllWritten (bare x)
bare-written (done at) h = tt
bare-written (wrong n at k) h = tt
bare-written (next c at a l more) h = (cmd_written c h.0, bare-written more h.1)

-- of the front, and of what stands behind it
front_written : (cs ds : List Cmd) → AllWritten (cs ++ ds) → AllWritten cs
front_written [] ds h = tt
front_written (c ∷ cs) ds h = (h.0, front_written cs ds h.1)

next-written : (cs ds : List Cmd) (c : Cmd) → AllWritten (cs ++ c ∷ ds) → CmdWritten c
next-written [] ds c h = h.0
next-written (x ∷ cs) ds c h = next-written cs ds c h.1

-- ---- what every command keeps

-- a place within the limit, an m of at least 1, and 256 positions
abbrev Sound : Env → Type 0
Sound e = (1 ≤ e.quantum) × (length e.mounts ≡ 256)

abbrev Holds : Env → Type 0
Holds e = Inside e × Sound e

abbrev Kept : Step → Type 0
Kept = After (λ e gs xs. Holds e)

abbrev ActsWritten : List Act → Type 0
ActsWritten [] = Unit {0}
ActsWritten (a ∷ ys) = AsWritten a × ActsWritten ys

sound-kept : (e : Env) (a : Act) → AsWritten a → Sound e → After (λ d gs xs. Sound d) (effect e a)
sound-kept e (glyph n) h i = font_after (λ d gs xs. Sound d) e (recorded e n 0) e.font refl (λ f k. i)
sound-kept e (index n) h i = font_after (λ d gs xs. Sound d) e (indexed e n) e.font refl (λ f k. on (ltb n origin) (λ j. rw j i) (λ j. rw j i))
sound-kept e (to x n) h i = i
sound-kept e (by x n) h i = if_after (λ d gs xs. Sound d) (fits (get x e.spot) n) _ 10 (λ t. i)
sound-kept e (page n) h i = i
sound-kept e (font n) h i = if_after (λ d gs xs. Sound d) (is_mounted (mounted_at (n - origin) e.mounts)) _ 8 (λ t. i)
sound-kept e (size n) h i = i
sound-kept e (colour c ns) h i = i
sound-kept e break h i = i
sound-kept e space h i = i
sound-kept e (draw s ns) h i = if_after (λ d gs xs. Sound d) (may_go e.spot (way_of s ns)) _ 10 (λ t. i)
sound-kept e (device n) h i = i
sound-kept e (resolution n m v) h i = (omega (arith, h.2, (shown_pos m h.0 h.1).1), i.1)
sound-kept e init h i = i
sound-kept e (file n) h i = i
sound-kept e (mount n m) h i = (i.0, length-set e.mounts (n - origin) m ∙ i.1)
sound-kept e (plain c ns) h i = i
sound-kept e (raw t) h i = i
sound-kept e stop h i = i

act-kept : (e : Env) (a : Act) → AsWritten a → Holds e → Kept (act e a)
act-kept e a h i = go (act e a) refl
  where
    go : (x : Step) → act e a ≡ x → Kept x
    go (refused n) k = tt
    go (went e' gs xs) k = (refusal_10.keeps e e' gs xs a h i.0 k, behind (λ d g x. Sound d) e e' gs xs a (sound-kept e a h i.1) k)

run-kept : (ys : List Act) → ActsWritten ys → (e : Env) → Holds e → Kept (run e ys)
unfolding run
run-kept [] h e i = i
run-kept (a ∷ ys) h e i =
    then_after (λ d gs xs. Holds d) (act e a) (λ d. run d ys)
    (after_map (λ d gs xs. Holds d) (λ d gs xs. Kept (run d ys)) (act e a) (λ d gs xs k. run-kept ys h.1 d k) (act-kept e a h.0 i))

abbrev Comes : Acts → Type 0
Comes (no_acts n) = Unit {0}
Comes (these ys) = ActsWritten ys

word_comes : (fs : List Font) (name : List ℕ) (far : ℕ → ℕ) (bs : List ℕ) → Comes (word_acts fs name far bs)
unfolding word_acts
word_comes fs name far [] = tt
word_comes fs name far (b ∷ bs) = go (width_of name b fs) (word_acts fs name far bs) (word_comes fs name far bs)
  where
    go : (o : Option ℕ) (t : Acts) → Comes t → Comes (byte_acts b far o t)
    go none t h = tt
    go (some x) (no_acts n) h = tt
    go (some x) (these ys) h = (tt, (tt, h))

ready_comes : (e : Env) (go : ℕ → Acts) (o : Option ℕ) → ((f : ℕ) → Comes (go f)) → Comes (ready e go o)
ready_comes e go none h = on (on_page e) (λ p. rw p tt) (λ p. rw p tt)
ready_comes e go (some f) h = on (on_page e) (λ p. on (ltb 0 e.size) (λ s. rw (p, s) (h f)) (λ s. rw (p, s) tt)) (λ p. rw p tt)

acts_come : (w : Widths) (e : Env) (c : Cmd) → CmdWritten c → Comes (acts w e c)
acts_come w e (just a) h = (h.0, tt)
acts_come w e (word n bs) h = ready_comes e (word_in w e n bs) e.font (λ f. word_comes w.fonts _ _ bs)
acts_come w e (pair n b) h = ready_comes e (λ f. these (by across n ∷ glyph (b ∷ []) ∷ [])) e.font (λ f. (tt, (tt, tt)))

perform_kept : (e : Env) (t : Acts) → Comes t → Holds e → Kept (perform e t)
perform_kept e (no_acts n) h i = tt
perform_kept e (these ys) h i = run-kept ys h e i

steps-kept : (w : Widths) (cs : List Cmd) → AllWritten cs → (e : Env) → Holds e → Kept (steps w e cs)
unfolding steps
steps-kept w [] h e i = i
steps-kept w (c ∷ cs) h e i =
    then_after (λ d gs xs. Holds d) (perform e (acts w e c)) (λ d. steps w d cs)
    (after_map (λ d gs xs. Holds d) (λ d gs xs. Kept (steps w d cs)) (perform e (acts w e c)) (λ d gs xs k. steps-kept w cs h.1 d k)
    (perform_kept e (acts w e c) (acts_come w e c h.0) i))

pub in_every_run : InEveryRun
in_every_run w s cs ds c e gs xs q k =
    let h : AllWritten (cs ++ c ∷ ds) = rw q at (bare-written (commands 0 0 s) (commands_good s 0 0)) in
    let g : Holds e = rw k at (steps-kept w cs (front_written cs (c ∷ ds) h) start ((omega arith, omega arith), (omega arith, refl))) in
    record { written = next-written cs ds c h; inside = g.0; quantum = g.1.0; positions = g.1.1 }

-- ---- a sound width list

abbrev Ranged : Widths → Type 0
Ranged w = (1 ≤ w.unitwidth) × (w.unitwidth ≤ 100_000) × FontNames w.fonts

-- once its first line is read
abbrev SoFar : Due → Widths → Type 0
SoFar unit_due w = Unit {0}
SoFar block_due w = Ranged w
SoFar (width_due b) w = Ranged w

abbrev LineGood : LineRead → Type 0
LineGood wrong_line = Unit {0}
LineGood (right_line d w) = SoFar d w

unit_good : (o : Option ℕ) → LineGood (unit_line o)
unit_good none = tt
unit_good (some n) =
    if_on LineGood (leb 1 n && leb n 100000) _ wrong_line
    (λ h. (leb-true 1 n (and_left (leb 1 n) (leb n 100000) h), leb-true n 100000 (and_right (leb 1 n) (leb n 100000) h), tt)) (λ h. tt)

byte_good : (w : Widths) (o : Option ℕ) → Ranged w → LineGood (byte_line w o)
byte_good w none h = tt
byte_good w (some b) h = if_both LineGood (may_follow b w.fonts) _ wrong_line h tt

block_good : (w : Widths) (t : List ℕ) (o : Option (List ℕ)) → Ranged w → LineGood (block_line w t o)
block_good w t none h = byte_good w (numbered (W.behind (bytes "byte=") t)) h
block_good w t (some n) h =
    if_on LineGood (is_list_name n && (ltb (length w.fonts) 32 && is_new n w.fonts)) _ wrong_line
    (λ k. (h.0, h.1, (listed_good n (and_left (is_list_name n) (ltb (length w.fonts) 32 && is_new n w.fonts) k), h.2))) (λ k. tt)

-- a width changes no name
width_names : (b n : ℕ) (fs : List Font) → FontNames fs → FontNames (add_width b n fs)
width_names b n [] h = tt
width_names b n (f ∷ fs) h = h

width_good : (w : Widths) (b : ℕ) (o : Option ℕ) → Ranged w → LineGood (width_line w b o)
width_good w b none h = tt
width_good w b (some n) h = if_both LineGood (leb n 100000) _ wrong_line (h.0, h.1, width_names b n w.fonts h.2) tt

says_good : (w : Widths) (t : List ℕ) (d : Due) → SoFar d w → LineGood (line_says w t d)
says_good w t unit_due h = unit_good (numbered (W.behind (bytes "unitwidth=") t))
says_good w t block_due h = block_good w t (W.behind (bytes "font=") t) h
says_good w t (width_due b) h = width_good w b (numbered (W.behind (bytes "width=") t)) h

abbrev ListGood : WidthList → Type 0
ListGood (unsound at) = Unit {0}
ListGood (sound w) = Ranged w

lines_good : (n : ℕ) (ls : List Line) (w : Widths) (d : Due) → SoFar d w → ListGood (lines_say n w d ls)
unfolding lines_say
lines_good n [] w unit_due h = tt
lines_good n [] w block_due h = h
lines_good n [] w (width_due b) h = tt
lines_good n (l ∷ ls) w d h = go (line_read w d l) (if_both LineGood l.ended _ wrong_line (says_good w l.text d h) tt) (λ d' w' k. lines_good n ls w' d' k)
  where
    go : (x : LineRead) → LineGood x → ((d' : Due) (w' : Widths) → SoFar d' w' → ListGood (lines_say n w' d' ls)) → ListGood (line_on l.place (λ d' w'. lines_say n w' d' ls) x)
    go wrong_line k f = tt
    go (right_line d' w') k f = f d' w' k

pub in_every_list : InEveryList
unfolding width_list
in_every_list list w h = rw h at (lines_good (length list) (lines_from 0 list) (record { unitwidth = 0; fonts = [] }) unit_due tt)
