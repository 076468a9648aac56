-- Every spelling is a house text.
use Prim.Native.Nat.{ℕ, suc, ◌*◌, ◌≤◌, ◌<◌}
use native.Mathlib.Omega.{arith}
use mathlib.Core.Bool.{Bool, true, ◌&&◌}
use mathlib.Core.List.{List, [], ◌∷◌, ◌++◌, map}
use mathlib.Core.Path.{◌≡◌, refl, ap, subst}
use lib.ListN.{length}
use Rattle.rules.specs.Bytes.{is, is_space, is_not_white, is_not_newline, is_clear, near}
use Rattle.rules.specs.Act.{Axis, across, down, Scheme, cmy, default, gray, cmyk, rgb, Shape, line, arc, circle, solid_circle, ellipse, solid_ellipse, polygon, solid_polygon, spline, thickness, gray_fill, colour_fill, Plain, pause, trailer, height, slant, underline, Act, glyph, index, to, by, page, font, size, colour, break, space, draw, device, resolution, init, file, mount, plain, raw, stop}
use Rattle.rules.specs.Drawing.{is_paired}
use Rattle.rules.specs.Scan.{up_to, is_position, is_name, commands, bare}
use Rattle.rules.specs.Widths.{Widths, WidthList, unsound, sound, width_list}
use Rattle.rules.specs.State.{corner, start}
use Rattle.rules.specs.Record.{Answer, refuse, answer}
use Rattle.rules.specs.House.{manner, played, spelling, args, plus_lines, raw_arg, spell_act, spell_all}
use Rattle.rules.specs.Answers.{stream_most, is_over, Spelling, not_spelled, spelled, spell_if, spell_with, respell, read}
use Rattle.laws.proofs.Cases.{All, Stops, on, no, if_both, and_left, and_right}
use Rattle.laws.proofs.Clear.{clear_none}
use Rattle.laws.proofs.Good.{all_true, Good, AllActs}
use Rattle.laws.proofs.Good as G
use Rattle.laws.proofs.Limits.{AllNear, up_to-near, up_to_few, component-near, position-near, positive-near, shape-near, plain-near}
use Rattle.laws_read.proofs.Spells.{Written, played_fair, house_all}
use Rattle.laws_scan.proofs.Fair.{commands_good}
use Rattle.laws_house.specs.Lines as L
use Rattle.laws_house.specs.Lines.{Each, Arguments, none, argument, Counted, count_N, count_H, count_V, count_p, count_f, count_s, count_w, count_mc, count_md, count_mg, count_mk, count_mr, count_Dl, count_Da, count_Dc, count_DC, count_De, count_DE, count_Dt, count_Df, count_DFc, count_DFd, count_DFg, count_DFk, count_DFr, count_xr, count_xi, count_xH, count_xS, count_xp, count_xt, count_xu, count_xs, Paired, pairs_Dp, pairs_DP, pairs_D~, Name, name, neither, spaced, PlusLines, no_more, plus_line, HouseLine, HouseText}
use Rattle.laws_house.specs.Statements.{SpeltInLines}
use Rattle.laws_house.proofs.Shortest.{signed_shortest}

-- ---- names and arguments

each : (p : ℕ → Bool) (l : List ℕ) → All p l → Each p l
each p [] h = tt
each p (b ∷ l) h = (h.0, each p l h.1)

name_of : (n : List ℕ) → G.Name n → is_clear n ≡ true → Name n
name_of [] h k = absurd (let p : 0 < 0 = h.some in omega arith)
name_of (b ∷ n) h k = name b n (each is_not_white (b ∷ n) h.whole) (clear_none (b ∷ n) k)

arguments : (ns : List ℕ) → AllNear ns → Arguments (length ns) (args ns)
arguments [] h = none
arguments (n ∷ ns) h = argument (length ns) _ (args ns) (signed_shortest n (and_left (near n) (all_true (map near ns)) h)) (arguments ns (and_right (near n) (all_true (map near ns)) h))

-- letters with the integers that are due behind them
counted : (l : List ℕ) (k : ℕ) (ns : List ℕ) → Counted l k → length ns ≡ k → AllNear ns → HouseLine (l ++ args ns)
counted l k ns c e h = L.counted l k (args ns) c (subst (λ (j : ℕ). Arguments j (args ns)) e (arguments ns h))

-- ---- integers in pairs

record Pairs (ns : List ℕ) : Type 0 where
  pairs : ℕ
  some : 1 ≤ pairs
  all : length ns ≡ 2 * pairs

in_pairs_lem : (ns : List ℕ) → is_paired ns ≡ true → Pairs ns
in_pairs_lem [] h = no h
in_pairs_lem (x ∷ []) h = no h
in_pairs_lem (x ∷ y ∷ []) h = record { pairs = 1; some = omega arith; all = refl }
in_pairs_lem (x ∷ y ∷ z ∷ r) h = let p : Pairs (z ∷ r) = in_pairs_lem (z ∷ r) h in record { pairs = suc p.pairs; some = omega arith; all = omega (arith, p.all) }

paired : (l ns : List ℕ) → Paired l → is_paired ns ≡ true → all_true (up_to 64 ns) ≡ true → HouseLine (l ++ args ns)
paired l ns c h g =
    let p : Pairs ns = in_pairs_lem ns h in
    L.paired l p.pairs (args ns) c p.some (omega (arith, p.all, up_to_few 64 ns g))
    (subst (λ (j : ℕ). Arguments j (args ns)) p.all (arguments ns (up_to-near 64 ns g)))

-- ---- the text of `x X`

-- bytes up to a newline, and `+` lines
record Split (u : List ℕ) : Type 0 where
  first : List ℕ
  more : List ℕ
  whole : u ≡ first ++ more
  on_line : Each is_not_newline first
  plus : PlusLines more

split : (t : List ℕ) → Split (plus_lines t)
unfolding plus_lines
split [] = record { first = []; more = []; whole = refl; on_line = tt; plus = no_more }
split (b ∷ t) =
    let p : Split (plus_lines t) = split t in
    on (is "\n" b)
    (λ k. rw k (record {
      first = [];
      more = 10 ∷ 43 ∷ (p.first ++ p.more);
      whole = ap (λ (l : List ℕ). 10 ∷ 43 ∷ l) p.whole;
      on_line = tt;
      plus = plus_line p.first p.more p.on_line p.plus;
    }))
    (λ k. rw k (record {
      first = b ∷ p.first;
      more = p.more;
      whole = ap (λ (l : List ℕ). b ∷ l) p.whole;
      on_line = (rw k, p.on_line);
      plus = p.plus;
    }))

text : (t : List ℕ) → Stops is_space t → HouseLine (120 ∷ 32 ∷ 88 ∷ raw_arg t)
unfolding plus_lines
text [] h = L.text [] [] neither no_more
text (b ∷ t) h =
    let p : Split (plus_lines t) = split t in
    on (is "\n" b)
    (λ k. rw (k, p.whole) (L.text [] (10 ∷ 43 ∷ (p.first ++ p.more)) neither (plus_line p.first p.more p.on_line p.plus)))
    (λ k. rw (k, p.whole) (L.text (32 ∷ b ∷ p.first) p.more (spaced b p.first (rw (h, k)) p.on_line) p.plus))

-- ---- every act

abbrev Line : Act → Type 0
Line a = HouseLine (spell_act a)

glyph_line : (n : List ℕ) → G.Name n → is_clear n ≡ true → Line (glyph n)
unfolding spell_act
glyph_line [] h k = absurd (let p : 0 < 0 = h.some in omega arith)
glyph_line (b ∷ []) h k = L.glyph b (name_of (b ∷ []) h k)
glyph_line (b ∷ c ∷ n) h k = L.named-glyph b c n (name_of (b ∷ c ∷ n) h k)

colour_line : (c : Scheme) (ns : List ℕ) → Good (colour c ns) → Line (colour c ns)
unfolding spell_act
colour_line cmy ns h = counted _ 3 ns count_mc h.1 (component-near ns h.0)
colour_line default ns h = counted _ 0 ns count_md h.1 (component-near ns h.0)
colour_line gray ns h = counted _ 1 ns count_mg h.1 (component-near ns h.0)
colour_line cmyk ns h = counted _ 4 ns count_mk h.1 (component-near ns h.0)
colour_line rgb ns h = counted _ 3 ns count_mr h.1 (component-near ns h.0)

fill_line : (c : Scheme) (ns : List ℕ) → Good (draw (colour_fill c) ns) → Line (draw (colour_fill c) ns)
unfolding spell_act
fill_line cmy ns h = counted _ 3 ns count_DFc h.1 (component-near ns h.0)
fill_line default ns h = counted _ 0 ns count_DFd h.1 (component-near ns h.0)
fill_line gray ns h = counted _ 1 ns count_DFg h.1 (component-near ns h.0)
fill_line cmyk ns h = counted _ 4 ns count_DFk h.1 (component-near ns h.0)
fill_line rgb ns h = counted _ 3 ns count_DFr h.1 (component-near ns h.0)

draw_line : (s : Shape) (ns : List ℕ) → Good (draw s ns) → Line (draw s ns)
unfolding spell_act
draw_line line ns h = counted _ 2 ns count_Dl h.1 h.0
draw_line arc ns h = counted _ 4 ns count_Da h.1 h.0
draw_line circle ns h = counted _ 1 ns count_Dc h.1 h.0
draw_line solid_circle ns h = counted _ 1 ns count_DC h.1 h.0
draw_line ellipse ns h = counted _ 2 ns count_De h.1 h.0
draw_line solid_ellipse ns h = counted _ 2 ns count_DE h.1 h.0
draw_line polygon ns h = paired _ ns pairs_Dp h.1 h.0
draw_line solid_polygon ns h = paired _ ns pairs_DP h.1 h.0
draw_line spline ns h = paired _ ns pairs_D~ h.1 h.0
draw_line thickness ns h = counted _ 1 ns count_Dt h.1 h.0
draw_line gray_fill ns h = counted _ 1 ns count_Df h.1 (shape-near gray_fill ns h.0)
draw_line (colour_fill c) ns h = fill_line c ns h

plain_line : (c : Plain) (ns : List ℕ) → Good (plain c ns) → Line (plain c ns)
unfolding spell_act
plain_line pause ns h = counted _ 0 ns count_xp h.1 h.0
plain_line trailer ns h = counted _ 0 ns count_xt h.1 h.0
plain_line height ns h = counted _ 1 ns count_xH h.1 h.0
plain_line slant ns h = counted _ 1 ns count_xS h.1 h.0
plain_line underline ns h = counted _ 1 ns count_xu h.1 (plain-near underline ns h.0)

to_line : (x : Axis) (n : ℕ) → near n ≡ true → Line (to x n)
unfolding spell_act
to_line across n h = counted _ 1 (n ∷ []) count_H refl (rw h)
to_line down n h = counted _ 1 (n ∷ []) count_V refl (rw h)

-- every act that is written
act_line : (a : Act) → Written (manner a) (Good a) → Written (manner a) (Line a)
unfolding spell_act
act_line (glyph n) h = glyph_line n h.1 h.2
act_line (index n) h = counted _ 1 (n ∷ []) count_N refl h.0
act_line (to x n) h = tt
act_line (by x n) h = tt
act_line (page n) h = counted _ 1 (n ∷ []) count_p refl h.0
act_line (font n) h = counted _ 1 (n ∷ []) count_f refl (position-near n (and_left (is_position n) true h.0))
act_line (size n) h = counted _ 1 (n ∷ []) count_s refl (positive-near (n ∷ []) h.0)
act_line (colour c ns) h = colour_line c ns h
act_line break h = L.break
act_line space h = counted _ 0 [] count_w refl refl
act_line (draw s ns) h = draw_line s ns h
act_line (device n) h = L.device n (name_of n h.1 h.2)
act_line (resolution n m v) h = counted _ 3 (n ∷ m ∷ v ∷ []) count_xr refl (positive-near (n ∷ m ∷ v ∷ []) h.0)
act_line init h = counted _ 0 [] count_xi refl refl
act_line (file n) h = L.file n (name_of n h.1 h.2)
act_line (mount n m) h = L.mount (args (n ∷ [])) m (arguments (n ∷ []) (position-near n (and_left (is_position n) (is_name m && true) h.0))) (name_of m h.1 h.2)
act_line (plain c ns) h = plain_line c ns h
act_line (raw t) h = text t h.1
act_line stop h = counted _ 0 [] count_xs refl refl

-- ---- every spelling

lines_text : (xs : List Act) → AllActs Line xs → HouseText (spell_all xs)
unfolding spell_all
lines_text [] h = L.empty
lines_text (a ∷ xs) h = L.line (spell_act a) (spell_all xs) h.0 (lines_text xs h.1)

spelling-text : (w : Widths) (s : List ℕ) → HouseText (spell_all (spelling w (bare (commands 0 0 s))))
spelling-text w s =
    lines_text (spelling w (bare (commands 0 0 s)))
    (house_all Line to_line act_line (played w start (bare (commands 0 0 s))) start corner (played_fair w (commands 0 0 s) start (commands_good s 0 0)) (refl, refl))

text_with : (s : List ℕ) (w : WidthList) → HouseText (spell_with s w)
text_with s (unsound at) = L.empty
text_with s (sound w) = spelling-text w s

abbrev Fits : Spelling → Type 0
Fits (not_spelled n at) = Unit {0}
Fits (spelled t) = HouseText t

spelt_fits : (t : List ℕ) (x : Answer) → HouseText t → Fits (spell_if t x)
spelt_fits t (refuse n at) h = tt
spelt_fits t (answer rs xs e) h = if_both Fits (is_over stream_most t) (not_spelled 13 0) (spelled t) tt h

pub spelt_in_lines : SpeltInLines
unfolding respell
spelt_in_lines s list t h = subst Fits h (spelt_fits (spell_with s (width_list list)) (read s list) (text_with s (width_list list)))
