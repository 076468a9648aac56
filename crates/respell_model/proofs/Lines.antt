-- The line that the code makes of a scanned command is the house spelling of its act.
use Rattle.std.specs.Prelude.{Some, if◌then◌else◌}
use Prim.Native.Nat.{ℕ, zero, suc, ◌+◌, ◌*◌, ◌-◌, ◌≤◌, ◌<◌}
use native.Mathlib.Omega.{arith}
use mathlib.Core.Bool.{true, false, not, ◌&&◌}
use mathlib.Core.List.{List, [], ◌∷◌, ◌++◌, map, append-nil}
use mathlib.Core.Option.{Option, none, some}
use mathlib.Core.Path.{◌≡◌, refl, sym, ap, ap₂, ◌∙◌}
use borrow.Author.Tests.{lt-ltb, le-ltb, ne_eqb, eqb-true}
use lib.Dec.{ltb, eqb}
use lib.ListN.{length, take, drop, get_or, length-map}
use lib.Seq.{drop-drop, get_or-drop}
use Rattle.rules.specs.Bytes.{bytes, is, is_space, is_white, is_not_white, is_digit, span, spacer, unspaced, string, Num, Int, no_int, int, integer, most, origin, moved, within, near, Nums, short, nums, with_num, integers, many_integers, perhaps_integer}
use Rattle.rules.specs.Act.{across, down, Scheme, cmy, default, gray, cmyk, rgb, Shape, line, arc, circle, solid_circle, ellipse, solid_ellipse, polygon, solid_polygon, spline, thickness, gray_fill, colour_fill, Plain, pause, trailer, height, slant, underline, Act, glyph, index, to, by, page, font, size, colour, break, space, draw, device, resolution, init, file, mount, plain, raw, stop, Cmd, just, word, pair}
use Rattle.rules.specs.Letters.{Draft, fault, draft, with_one, with_all, ignoring, one_byte, named, number_named, followed_by_white, with_dummy, second_digit, scheme_of, components, in_scheme, coloured}
use Rattle.rules.specs.Drawing.{line_ends, closed, shape_of, Form, exactly, dummied, paired, form_of, is_paired, in_pairs, dummy_behind, drawn, in_shape, drawing, pairwise}
use Rattle.rules.specs.Controls.{alone, resolution_of, plain_count, plainly, raw_text, raw_length, rawly, control, control_word}
use Rattle.rules.specs.Scan.{letter, name_of, is_name, is_position, is_positive, is_component, is_gray, cmd_limits, is_small, outside, judged_by, judged, command, Scan, got, bad}
use Rattle.rules.specs.Record.{scheme_letter, shape_letter}
use Rattle.rules.specs.House.{Manner, anchored, floating, turning, moving, manner, decimal, signed_decimal, args, plus_lines, spell_act}
use Rattle.rules.specs.House as H
use Rattle.laws.proofs.Cases.{on, no, if_both, if_on, and_left, and_right}
use Rattle.laws.proofs.Clear.{cleared_both}
use Rattle.laws.proofs.Good.{all_true, Good}
use Rattle.laws.proofs.Limits.{within_bounds, within-near, near_bounds, AllNear, within_all, up_to-near}
use Rattle.laws_scan.proofs.Bounds.{At, at_first, at_by, at_unspaced, at_next, span_le, Stands, GotIn, command_in}
use Rattle.laws_scan.proofs.Fair.{NumsAre, counted, command_good}
use Rattle.laws_scan.proofs.Walk.{cons_at}
use Rattle.scan_command.specs.View.{part, act_of}
use Rattle.scan_command.proofs.Shift.{shifted, integers_shift, many_shift}
use Rattle.scan_letters.specs.Selected.{byte_of, parts_of}
use Rattle.scan_letters.specs.declared.Parts.{Parts}
use Rattle.scan_letters.specs.declared.Parts.TheVariants as P
use Rattle.scan_lex.specs.At.{run_end}
use Rattle.scan_integer.specs.At.{cut, integer_at}
use Rattle.scan_arguments.specs.At.{one_at}
use Rattle.scan_arguments.specs.Parts.{present_at}
use Rattle.scan_arguments.proofs.Chains.{behind, ints, then_at, ints_more, one_is}
use Rattle.scan_arguments.proofs.Many.{many, many_none, many_more}
use Rattle.respell_model.proofs.Sheets.{signed-near}
use Rattle.respell_model.specs.Sheet.{small}
use Rattle.respell_model.specs.Lines.{signed_arg, plain_arg, args_from, three_args, part_args, behind_letter, behind_word, text_at, raw_arg, line_of}

-- ---- numbers

module _ (n : ℕ) (h : near n ≡ true) where
  plain_same : origin ≤ n → decimal (small (n - origin)) ≡ signed_decimal n
  unfolding signed_decimal
  plain_same l =
      let b : (origin - most ≤ n) × (n ≤ origin + most) = near_bounds n h in
      rw (le-ltb n origin l, lt-ltb (n - origin) origin (omega arith))

  cut_same : cut n ≡ n
  cut_same = let b : (origin - most ≤ n) × (n ≤ origin + most) = near_bounds n h in omega arith

-- ---- integers that are read again

-- as the code writes them
abbrev again : List ℕ → List ℕ
again [] = []
again (n ∷ ns) = signed_arg (cut n) ++ again ns

again_args : (ns : List ℕ) → AllNear ns → again ns ≡ args ns
again_args [] h = refl
again_args (n ∷ ns) h =
    let g : near n ≡ true = and_left (near n) (all_true (map near ns)) h in
    rw (cut_same n g, signed-near n g, again_args ns (and_right (near n) (all_true (map near ns)) h))

-- the numbers of x are read again from p on
abbrev Said : List ℕ → ℕ → Nums → Type 0
Said s p short = Unit {0}
Said s p (nums ns ks l t) = args_from (length ns) s p ≡ again (map moved ns)

module _ (s : List ℕ) where
  said_more : (p : ℕ) (go : ℕ → Nums) → ((q : ℕ) → Said s q (go q)) → Said s p (then_at (behind s p) go (integer (drop (behind s p) s)))
  unfolding args_from integer_at
  said_more p go f = at_int (integer (drop (behind s p) s)) refl
    where
      more : (a : Num) (q : ℕ) (x : Nums) → one_at s p ≡ Some (record { number = cut (moved a); place = behind s p; next = q }) → Said s q x → Said s p (with_num a (behind s p) x)
      more a q short e h = tt
      more a q (nums ns ks l t) e h = rw (e, h)

      at_int : (x : Int) → integer (drop (behind s p) s) ≡ x → Said s p (then_at (behind s p) go x)
      at_int no_int e = tt
      at_int (int a l) e = more a (behind s p + l) (go (behind s p + l)) (one_is s p ∙ rw e) (f (behind s p + l))

  ints_said : (n p : ℕ) → Said s p (ints s n p)
  unfolding integers args_from
  ints_said zero p = refl
  ints_said (suc n) p = rw (ints_more s p n) (said_more p (ints s n) (λ q. ints_said n q))

  many_said : (f p : ℕ) → Said s p (many s f p)
  unfolding many_integers args_from
  many_said zero p = refl
  many_said (suc f) p =
      on (present_at s p)
      (λ e. rw (many_more s f p e) (said_more p (many s f) (λ q. many_said f q)))
      (λ e. rw (many_none s (suc f) p e) refl)

  said_shift : (at p : ℕ) (x : Nums) → Said s p (shifted at x) → Said s p x
  said_shift at p short h = tt
  said_shift at p (nums ns ks l t) h = h

  said_pairs : (p : ℕ) (x : Nums) → Said s p x → Said s p (in_pairs x)
  said_pairs p short h = tt
  said_pairs p (nums ns ks l t) h = if_both (Said s p) (is_paired ns) (nums ns ks l t) short h tt

  -- r stands k bytes behind a command's first, which is at a place
  module _ (at k : ℕ) (r : List ℕ) (e : r ≡ drop (at + k) s) where
    ints_here : (n : ℕ) → Said s (at + k) (integers n k r)
    ints_here n = said_shift at (at + k) (integers n k r) (rw (← integers_shift n at k r, e) (ints_said n (at + k)))

    many_here : (f : ℕ) → Said s (at + k) (many_integers f k r)
    many_here f = said_shift at (at + k) (many_integers f k r) (rw (← many_shift f at k r, e) (many_said f (at + k)))

-- ---- arguments from the command's own numbers

-- one that may be negative
signed_one : (n : ℕ) → near n ≡ true → signed_arg n ≡ args (n ∷ [])
signed_one n h = rw (signed-near n h, append-nil (signed_decimal n))

-- one that is not
plain-digits : (lo hi n : ℕ) → origin ≤ lo → hi ≤ origin + most → within lo hi n ≡ true → decimal (small (n - origin)) ≡ signed_decimal n
plain-digits lo hi n l m h =
    let b : (lo ≤ n) × (n ≤ hi) = within_bounds lo hi n h in
    plain_same n (within-near lo hi n (omega arith) m h) (omega arith)

plain_one : (lo hi n : ℕ) → origin ≤ lo → hi ≤ origin + most → within lo hi n ≡ true → plain_arg (n - origin) ≡ args (n ∷ [])
plain_one lo hi n l m h = rw (plain-digits lo hi n l m h, append-nil (signed_decimal n))

-- components
abbrev AllParts : List ℕ → Type 0
AllParts ns = all_true (map is_component ns) ≡ true

part-digits : (n : ℕ) (ns : List ℕ) → AllParts (n ∷ ns) → decimal (small (n - origin)) ≡ signed_decimal n
part-digits n ns h = plain-digits origin (origin + 65536) n (omega arith) (omega arith) (and_left (is_component n) (all_true (map is_component ns)) h)

part_last : (n : ℕ) → AllParts (n ∷ []) → plain_arg (n - origin) ≡ args (n ∷ [])
part_last n h = rw (part-digits n [] h, append-nil (signed_decimal n))

part_then : (n : ℕ) (ns t : List ℕ) → AllParts (n ∷ ns) → (AllParts ns → t ≡ args ns) → plain_arg (n - origin) ++ t ≡ args (n ∷ ns)
part_then n ns t h f = rw (part-digits n ns h, f (and_right (is_component n) (all_true (map is_component ns)) h))

three_parts : (a b c : ℕ) → AllParts (a ∷ b ∷ c ∷ []) → three_args (a - origin) (b - origin) (c - origin) ≡ args (a ∷ b ∷ c ∷ [])
three_parts a b c h = part_then a (b ∷ c ∷ []) _ h (λ g. part_then b (c ∷ []) _ g (part_last c))

-- as many of the padded components as a scheme has
abbrev parts : Parts → List ℕ → List ℕ
parts n ns = part_args n (part 0 ns) (part 1 ns) (part 2 ns) (part 3 ns)

parts_one : (ns : List ℕ) → length ns ≡ 1 → AllParts ns → parts P.One ns ≡ args ns
parts_one [] e h = absurd (omega arith)
parts_one (a ∷ []) e h = part_last a h
parts_one (a ∷ b ∷ ns) e h = absurd (omega arith)

parts_three : (ns : List ℕ) → length ns ≡ 3 → AllParts ns → parts P.Three ns ≡ args ns
parts_three [] e h = absurd (omega arith)
parts_three (a ∷ []) e h = absurd (omega arith)
parts_three (a ∷ b ∷ []) e h = absurd (omega arith)
parts_three (a ∷ b ∷ c ∷ []) e h = three_parts a b c h
parts_three (a ∷ b ∷ c ∷ d ∷ ns) e h = absurd (omega arith)

parts_four : (ns : List ℕ) → length ns ≡ 4 → AllParts ns → parts P.Four ns ≡ args ns
parts_four [] e h = absurd (omega arith)
parts_four (a ∷ []) e h = absurd (omega arith)
parts_four (a ∷ b ∷ []) e h = absurd (omega arith)
parts_four (a ∷ b ∷ c ∷ []) e h = absurd (omega arith)
parts_four (a ∷ b ∷ c ∷ d ∷ []) e h = part_then a (b ∷ c ∷ d ∷ []) _ h (three_parts b c d)
parts_four (a ∷ b ∷ c ∷ d ∷ f ∷ ns) e h = absurd (omega arith)

parts_none : (ns : List ℕ) → length ns ≡ 0 → parts P.Zero ns ≡ args ns
parts_none [] e = refl
parts_none (a ∷ ns) e = absurd (omega arith)

parts_args : (c : Scheme) (ns : List ℕ) → length ns ≡ components c → AllParts ns → parts (parts_of (byte_of (scheme_letter c))) ns ≡ args ns
parts_args cmy ns e h = parts_three ns e h
parts_args default ns e h = parts_none ns e
parts_args gray ns e h = parts_one ns e h
parts_args cmyk ns e h = parts_four ns e h
parts_args rgb ns e h = parts_three ns e h

scheme_byte : (c : Scheme) → byte_of (scheme_letter c) ≡ scheme_letter c
scheme_byte cmy = refl
scheme_byte default = refl
scheme_byte gray = refl
scheme_byte cmyk = refl
scheme_byte rgb = refl

-- ---- how many integers a drawing of pairs has

half_paired : (ns : List ℕ) → is_paired ns ≡ true → 2 * (pairwise ns).terms ≡ length ns
half_paired [] h = refl
half_paired (x ∷ []) h = no h
half_paired (x ∷ y ∷ []) h = refl
half_paired (x ∷ y ∷ z ∷ r) h = omega (arith, half_paired (z ∷ r) h)

-- ---- the text of `x X`

plus-raw : (r : List ℕ) → plus_lines (raw_text r) ≡ take (raw_length r) r
unfolding plus_lines raw_text raw_length
plus-raw [] = refl
plus-raw (b ∷ []) = on (is "\n" b) (λ e. rw e) (λ e. rw e (rw e))
plus-raw (b ∷ c ∷ r) =
    on (is "\n" b)
    (λ e. on (is "+" c) (λ f. rw (e, f, plus-raw r, eqb-true b 10 e, eqb-true c 43 f)) (λ f. rw (e, f)))
    (λ e. rw e (rw (e, plus-raw (c ∷ r))))

-- the space before it, where its first line is not empty
raw_front : (r : List ℕ) → (if ltb 0 (raw_length r) && not (is "\n" (get_or r 0 0)) then 32 ∷ [] else []) ++ take (raw_length r) r ≡ H.raw_arg (raw_text r)
unfolding plus_lines raw_text raw_length
raw_front [] = refl
raw_front (b ∷ []) = on (is "\n" b) (λ e. rw e) (λ e. rw e (rw e))
raw_front (b ∷ c ∷ r) =
    on (is "\n" b)
    (λ e.
    on (is "+" c)
    (λ f. rw (e, f, lt-ltb 0 (suc (suc (raw_length r))) (omega arith), plus-raw r, eqb-true b 10 e, eqb-true c 43 f))
    (λ f. rw (e, f)))
    (λ e. rw (e, lt-ltb 0 (suc (raw_length (c ∷ r))) (omega arith)) (rw (e, plus-raw (c ∷ r))))

ltb_by : (p n : ℕ) → ltb p (p + n) ≡ ltb 0 n
ltb_by p zero = le-ltb p (p + 0) (omega arith)
ltb_by p (suc n) = lt-ltb p (p + suc n) (omega arith) ∙ sym (lt-ltb 0 (suc n) (omega arith))

raw_arg_lem : (s : List ℕ) (p : ℕ) (r : List ℕ) → r ≡ drop p s → raw_arg s p (p + raw_length r) ≡ H.raw_arg (raw_text r)
raw_arg_lem s p r e =
    let n : p + raw_length r - p ≡ raw_length r = omega arith in
    let d : get_or s p 0 ≡ get_or r 0 0 = ap (λ (i : ℕ). get_or s i 0) (omega arith) ∙ sym (get_or-drop p s 0 0) ∙ ap (λ (l : List ℕ). get_or l 0 0) (sym e) in
    rw (ltb_by p (raw_length r), n, d, ← e) (raw_front r)

-- ---- the line of an act: its names stand in s, and the integers and the text that are read again are its own

-- a motion has no line
abbrev pub line_in : Manner → List ℕ → List ℕ
line_in anchored t = t
line_in floating t = t
line_in turning t = t
line_in moving t = []

-- of an act of a command at a place of s, which is l bytes long; `DF` reads none
abbrev ActReads : List ℕ → ℕ → ℕ → Act → Type 0
ActReads s at l (glyph n) = Unit {0}
ActReads s at l (index n) = Unit {0}
ActReads s at l (to x n) = Unit {0}
ActReads s at l (by x n) = Unit {0}
ActReads s at l (page n) = Unit {0}
ActReads s at l (font n) = Unit {0}
ActReads s at l (size n) = Unit {0}
ActReads s at l (colour c ns) = Unit {0}
ActReads s at l break = Unit {0}
ActReads s at l space = Unit {0}
ActReads s at l (draw x ns) = is "F" (shape_letter x) ≡ false → args_from (length ns) s (behind_letter s at) ≡ again ns
ActReads s at l (device n) = Unit {0}
ActReads s at l (resolution n h v) = args_from 3 s (behind_word s at) ≡ again (n ∷ h ∷ v ∷ [])
ActReads s at l init = Unit {0}
ActReads s at l (file n) = Unit {0}
ActReads s at l (mount n m) = Unit {0}
ActReads s at l (plain c ns) = args_from (length ns) s (behind_word s at) ≡ again ns
ActReads s at l (raw t) = raw_arg s (text_at s at) (at + l) ≡ H.raw_arg t
ActReads s at l stop = Unit {0}

-- n integers from q on
count_args : (s : List ℕ) (n q : ℕ) (ns : List ℕ) → n ≡ length ns → AllNear ns → args_from (length ns) s q ≡ again ns → args_from n s q ≡ args ns
count_args s n q ns e h g = ap (λ (i : ℕ). args_from i s q) e ∙ g ∙ again_args ns h

module _ (s : List ℕ) (at p l : ℕ) where
  -- the line is the spelling
  abbrev Lined : Act → Type 0
  Lined x = line_of s at (act_of p (at + l) x) ≡ line_in (manner x) (spell_act x)

  glyph_line : (n : List ℕ) → Stands n p s → Lined (glyph n)
  unfolding spell_act
  glyph_line [] h = refl
  glyph_line (b ∷ []) h = ap (λ (t : List ℕ). 99 ∷ 32 ∷ t) h
  glyph_line (b ∷ c ∷ n) h = rw (ne_eqb (suc (suc (length n))) 1 (λ e. omega arith)) (ap (λ (t : List ℕ). 67 ∷ 32 ∷ t) h)

  gray_line : (ns : List ℕ) → length ns ≡ 1 → all_true (map is_gray ns) ≡ true → Lined (draw gray_fill ns)
  unfolding spell_act
  gray_line [] e h = absurd (omega arith)
  gray_line (n ∷ []) e h =
      ap (λ (t : List ℕ). 68 ∷ 102 ∷ t)
      (signed_one n (within-near (origin - 32767) (origin + 32767) n (omega arith) (omega arith) (and_left (is_gray n) true h)))
  gray_line (n ∷ m ∷ ns) e h = absurd (omega arith)

  draw_line : (x : Shape) (ns : List ℕ) → Good (draw x ns) → ActReads s at l (draw x ns) → Lined (draw x ns)
  unfolding spell_act
  draw_line line ns g h = ap (λ (t : List ℕ). 68 ∷ 108 ∷ t) (count_args s _ _ ns (sym g.1) g.0 (h refl))
  draw_line arc ns g h = ap (λ (t : List ℕ). 68 ∷ 97 ∷ t) (count_args s _ _ ns (sym g.1) g.0 (h refl))
  draw_line circle ns g h = ap (λ (t : List ℕ). 68 ∷ 99 ∷ t) (count_args s _ _ ns (sym g.1) g.0 (h refl))
  draw_line solid_circle ns g h = ap (λ (t : List ℕ). 68 ∷ 67 ∷ t) (count_args s _ _ ns (sym g.1) g.0 (h refl))
  draw_line ellipse ns g h = ap (λ (t : List ℕ). 68 ∷ 101 ∷ t) (count_args s _ _ ns (sym g.1) g.0 (h refl))
  draw_line solid_ellipse ns g h = ap (λ (t : List ℕ). 68 ∷ 69 ∷ t) (count_args s _ _ ns (sym g.1) g.0 (h refl))
  draw_line polygon ns g h = ap (λ (t : List ℕ). 68 ∷ 112 ∷ t) (count_args s _ _ ns (half_paired ns g.1) (up_to-near 64 ns g.0) (h refl))
  draw_line solid_polygon ns g h = ap (λ (t : List ℕ). 68 ∷ 80 ∷ t) (count_args s _ _ ns (half_paired ns g.1) (up_to-near 64 ns g.0) (h refl))
  draw_line spline ns g h = ap (λ (t : List ℕ). 68 ∷ 126 ∷ t) (count_args s _ _ ns (half_paired ns g.1) (up_to-near 64 ns g.0) (h refl))
  draw_line thickness ns g h = ap (λ (t : List ℕ). 68 ∷ 116 ∷ t) (count_args s _ _ ns (sym g.1) g.0 (h refl))
  draw_line gray_fill ns g h = gray_line ns g.1 g.0
  draw_line (colour_fill c) ns g h = ap₂ (λ (b : ℕ) (t : List ℕ). 68 ∷ 70 ∷ b ∷ t) (scheme_byte c) (parts_args c ns g.1 g.0)

  plain_line : (c : Plain) (ns : List ℕ) → Good (plain c ns) → ActReads s at l (plain c ns) → Lined (plain c ns)
  unfolding spell_act
  plain_line pause ns g h = ap (λ (t : List ℕ). 120 ∷ 32 ∷ 112 ∷ t) (count_args s _ _ ns (sym g.1) g.0 h)
  plain_line trailer ns g h = ap (λ (t : List ℕ). 120 ∷ 32 ∷ 116 ∷ t) (count_args s _ _ ns (sym g.1) g.0 h)
  plain_line height ns g h = ap (λ (t : List ℕ). 120 ∷ 32 ∷ 72 ∷ t) (count_args s _ _ ns (sym g.1) g.0 h)
  plain_line slant ns g h = ap (λ (t : List ℕ). 120 ∷ 32 ∷ 83 ∷ t) (count_args s _ _ ns (sym g.1) g.0 h)
  plain_line underline ns g h = ap (λ (t : List ℕ). 120 ∷ 32 ∷ 117 ∷ t) (count_args s _ _ ns (sym g.1) (within_all origin (origin + 1) (omega arith) (omega arith) ns g.0) h)

  mount_line : (n : ℕ) (m : List ℕ) → is_position n ≡ true → Stands m p s → Lined (mount n m)
  unfolding spell_act
  mount_line n m g h = rw (h, plain-digits origin (origin + 255) n (omega arith) (omega arith) g, append-nil (signed_decimal n))

  act_line : (x : Act) → Good x → Stands (name_of x) p s → ActReads s at l x → Lined x
  unfolding spell_act
  act_line (glyph n) g h k = glyph_line n h
  act_line (index n) g h k = ap (λ (t : List ℕ). 78 ∷ t) (signed_one n (and_left (near n) true g.0))
  act_line (to x n) g h k = refl
  act_line (by x n) g h k = refl
  act_line (page n) g h k = ap (λ (t : List ℕ). 112 ∷ t) (signed_one n (and_left (near n) true g.0))
  act_line (font n) g h k =
      ap (λ (t : List ℕ). 102 ∷ t) (plain_one origin (origin + 255) n (omega arith) (omega arith) (and_left (is_position n) true g.0))
  act_line (size n) g h k =
      ap (λ (t : List ℕ). 115 ∷ t) (plain_one (origin + 1) (origin + most) n (omega arith) (omega arith) (and_left (is_positive n) true g.0))
  act_line (colour c ns) g h k = ap₂ (λ (b : ℕ) (t : List ℕ). 109 ∷ b ∷ t) (scheme_byte c) (parts_args c ns g.1 g.0)
  act_line break g h k = refl
  act_line space g h k = refl
  act_line (draw x ns) g h k = draw_line x ns g k
  act_line (device n) g h k = ap (λ (t : List ℕ). bytes "x T " ++ t) h
  act_line (resolution n m v) g h k = ap (λ (t : List ℕ). bytes "x r" ++ t) (k ∙ again_args (n ∷ m ∷ v ∷ []) (within_all (origin + 1) (origin + most) (omega arith) (omega arith) (n ∷ m ∷ v ∷ []) g.0))
  act_line init g h k = refl
  act_line (file n) g h k = ap (λ (t : List ℕ). bytes "x F " ++ t) h
  act_line (mount n m) g h k = mount_line n m (and_left (is_position n) (is_name m && true) g.0) h
  act_line (plain c ns) g h k = plain_line c ns g k
  act_line (raw t) g h k = ap (λ (u : List ℕ). bytes "x X" ++ u) k
  act_line stop g h k = refl

-- ---- what is read again is what was scanned

abbrev CmdReads : List ℕ → ℕ → ℕ → Cmd → Type 0
CmdReads s at l (just x) = ActReads s at l x
CmdReads s at l (word n bs) = Unit {0}
CmdReads s at l (pair n b) = Unit {0}

abbrev DraftReads : List ℕ → ℕ → Draft → Type 0
DraftReads s at (fault n) = Unit {0}
DraftReads s at (draft c ds ks a l t) = CmdReads s at l c

-- the same, wherever the command ends: all but `x X`
abbrev Steady : List ℕ → ℕ → Draft → Type 0
Steady s at (fault n) = Unit {0}
Steady s at (draft c ds ks a l t) = (e : ℕ) → CmdReads s at e c

module _ (s : List ℕ) (at : ℕ) where
  steady_reads : (x : Draft) → Steady s at x → DraftReads s at x
  steady_reads (fault n) h = tt
  steady_reads (draft c ds ks a l t) h = h l

  closed_steady : (x : Draft) → Steady s at x → Steady s at (closed x)
  closed_steady (fault n) h = tt
  closed_steady (draft c ds ks a l t) h = if_both (Steady s at) (line_ends t) (draft c ds ks a l t) (fault 5) h tt

  ignoring_steady : (x : Draft) (y : Nums) → Steady s at x → Steady s at (ignoring x y)
  ignoring_steady (fault n) y h = tt
  ignoring_steady (draft c ds ks a l t) short h = tt
  ignoring_steady (draft c ds ks a l t) (nums ns js m u) h = h

  dummy_steady : (x : Draft) → Steady s at x → Steady s at (with_dummy x)
  dummy_steady (fault n) h = tt
  dummy_steady (draft c ds ks a l t) h = ignoring_steady (draft c ds ks a l t) (followed_by_white (perhaps_integer l t)) h

  behind_steady : (x : Draft) → Steady s at x → Steady s at (dummy_behind x)
  behind_steady (fault n) h = tt
  behind_steady (draft c ds ks a l t) h = ignoring_steady (draft c ds ks a l t) (perhaps_integer l t) h

  named_steady : (f : List ℕ → Cmd) (ks : List ℕ) (k : ℕ) (r : List ℕ) → ((n : List ℕ) (e : ℕ) → CmdReads s at e (f n)) → Steady s at (named f ks k r)
  unfolding named
  named_steady f ks k r h = if_both (Steady s at) (eqb (string (unspaced r)) 0) (fault 4) _ tt (h (take (string (unspaced r)) (unspaced r)))

  number_named_steady : (f : ℕ → List ℕ → Cmd) (x : Nums) → ((m : ℕ) (n : List ℕ) (e : ℕ) → CmdReads s at e (f m n)) → Steady s at (number_named f x)
  number_named_steady f short h = tt
  number_named_steady f (nums [] ks l t) h = tt
  number_named_steady f (nums (n ∷ ns) ks l t) h = named_steady (f (moved n)) ks l t (h (moved n))

  byte_steady : (f : ℕ → Cmd) (k : ℕ) (r : List ℕ) → ((b e : ℕ) → CmdReads s at e (f b)) → Steady s at (one_byte f k r)
  byte_steady f k [] h = tt
  byte_steady f k (b ∷ r) h = if_both (Steady s at) (is_white b) (fault 4) _ tt (h b)

  digit_steady : (b k : ℕ) (r : List ℕ) → Steady s at (second_digit b k r)
  digit_steady b k [] = tt
  digit_steady b k (c ∷ r) =
      if_both (Steady s at) (is_digit c) _ (fault 4) (byte_steady (pair (origin + ((b - 48) * 10 + (c - 48)))) (k + 1 + spacer r) (unspaced r) (λ x e. tt)) tt

  one_steady : (f : ℕ → Act) (x : Nums) → ((n e : ℕ) → ActReads s at e (f n)) → Steady s at (with_one f x)
  one_steady f short h = tt
  one_steady f (nums [] ks l t) h = tt
  one_steady f (nums (n ∷ ns) ks l t) h = h (moved n)

  -- an act of integers that are read again from q on
  all_steady : (f : List ℕ → Act) (q : ℕ) (x : Nums) → Said s q x → ((ns : List ℕ) (e : ℕ) → args_from (length ns) s q ≡ again ns → ActReads s at e (f ns))
      → Steady s at (with_all f x)
  all_steady f q short g h = tt
  all_steady f q (nums ns ks l t) g h = λ e. h (map moved ns) e (rw (length-map ns moved) g)

  coloured_steady : (f : Scheme → List ℕ → Act) (k : ℕ) (r : List ℕ) → ((c : Scheme) (ns : List ℕ) (e : ℕ) → ActReads s at e (f c ns)) → Steady s at (coloured f k r)
  coloured_steady f k [] h = tt
  coloured_steady f k (b ∷ r) h = go (scheme_of b)
    where
      all : (c : Scheme) (x : Nums) → Steady s at (with_all (f c) x)
      all c short = tt
      all c (nums ns ks l t) = h c (map moved ns)

      go : (o : Option Scheme) → Steady s at (in_scheme f (k + 1) r o)
      go none = tt
      go (some c) = all c (integers (components c) (k + 1) r)

  -- r stands k bytes behind the command's first
  module _ (k : ℕ) (r : List ℕ) (e : r ≡ drop (at + k) s) where
    drawn_steady : (x : Shape) (f : Form) → behind_letter s at ≡ at + k → Steady s at (drawn x k r f)
    drawn_steady x (exactly n) p = all_steady (draw x) (at + k) (integers n k r) (ints_here s at k r e n) (λ ns m h u. rw p h)
    drawn_steady x dummied p =
        behind_steady (with_all (draw x) (integers 1 k r)) (all_steady (draw x) (at + k) (integers 1 k r) (ints_here s at k r e 1) (λ ns m h u. rw p h))
    drawn_steady x paired p =
        all_steady (draw x) (at + k) (in_pairs (many_integers (length r) k r)) (said_pairs s (at + k) (many_integers (length r) k r) (many_here s at k r e (length r)))
        (λ ns m h u. rw p h)

    resolution_steady : behind_word s at ≡ at + k → Steady s at (resolution_of (integers 3 k r))
    resolution_steady p = go (integers 3 k r) (ints_here s at k r e 3) (counted 3 k r)
      where
        go : (x : Nums) → Said s (at + k) x → NumsAre (λ ns. length ns ≡ 3) x → Steady s at (resolution_of x)
        go short g c = tt
        go (nums [] ks l t) g c = tt
        go (nums (n ∷ []) ks l t) g c = tt
        go (nums (n ∷ h ∷ []) ks l t) g c = tt
        go (nums (n ∷ h ∷ v ∷ []) ks l t) g c = λ m. rw p g
        go (nums (n ∷ h ∷ v ∷ w ∷ ns) ks l t) g c = absurd (omega arith)

    plain_steady : (c : Plain) → behind_word s at ≡ at + k → Steady s at (plainly c k r)
    plain_steady c p = all_steady (plain c) (at + k) (integers (plain_count c) k r) (ints_here s at k r e (plain_count c)) (λ ns m h. rw p h)

    raw_reads : behind_word s at ≡ at + k → DraftReads s at (rawly (k + spacer r) (unspaced r))
    unfolding run_end
    raw_reads p =
        let u : List ℕ = unspaced r in
        let q : text_at s at ≡ at + k + spacer r = rw (p, ← e) in
        let f : at + (k + spacer r + raw_length u) ≡ at + k + spacer r + raw_length u = omega arith in
        rw (q, f) (raw_arg_lem s (at + k + spacer r) u (ap (drop (spacer r)) e ∙ drop-drop (spacer r) (at + k) s))

    control_reads : (c : ℕ) → behind_word s at ≡ at + k → DraftReads s at (control c k r)
    unfolding control
    control_reads c p =
        let P : Draft → Type 0 = DraftReads s at in
        let still : (x : Draft) → Steady s at x → P (closed x) = λ x h. steady_reads (closed x) (closed_steady x h) in
        if_both P (is "T" c) _ _ (still (named (λ n. just (device n)) [] k r) (named_steady (λ n. just (device n)) [] k r (λ n m. tt)))
        (if_both P (is "r" c) _ _ (still (resolution_of (integers 3 k r)) (resolution_steady p))
        (if_both P (is "i" c) _ _ (still (alone init k r) (λ m. tt))
        (if_both P (is "F" c) _ _ (still (named (λ n. just (file n)) [] k r) (named_steady (λ n. just (file n)) [] k r (λ n m. tt)))
        (if_both P (is "f" c) _ _ (still (number_named (λ n m. just (mount n m)) (integers 1 k r)) (number_named_steady (λ n m. just (mount n m)) (integers 1 k r) (λ n m l. tt)))
        (if_both P (is "H" c) _ _ (still (plainly height k r) (plain_steady height p))
        (if_both P (is "S" c) _ _ (still (plainly slant k r) (plain_steady slant p))
        (if_both P (is "p" c) _ _ (still (plainly pause k r) (plain_steady pause p))
        (if_both P (is "t" c) _ _ (still (plainly trailer k r) (plain_steady trailer p))
        (if_both P (is "u" c) _ _ (still (plainly underline k r) (plain_steady underline p))
        (if_both P (is "s" c) _ _ (still (alone stop k r) (λ m. tt))
        (if_both P (is "X" c) _ _ (raw_reads p) tt)))))))))))

-- the same of the command of b at a place, with r behind it
module _ (s : List ℕ) (at b : ℕ) (r : List ℕ) (e : drop at s ≡ b ∷ r) where
  here : (k : ℕ) (t : List ℕ) → At (b ∷ r) k t → t ≡ drop (at + k) s
  here k t h = h.rest ∙ ap (drop k) (sym e) ∙ drop-drop k at s

  spaced : run_end is_space s (at + 1) ≡ at + (1 + spacer r)
  unfolding run_end
  spaced = rw (sym (here 1 r (at_first b r))) (omega arith)

  letter_place : behind_letter s at ≡ at + (1 + spacer r + 1)
  letter_place = omega (arith, spaced)

  -- the byte c begins the word
  word_place : (c : ℕ) (t : List ℕ) → unspaced r ≡ c ∷ t → is_white c ≡ false → behind_word s at ≡ at + (1 + spacer r + 1 + string t)
  unfolding run_end span
  word_place c t u w =
      let d : drop (at + (1 + spacer r)) s ≡ c ∷ t = sym (here (1 + spacer r) (unspaced r) (at_unspaced (b ∷ r) 1 r (at_first b r))) ∙ u in
      rw (spaced, d, w) (omega arith)

  drawing_steady : (u : List ℕ) → At (b ∷ r) (1 + spacer r) u → Steady s at (drawing (1 + spacer r) u)
  unfolding drawing
  drawing_steady [] h = tt
  drawing_steady (c ∷ t) h =
      if_both (Steady s at) (is "F" c) _ _ (coloured_steady s at (λ x. draw (colour_fill x)) (1 + spacer r + 1 + spacer t) (unspaced t) (λ x ns m f. no (sym f))) (go (shape_of c))
    where
      go : (o : Option Shape) → Steady s at (in_shape (1 + spacer r + 1) t o)
      go none = tt
      go (some x) = drawn_steady s at (1 + spacer r + 1) t (here (1 + spacer r + 1) t (at_next (b ∷ r) (1 + spacer r) c t h)) x (form_of x) letter_place

  word_reads : (u : List ℕ) → unspaced r ≡ u → At (b ∷ r) (1 + spacer r) u → DraftReads s at (control_word (1 + spacer r) u)
  word_reads [] q h = tt
  word_reads (c ∷ t) q h =
      let k : ℕ = 1 + spacer r + 1 in
      let g : At (b ∷ r) (k + string t) (drop (string t) t) = at_by (b ∷ r) k t (string t) (at_next (b ∷ r) (1 + spacer r) c t h) (span_le is_not_white t) in
      if_on (DraftReads s at) (is_white c) (fault 3) _ (λ w. tt)
      (λ w. control_reads s at (k + string t) (drop (string t) t) (here (k + string t) (drop (string t) t) g) c (word_place c t q w))

  letter_reads : DraftReads s at (letter b r)
  unfolding letter
  letter_reads =
      let P : Draft → Type 0 = DraftReads s at in
      let u : At (b ∷ r) (1 + spacer r) (unspaced r) = at_unspaced (b ∷ r) 1 r (at_first b r) in
      let still : (x : Draft) → Steady s at x → P x = steady_reads s at in
      let one : (f : ℕ → Act) → ((n m : ℕ) → ActReads s at m (f n)) → P (with_one f (integers 1 1 r)) = λ f h. still (with_one f (integers 1 1 r)) (one_steady s at f (integers 1 1 r) h) in
      if_both P (is "c" b) _ _ (still (one_byte (λ x. just (glyph (x ∷ []))) (1 + spacer r) (unspaced r)) (byte_steady s at (λ x. just (glyph (x ∷ []))) (1 + spacer r) (unspaced r) (λ x m. tt)))
      (if_both P (is "C" b) _ _ (still (named (λ n. just (glyph n)) [] 1 r) (named_steady s at (λ n. just (glyph n)) [] 1 r (λ n m. tt)))
      (if_both P (is "N" b) _ _ (one index (λ n m. tt))
      (if_both P (is "t" b) _ _ (still (with_dummy (named (word origin) (1 ∷ []) 1 r)) (dummy_steady s at (named (word origin) (1 ∷ []) 1 r) (named_steady s at (word origin) (1 ∷ []) 1 r (λ n m. tt))))
      (if_both P (is "u" b) _ _ (still (with_dummy (number_named word (integers 1 1 r))) (dummy_steady s at (number_named word (integers 1 1 r)) (number_named_steady s at word (integers 1 1 r) (λ n w m. tt))))
      (if_both P (is "H" b) _ _ (one (to across) (λ n m. tt))
      (if_both P (is "h" b) _ _ (one (by across) (λ n m. tt))
      (if_both P (is "V" b) _ _ (one (to down) (λ n m. tt))
      (if_both P (is "v" b) _ _ (one (by down) (λ n m. tt))
      (if_both P (is "p" b) _ _ (one page (λ n m. tt))
      (if_both P (is "f" b) _ _ (one font (λ n m. tt))
      (if_both P (is "s" b) _ _ (one size (λ n m. tt))
      (if_both P (is "m" b) _ _ (still (coloured colour (1 + spacer r) (unspaced r)) (coloured_steady s at colour (1 + spacer r) (unspaced r) (λ c ns m. tt)))
      (if_both P (is "n" b) _ _ (still (ignoring (draft (just break) [] [] 0 1 r) (integers 2 1 r)) (ignoring_steady s at (draft (just break) [] [] 0 1 r) (integers 2 1 r) (λ m. tt)))
      (if_both P (is "w" b) _ _ tt
      (if_both P (is "D" b) _ _ (still (closed (drawing (1 + spacer r) (unspaced r))) (closed_steady s at (drawing (1 + spacer r) (unspaced r)) (drawing_steady (unspaced r) u)))
      (if_both P (is "x" b) _ _ (word_reads (unspaced r) refl u)
      (if_both P (is_digit b) _ _ (still (second_digit b (1 + spacer r) (unspaced r)) (digit_steady s at b (1 + spacer r) (unspaced r))) tt)))))))))))))))))

-- ---- every command

abbrev ScanReads : List ℕ → ℕ → Scan → Type 0
ScanReads s at (bad n k) = Unit {0}
ScanReads s at (got c a l) = CmdReads s at l c

judged_reads : (s : List ℕ) (at : ℕ) (x : Draft) → DraftReads s at x → ScanReads s at (judged x)
judged_reads s at (fault n) h = tt
judged_reads s at (draft c ds ks a l t) h = go (outside (cmd_limits c ++ map is_small ds) ks)
  where
    go : (o : Option ℕ) → ScanReads s at (judged_by c a l o)
    go none = cleared_both (ScanReads s at) c a l h tt
    go (some k) = tt

-- The line of a scanned act is its spelling.
pub line_is : (s : List ℕ) (at : ℕ) → at < length s → (x : Act) (a l : ℕ) → command (get_or s at 0) (drop (at + 1) s) ≡ got (just x) a l
    → line_of s at (act_of (at + a) (at + l) x) ≡ line_in (manner x) (spell_act x)
line_is s at h x a l e =
    let b : ℕ = get_or s at 0 in
    let r : List ℕ = drop (at + 1) s in
    let good : Good x = rw e at (command_good b r) in
    let in_s : GotIn (b ∷ r) (just x) a l = rw e at (command_in b r) in
    let reads : ActReads s at l x = rw e at (judged_reads s at (letter b r) (letter_reads s at b r (cons_at s at h))) in
    act_line s at (at + a) l x good (rw (← drop-drop a at s, cons_at s at h) in_s.stands) reads
