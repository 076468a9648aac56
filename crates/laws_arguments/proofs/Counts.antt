-- How many arguments each command has that the rules put together, limits aside.
use Prim.Native.Nat.{ℕ, ◌+◌, ◌*◌, ◌-◌, ◌≤◌}
use native.Mathlib.Omega.{arith}
use mathlib.Core.Bool.{true}
use mathlib.Core.List.{List, [], ◌∷◌, ◌++◌, map}
use mathlib.Core.Option.{Option, none, some}
use mathlib.Core.Path.{◌≡◌, refl, ◌∙◌}
use lib.Dec.{eqb}
use lib.ListN.{length, take, drop, length-map}
use Rattle.rules.specs.Bytes.{is, is_white, is_digit, spacer, unspaced, string, Num, origin, moved, Nums, short, nums, integers, is_present, many_integers, perhaps_integer}
use Rattle.rules.specs.Act.{across, down, Scheme, cmy, default, gray, cmyk, rgb, Shape, line, arc, circle, solid_circle, ellipse, solid_ellipse, polygon, solid_polygon, spline, thickness, gray_fill, colour_fill, Plain, pause, trailer, height, slant, underline, Act, glyph, index, to, by, page, font, size, colour, break, draw, device, init, file, mount, plain, stop, Cmd, just, word, pair}
use Rattle.rules.specs.Letters.{Draft, fault, draft, with_one, with_all, ignoring, one_byte, named, number_named, white_next, followed_by_white, with_dummy, second_digit, scheme_of, components, in_scheme, coloured}
use Rattle.rules.specs.Drawing.{line_ends, closed, shape_of, form_of, is_paired, in_pairs, dummy_behind, drawn, in_shape, drawing}
use Rattle.rules.specs.Controls.{alone, resolution_of, plain_count, plainly, control, control_word}
use Rattle.rules.specs.Scan.{letter}
use Rattle.laws.proofs.Cases.{no, if_both}
use Rattle.laws_scan.proofs.Fair.{NumsAre, counted, in_pairs_lem}
use Rattle.laws_arguments.specs.Arguments.{scheme_count, SomePairs, PlainCount, ActCount, CmdCount}

abbrev CountIs : Draft → Type 0
CountIs (fault n) = Unit {0}
CountIs (draft c ds ks a l t) = CmdCount c ds

closed_count : (x : Draft) → CountIs x → CountIs (closed x)
closed_count (fault n) h = tt
closed_count (draft c ds ks a l t) h = if_both CountIs (line_ends t) (draft c ds ks a l t) (fault 5) h tt

-- ---- numbers

one_count : (f : ℕ → Act) (x : Nums) → ((n : ℕ) → ActCount (f n) []) → CountIs (with_one f x)
one_count f short h = tt
one_count f (nums [] ks l t) h = tt
one_count f (nums (n ∷ ns) ks l t) h = h (moved n)

all_count : (f : List ℕ → Act) (n k : ℕ) (r : List ℕ) → ((ns : List ℕ) → length ns ≡ n → ActCount (f ns) []) → CountIs (with_all f (integers n k r))
all_count f n k r h = go (integers n k r) (counted n k r)
  where
    go : (x : Nums) → NumsAre (λ ns. length ns ≡ n) x → CountIs (with_all f x)
    go short c = tt
    go (nums ns ks l t) c = h (map moved ns) (length-map ns moved ∙ c)

some_pairs : (ns : List Num) → is_paired ns ≡ true → SomePairs (map moved ns)
some_pairs [] h = no h
some_pairs (x ∷ []) h = no h
some_pairs (x ∷ y ∷ []) h = tt
some_pairs (x ∷ y ∷ z ∷ r) h = some_pairs (z ∷ r) h

pairs_count : (s : Shape) (k : ℕ) (r : List ℕ) → ((ns : List ℕ) → SomePairs ns → ActCount (draw s ns) []) → CountIs (with_all (draw s) (in_pairs (many_integers (length r) k r)))
pairs_count s k r h = go (in_pairs (many_integers (length r) k r)) (in_pairs_lem (many_integers (length r) k r))
  where
    go : (x : Nums) → NumsAre (λ ns. is_paired ns ≡ true) x → CountIs (with_all (draw s) x)
    go short c = tt
    go (nums ns ks l t) c = h (map moved ns) (some_pairs ns c)

-- ---- dummies

abbrev AtMostOne : Nums → Type 0
AtMostOne x = NumsAre (λ ns. length ns ≤ 1) x

perhaps_one : (k : ℕ) (r : List ℕ) → AtMostOne (perhaps_integer k r)
unfolding perhaps_integer
perhaps_one k r = if_both AtMostOne (is_present (unspaced r)) (integers 1 k r) (nums [] [] k r) (go (integers 1 k r) (counted 1 k r)) (omega arith)
  where
    go : (x : Nums) → NumsAre (λ ns. length ns ≡ 1) x → AtMostOne x
    go short h = tt
    go (nums ns ks l t) h = omega (arith, h)

white_one : (x : Nums) → AtMostOne x → AtMostOne (followed_by_white x)
white_one short h = tt
white_one (nums ns ks l t) h = if_both AtMostOne (white_next t) (nums ns ks l t) short h tt

ignoring_count : (c : Cmd) (ks : List ℕ) (a l : ℕ) (t : List ℕ) (x : Nums) (P : List Num → Type 0) → NumsAre P x → ((ds : List Num) → P ds → CmdCount c ds) → CountIs (ignoring (draft c [] ks a l t) x)
ignoring_count c ks a l t short P h f = tt
ignoring_count c ks a l t (nums ns js m u) P h f = f ns h

-- a word and its dummy
word_count : (n : ℕ) (ks : List ℕ) (k : ℕ) (r : List ℕ) → CountIs (with_dummy (named (word n) ks k r))
unfolding named
word_count n ks k r =
    let a : ℕ = k + spacer r in
    let l : ℕ = a + string (unspaced r) in
    let t : List ℕ = drop (string (unspaced r)) (unspaced r) in
    let c : Cmd = word n (take (string (unspaced r)) (unspaced r)) in
    if_both (λ (x : Draft). CountIs (with_dummy x)) (eqb (string (unspaced r)) 0) (fault 4) (draft c [] (ks ++ a ∷ []) a l t) tt
    (ignoring_count c (ks ++ a ∷ []) a l t (followed_by_white (perhaps_integer l t)) (λ ns. length ns ≤ 1) (white_one (perhaps_integer l t) (perhaps_one l t)) (λ ds h. h))

tracked_count : (x : Nums) → CountIs (with_dummy (number_named word x))
tracked_count short = tt
tracked_count (nums [] ks l t) = tt
tracked_count (nums (n ∷ ns) ks l t) = word_count (moved n) ks l t

-- a circle and its dummy
circle_count : (s : Shape) (k : ℕ) (r : List ℕ) → ((ns : List ℕ) (ds : List Num) → length ns ≡ 1 → length ds ≤ 1 → ActCount (draw s ns) ds) → CountIs (dummy_behind (with_all (draw s) (integers 1 k r)))
circle_count s k r f = go (integers 1 k r) (counted 1 k r)
  where
    go : (x : Nums) → NumsAre (λ ns. length ns ≡ 1) x → CountIs (dummy_behind (with_all (draw s) x))
    go short c = tt
    go (nums ns ks l t) c = ignoring_count (just (draw s (map moved ns))) ks 0 l t (perhaps_integer l t) (λ ms. length ms ≤ 1) (perhaps_one l t) (λ ds h. f (map moved ns) ds (length-map ns moved ∙ c) h)

-- ---- names

named_count : (f : List ℕ → Cmd) (ks : List ℕ) (k : ℕ) (r : List ℕ) → ((n : List ℕ) → CmdCount (f n) []) → CountIs (named f ks k r)
unfolding named
named_count f ks k r h = if_both CountIs (eqb (string (unspaced r)) 0) (fault 4) _ tt (h _)

mount_count : (x : Nums) → CountIs (number_named (λ n m. just (mount n m)) x)
mount_count short = tt
mount_count (nums [] ks l t) = tt
mount_count (nums (n ∷ ns) ks l t) = named_count (λ m. just (mount (moved n) m)) ks l t (λ m. refl)

byte_count : (f : ℕ → Cmd) (k : ℕ) (r : List ℕ) → ((b : ℕ) → CmdCount (f b) []) → CountIs (one_byte f k r)
byte_count f k [] h = tt
byte_count f k (b ∷ r) h = if_both CountIs (is_white b) (fault 4) _ tt (h b)

digit_count : (b k : ℕ) (r : List ℕ) → CountIs (second_digit b k r)
digit_count b k [] = tt
digit_count b k (c ∷ r) =
    if_both CountIs (is_digit c) _ (fault 4) (byte_count (pair (origin + ((b - 48) * 10 + (c - 48)))) (k + 1 + spacer r) (unspaced r) (λ x. refl)) tt

-- ---- colours and drawings

same_count : (c : Scheme) → components c ≡ scheme_count c
same_count cmy = refl
same_count default = refl
same_count gray = refl
same_count cmyk = refl
same_count rgb = refl

coloured_count : (f : Scheme → List ℕ → Act) (k : ℕ) (r : List ℕ) → ((c : Scheme) (ns : List ℕ) → length ns ≡ scheme_count c → ActCount (f c ns) []) → CountIs (coloured f k r)
coloured_count f k [] h = tt
coloured_count f k (b ∷ r) h = go (scheme_of b)
  where
    go : (o : Option Scheme) → CountIs (in_scheme f (k + 1) r o)
    go none = tt
    go (some c) = all_count (f c) (components c) (k + 1) r (λ ns e. h c ns (e ∙ same_count c))

shape_count : (s : Shape) (k : ℕ) (r : List ℕ) → CountIs (drawn s k r (form_of s))
shape_count line k r = all_count (draw line) 2 k r (λ ns h. (h, refl))
shape_count arc k r = all_count (draw arc) 4 k r (λ ns h. (h, refl))
shape_count circle k r = circle_count circle k r (λ ns ds h g. (h, g))
shape_count solid_circle k r = circle_count solid_circle k r (λ ns ds h g. (h, g))
shape_count ellipse k r = all_count (draw ellipse) 2 k r (λ ns h. (h, refl))
shape_count solid_ellipse k r = all_count (draw solid_ellipse) 2 k r (λ ns h. (h, refl))
shape_count polygon k r = pairs_count polygon k r (λ ns h. (h, refl))
shape_count solid_polygon k r = pairs_count solid_polygon k r (λ ns h. (h, refl))
shape_count spline k r = pairs_count spline k r (λ ns h. (h, refl))
shape_count thickness k r = all_count (draw thickness) 1 k r (λ ns h. (h, refl))
shape_count gray_fill k r = all_count (draw gray_fill) 1 k r (λ ns h. (h, refl))
shape_count (colour_fill c) k r = all_count (draw (colour_fill c)) (components c) k r (λ ns h. (h ∙ same_count c, refl))

drawing_count : (k : ℕ) (r : List ℕ) → CountIs (drawing k r)
unfolding drawing
drawing_count k [] = tt
drawing_count k (b ∷ r) =
    if_both CountIs (is "F" b) _ _ (coloured_count (λ c. draw (colour_fill c)) (k + 1 + spacer r) (unspaced r) (λ c ns h. (h, refl))) (go (shape_of b))
  where
    go : (o : Option Shape) → CountIs (in_shape (k + 1) r o)
    go none = tt
    go (some s) = shape_count s (k + 1) r

-- ---- controls

resolution_count : (x : Nums) → CountIs (resolution_of x)
resolution_count short = tt
resolution_count (nums [] ks l t) = tt
resolution_count (nums (n ∷ []) ks l t) = tt
resolution_count (nums (n ∷ h ∷ []) ks l t) = tt
resolution_count (nums (n ∷ h ∷ v ∷ more) ks l t) = refl

plain_same : (c : Plain) (ns : List ℕ) → length ns ≡ plain_count c → PlainCount c ns
plain_same pause ns h = h
plain_same trailer ns h = h
plain_same height ns h = h
plain_same slant ns h = h
plain_same underline ns h = h

plain_count_lem : (c : Plain) (k : ℕ) (r : List ℕ) → CountIs (closed (plainly c k r))
plain_count_lem c k r = closed_count (plainly c k r) (all_count (plain c) (plain_count c) k r (λ ns h. (plain_same c ns h, refl)))

control_count : (b k : ℕ) (r : List ℕ) → CountIs (control b k r)
unfolding control
control_count b k r =
    if_both CountIs (is "T" b) _ _ (closed_count (named (λ n. just (device n)) [] k r) (named_count (λ n. just (device n)) [] k r (λ n. refl)))
    (if_both CountIs (is "r" b) _ _ (closed_count (resolution_of (integers 3 k r)) (resolution_count (integers 3 k r)))
    (if_both CountIs (is "i" b) _ _ (closed_count (alone init k r) refl)
    (if_both CountIs (is "F" b) _ _ (closed_count (named (λ n. just (file n)) [] k r) (named_count (λ n. just (file n)) [] k r (λ n. refl)))
    (if_both CountIs (is "f" b) _ _ (closed_count (number_named (λ n m. just (mount n m)) (integers 1 k r)) (mount_count (integers 1 k r)))
    (if_both CountIs (is "H" b) _ _ (plain_count_lem height k r)
    (if_both CountIs (is "S" b) _ _ (plain_count_lem slant k r)
    (if_both CountIs (is "p" b) _ _ (plain_count_lem pause k r)
    (if_both CountIs (is "t" b) _ _ (plain_count_lem trailer k r)
    (if_both CountIs (is "u" b) _ _ (plain_count_lem underline k r)
    (if_both CountIs (is "s" b) _ _ (closed_count (alone stop k r) refl)
    (if_both CountIs (is "X" b) _ _ refl tt)))))))))))

control_word_count : (k : ℕ) (r : List ℕ) → CountIs (control_word k r)
control_word_count k [] = tt
control_word_count k (b ∷ r) = if_both CountIs (is_white b) (fault 3) _ tt (control_count b (k + 1 + string r) (drop (string r) r))

-- ---- every command

letter_count : (b : ℕ) (r : List ℕ) → CountIs (letter b r)
unfolding letter
letter_count b r =
    let one : (f : ℕ → Act) → ((n : ℕ) → ActCount (f n) []) → CountIs (with_one f (integers 1 1 r)) = λ f h. one_count f (integers 1 1 r) h in
    if_both CountIs (is "c" b) _ _ (byte_count (λ x. just (glyph (x ∷ []))) (1 + spacer r) (unspaced r) (λ x. refl))
    (if_both CountIs (is "C" b) _ _ (named_count (λ n. just (glyph n)) [] 1 r (λ n. refl))
    (if_both CountIs (is "N" b) _ _ (one index (λ n. refl))
    (if_both CountIs (is "t" b) _ _ (word_count origin (1 ∷ []) 1 r)
    (if_both CountIs (is "u" b) _ _ (tracked_count (integers 1 1 r))
    (if_both CountIs (is "H" b) _ _ (one (to across) (λ n. refl))
    (if_both CountIs (is "h" b) _ _ (one (by across) (λ n. refl))
    (if_both CountIs (is "V" b) _ _ (one (to down) (λ n. refl))
    (if_both CountIs (is "v" b) _ _ (one (by down) (λ n. refl))
    (if_both CountIs (is "p" b) _ _ (one page (λ n. refl))
    (if_both CountIs (is "f" b) _ _ (one font (λ n. refl))
    (if_both CountIs (is "s" b) _ _ (one size (λ n. refl))
    (if_both CountIs (is "m" b) _ _ (coloured_count colour (1 + spacer r) (unspaced r) (λ c ns h. (h, refl)))
    (if_both CountIs (is "n" b) _ _ (ignoring_count (just break) [] 0 1 r (integers 2 1 r) (λ ns. length ns ≡ 2) (counted 2 1 r) (λ ds h. h))
    (if_both CountIs (is "w" b) _ _ refl
    (if_both CountIs (is "D" b) _ _ (closed_count (drawing (1 + spacer r) (unspaced r)) (drawing_count (1 + spacer r) (unspaced r)))
    (if_both CountIs (is "x" b) _ _ (control_word_count (1 + spacer r) (unspaced r))
    (if_both CountIs (is_digit b) _ _ (digit_count b (1 + spacer r) (unspaced r)) tt)))))))))))))))))

pub command_count : (b : ℕ) (r : List ℕ) (c : Cmd) (ds : List Num) (ks : List ℕ) (a l : ℕ) (t : List ℕ) → letter b r ≡ draft c ds ks a l t → CmdCount c ds
command_count b r c ds ks a l t e = let h : CountIs (draft c ds ks a l t) = rw e at (letter_count b r) in h
