-- Every scanned command is within its limits, and its names, texts and counts of arguments are as they must be.
use Prim.Native.Nat.{◌<◌, ◌≤◌, ℕ, zero, suc, ◌+◌, ◌*◌, ◌-◌}
use native.Mathlib.Omega.{arith}
use mathlib.Core.Bool.{Bool, true, false}
use mathlib.Core.List.{List, [], ◌∷◌, ◌++◌, map}
use mathlib.Core.Option.{Option, none, some}
use mathlib.Core.Path.{◌≡◌, refl, ap, ◌∙◌}
use borrow.Author.Tests.{leb-true}
use lib.Dec.{leb, eqb}
use lib.ListN.{length, take, drop, length-map}
use Rattle.rules.specs.Bytes.{is, is_space, is_white, is_not_white, is_digit, is_clear, spacer, unspaced, string, one_line, Num, Int, no_int, int, integer, origin, moved, Nums, short, nums, with_num, after_int, integers, many_integers, perhaps_integer}
use Rattle.rules.specs.Act.{across, down, Scheme, Shape, colour_fill, Plain, pause, trailer, height, slant, underline, Act, glyph, index, to, by, page, font, size, colour, break, draw, device, init, file, mount, plain, stop, Cmd, just, word, pair}
use Rattle.rules.specs.Letters.{Draft, fault, draft, with_one, with_all, ignoring, one_byte, named, number_named, followed_by_white, with_dummy, second_digit, scheme_of, components, in_scheme, coloured}
use Rattle.rules.specs.Drawing.{line_ends, closed, shape_of, Form, exactly, dummied, paired, form_of, is_paired, in_pairs, dummy_behind, drawn, in_shape, drawing}
use Rattle.rules.specs.Controls.{alone, resolution_of, plain_count, plainly, raw_text, control, control_word}
use Rattle.rules.specs.Scan.{letter, cmd_limits, is_small, name_in, outside, judged_by, judged, command, Scan, got, bad, Cmds, one_command, commands}
use Rattle.laws.proofs.Cases.{if_on, and_right, on, if_both, not_zero, Stops, all_span, length-span, drop-span}
use Rattle.laws.proofs.Good.{all_true, Name, Count, Shaped, ShapedCmd, GoodCmd, AllCmds}

-- ---- integers

-- what holds of the numbers, where there are any
abbrev pub NumsAre : (List Num → Type 0) → Nums → Type 0
NumsAre P short = Unit {0}
NumsAre P (nums ns ks l t) = P ns

-- as many integers as were asked for
pub counted : (n k : ℕ) (r : List ℕ) → NumsAre (λ ns. length ns ≡ n) (integers n k r)
unfolding integers
counted zero k r = refl
counted (suc n) k r = go (integer (unspaced r)) (λ j t. counted n j t)
  where
    one_more : (m : Num) (j : ℕ) (x : Nums) → NumsAre (λ ns. length ns ≡ n) x → NumsAre (λ ns. length ns ≡ suc n) (with_num m j x)
    one_more m j short h = tt
    one_more m j (nums ns ks l t) h = ap suc h

    go : (x : Int) → ((j : ℕ) (t : List ℕ) → NumsAre (λ ns. length ns ≡ n) (integers n j t))
        → NumsAre (λ ns. length ns ≡ suc n) (after_int (k + spacer r) (unspaced r) (λ j t. integers n j t) x)
    go no_int f = tt
    go (int m l) f = one_more m (k + spacer r) (integers n (k + spacer r + l) (drop l (unspaced r))) (f (k + spacer r + l) (drop l (unspaced r)))

pub in_pairs_lem : (x : Nums) → NumsAre (λ ns. is_paired ns ≡ true) (in_pairs x)
in_pairs_lem short = tt
in_pairs_lem (nums ns ks l t) = on (is_paired ns) (λ h. rw h h) (λ h. rw h tt)

paired-map : (f : Num → ℕ) (ns : List Num) → is_paired (map f ns) ≡ is_paired ns
paired-map f [] = refl
paired-map f (x ∷ []) = refl
paired-map f (x ∷ y ∷ []) = refl
paired-map f (x ∷ y ∷ z ∷ r) = paired-map f (z ∷ r)

-- ---- what each scanner puts together; a refusal has a number

abbrev pub ShapedDraft : Draft → Type 0
ShapedDraft (fault n) = 0 < n
ShapedDraft (draft c ds ks a l t) = ShapedCmd c

closed_shaped : (x : Draft) → ShapedDraft x → ShapedDraft (closed x)
closed_shaped (fault n) h = h
closed_shaped (draft c ds ks a l t) h = if_both ShapedDraft (line_ends t) (draft c ds ks a l t) (fault 5) h (omega arith)

ignoring_shaped : (x : Draft) (y : Nums) → ShapedDraft x → ShapedDraft (ignoring x y)
ignoring_shaped (fault n) y h = h
ignoring_shaped (draft c ds ks a l t) short h = omega arith
ignoring_shaped (draft c ds ks a l t) (nums ns js k s) h = h

dummy_shaped : (x : Draft) → ShapedDraft x → ShapedDraft (with_dummy x)
dummy_shaped (fault n) h = h
dummy_shaped (draft c ds ks a l t) h = ignoring_shaped (draft c ds ks a l t) (followed_by_white (perhaps_integer l t)) h

behind_shaped : (x : Draft) → ShapedDraft x → ShapedDraft (dummy_behind x)
behind_shaped (fault n) h = h
behind_shaped (draft c ds ks a l t) h = ignoring_shaped (draft c ds ks a l t) (perhaps_integer l t) h

named_shaped : (f : List ℕ → Cmd) (ks : List ℕ) (k : ℕ) (r : List ℕ) → ((n : List ℕ) → Name n → ShapedCmd (f n)) → ShapedDraft (named f ks k r)
unfolding named
named_shaped f ks k r h =
    on (eqb (string (unspaced r)) 0) (λ e. rw e (omega arith))
    (λ e. rw e (h (take (string (unspaced r)) (unspaced r)) (record {
      whole = all_span is_not_white (unspaced r);
      some = rw (length-span is_not_white (unspaced r)) (not_zero (string (unspaced r)) e);
    })))

number_named_shaped : (f : ℕ → List ℕ → Cmd) (x : Nums) → ((n : ℕ) (m : List ℕ) → Name m → ShapedCmd (f n m)) → ShapedDraft (number_named f x)
number_named_shaped f short h = omega arith
number_named_shaped f (nums [] ks l t) h = omega arith
number_named_shaped f (nums (n ∷ ns) ks l t) h = named_shaped (f (moved n)) ks l t (h (moved n))

byte_shaped : (f : ℕ → Cmd) (k : ℕ) (r : List ℕ) → ((b : ℕ) → is_not_white b ≡ true → ShapedCmd (f b)) → ShapedDraft (one_byte f k r)
byte_shaped f k [] h = omega arith
byte_shaped f k (b ∷ r) h = on (is_white b) (λ e. rw e (omega arith)) (λ e. rw e (h b (rw e)))

digit_small : (b : ℕ) → is_digit b ≡ true → b ≤ 57
digit_small b h = leb-true b 57 (and_right (leb 48 b) (leb b 57) h)

digit_shaped : (b k : ℕ) (r : List ℕ) → is_digit b ≡ true → ShapedDraft (second_digit b k r)
digit_shaped b k [] d = omega arith
digit_shaped b k (c ∷ r) d =
    if_on ShapedDraft (is_digit c) _ (fault 4)
    (λ e. byte_shaped (pair (origin + ((b - 48) * 10 + (c - 48)))) (k + 1 + spacer r) (unspaced r) (λ x h. (h, omega (arith, digit_small b d, digit_small c e)))) (λ e. omega arith)

one_shaped : (f : ℕ → Act) (x : Nums) → ((n : ℕ) → Shaped (f n)) → ShapedDraft (with_one f x)
one_shaped f short h = omega arith
one_shaped f (nums [] ks l t) h = omega arith
one_shaped f (nums (n ∷ ns) ks l t) h = h (moved n)

all_shaped : (P : List Num → Type 0) (f : List ℕ → Act) (x : Nums) → NumsAre P x → ((ns : List Num) → P ns → Shaped (f (map moved ns))) → ShapedDraft (with_all f x)
all_shaped P f short c h = omega arith
all_shaped P f (nums ns ks l t) c h = h ns c

-- n integers, and an act that wants n
counted_shaped : (f : List ℕ → Act) (n k : ℕ) (r : List ℕ) → ((ns : List ℕ) → length ns ≡ n → Shaped (f ns)) → ShapedDraft (with_all f (integers n k r))
counted_shaped f n k r h = all_shaped (λ ns. length ns ≡ n) f (integers n k r) (counted n k r) (λ ns c. h (map moved ns) (length-map ns moved ∙ c))

coloured_shaped : (f : Scheme → List ℕ → Act) (k : ℕ) (r : List ℕ) → ((c : Scheme) (ns : List ℕ) → length ns ≡ components c → Shaped (f c ns)) → ShapedDraft (coloured f k r)
coloured_shaped f k [] h = omega arith
coloured_shaped f k (b ∷ r) h = go (scheme_of b)
  where
    go : (o : Option Scheme) → ShapedDraft (in_scheme f (k + 1) r o)
    go none = omega arith
    go (some c) = counted_shaped (f c) (components c) (k + 1) r (h c)

drawn_shaped : (s : Shape) (k : ℕ) (r : List ℕ) (f : Form) → ((ns : List ℕ) → Count f ns → Shaped (draw s ns)) → ShapedDraft (drawn s k r f)
drawn_shaped s k r (exactly n) h = counted_shaped (draw s) n k r h
drawn_shaped s k r dummied h = behind_shaped (with_all (draw s) (integers 1 k r)) (counted_shaped (draw s) 1 k r h)
drawn_shaped s k r paired h =
    all_shaped (λ ns. is_paired ns ≡ true) (draw s) (in_pairs (many_integers (length r) k r)) (in_pairs_lem (many_integers (length r) k r))
    (λ ns c. h (map moved ns) (paired-map moved ns ∙ c))

drawing_shaped : (k : ℕ) (r : List ℕ) → ShapedDraft (drawing k r)
unfolding drawing
drawing_shaped k [] = omega arith
drawing_shaped k (b ∷ r) =
    if_both ShapedDraft (is "F" b) _ _ (coloured_shaped (λ c. draw (colour_fill c)) (k + 1 + spacer r) (unspaced r) (λ c ns h. h)) (go (shape_of b))
  where
    go : (o : Option Shape) → ShapedDraft (in_shape (k + 1) r o)
    go none = omega arith
    go (some s) = drawn_shaped s (k + 1) r (form_of s) (λ ns h. h)

resolution_shaped : (x : Nums) → ShapedDraft (resolution_of x)
resolution_shaped short = omega arith
resolution_shaped (nums [] ks l t) = omega arith
resolution_shaped (nums (n ∷ []) ks l t) = omega arith
resolution_shaped (nums (n ∷ h ∷ []) ks l t) = omega arith
resolution_shaped (nums (n ∷ h ∷ v ∷ more) ks l t) = tt

-- the first byte of a text is no space
raw_starts : (r : List ℕ) → Stops is_space r → Stops is_space (raw_text r)
unfolding raw_text
raw_starts [] h = tt
raw_starts (b ∷ []) h = on (is "\n" b) (λ k. rw k tt) (λ k. rw k h)
raw_starts (b ∷ c ∷ r) h = on (is "\n" b) (λ k. rw k (on (is "+" c) (λ j. rw j refl) (λ j. rw j tt))) (λ k. rw k h)

-- controls with a name, and with numbers alone
name_shaped : (f : List ℕ → Act) (k : ℕ) (r : List ℕ) → ((n : List ℕ) → Name n → Shaped (f n)) → ShapedDraft (closed (named (λ n. just (f n)) [] k r))
name_shaped f k r h = closed_shaped (named (λ n. just (f n)) [] k r) (named_shaped (λ n. just (f n)) [] k r h)

plain_shaped : (c : Plain) (k : ℕ) (r : List ℕ) → ShapedDraft (closed (plainly c k r))
plain_shaped c k r = closed_shaped (plainly c k r) (counted_shaped (plain c) (plain_count c) k r (λ ns h. h))

control_shaped : (b k : ℕ) (r : List ℕ) → ShapedDraft (control b k r)
unfolding control
control_shaped b k r =
    if_both ShapedDraft (is "T" b) _ _ (name_shaped device k r (λ n h. h))
    (if_both ShapedDraft (is "r" b) _ _ (closed_shaped (resolution_of (integers 3 k r)) (resolution_shaped (integers 3 k r)))
    (if_both ShapedDraft (is "i" b) _ _ (closed_shaped (alone init k r) tt)
    (if_both ShapedDraft (is "F" b) _ _ (name_shaped file k r (λ n h. h))
    (if_both ShapedDraft (is "f" b) _ _ (closed_shaped (number_named (λ n m. just (mount n m)) (integers 1 k r)) (number_named_shaped (λ n m. just (mount n m)) (integers 1 k r) (λ n m h. h)))
    (if_both ShapedDraft (is "H" b) _ _ (plain_shaped height k r)
    (if_both ShapedDraft (is "S" b) _ _ (plain_shaped slant k r)
    (if_both ShapedDraft (is "p" b) _ _ (plain_shaped pause k r)
    (if_both ShapedDraft (is "t" b) _ _ (plain_shaped trailer k r)
    (if_both ShapedDraft (is "u" b) _ _ (plain_shaped underline k r)
    (if_both ShapedDraft (is "s" b) _ _ (closed_shaped (alone stop k r) tt)
    (if_both ShapedDraft (is "X" b) _ _ (raw_starts (unspaced r) (drop-span is_space r)) (omega arith))))))))))))

word_shaped : (k : ℕ) (r : List ℕ) → ShapedDraft (control_word k r)
word_shaped k [] = omega arith
word_shaped k (b ∷ r) = if_both ShapedDraft (is_white b) (fault 3) _ (omega arith) (control_shaped b (k + 1 + string r) (drop (string r) r))

pub letter_shaped : (b : ℕ) (r : List ℕ) → ShapedDraft (letter b r)
unfolding letter
letter_shaped b r =
    let one : (f : ℕ → Act) → ((n : ℕ) → Shaped (f n)) → ShapedDraft (with_one f (integers 1 1 r)) = λ f h. one_shaped f (integers 1 1 r) h in
    if_both ShapedDraft (is "c" b) _ _ (byte_shaped (λ x. just (glyph (x ∷ []))) (1 + spacer r) (unspaced r) (λ x h. record { whole = (h, tt); some = omega arith }))
    (if_both ShapedDraft (is "C" b) _ _ (named_shaped (λ n. just (glyph n)) [] 1 r (λ n h. h))
    (if_both ShapedDraft (is "N" b) _ _ (one index (λ n. tt))
    (if_both ShapedDraft (is "t" b) _ _ (dummy_shaped (named (word origin) (1 ∷ []) 1 r) (named_shaped (word origin) (1 ∷ []) 1 r (λ n h. h)))
    (if_both ShapedDraft (is "u" b) _ _ (dummy_shaped (number_named word (integers 1 1 r)) (number_named_shaped word (integers 1 1 r) (λ n m h. h)))
    (if_both ShapedDraft (is "H" b) _ _ (one (to across) (λ n. tt))
    (if_both ShapedDraft (is "h" b) _ _ (one (by across) (λ n. tt))
    (if_both ShapedDraft (is "V" b) _ _ (one (to down) (λ n. tt))
    (if_both ShapedDraft (is "v" b) _ _ (one (by down) (λ n. tt))
    (if_both ShapedDraft (is "p" b) _ _ (one page (λ n. tt))
    (if_both ShapedDraft (is "f" b) _ _ (one font (λ n. tt))
    (if_both ShapedDraft (is "s" b) _ _ (one size (λ n. tt))
    (if_both ShapedDraft (is "m" b) _ _ (coloured_shaped colour (1 + spacer r) (unspaced r) (λ c ns h. h))
    (if_both ShapedDraft (is "n" b) _ _ (ignoring_shaped (draft (just break) [] [] 0 1 r) (integers 2 1 r) tt)
    (if_both ShapedDraft (is "w" b) _ _ tt
    (if_both ShapedDraft (is "D" b) _ _ (closed_shaped (drawing (1 + spacer r) (unspaced r)) (drawing_shaped (1 + spacer r) (unspaced r)))
    (if_both ShapedDraft (is "x" b) _ _ (word_shaped (1 + spacer r) (unspaced r))
    (if_on ShapedDraft (is_digit b) _ _ (digit_shaped b (1 + spacer r) (unspaced r)) (λ e. omega arith))))))))))))))))))

-- ---- limits

abbrev is_none : Option ℕ → Bool
is_none none = true
is_none (some k) = false

-- nothing is outside: all is within
pub none_outside : (bs : List Bool) (ks : List ℕ) → outside bs ks ≡ none → all_true bs ≡ true
none_outside [] ks h = refl
none_outside (true ∷ bs) [] h = none_outside bs [] h
none_outside (true ∷ bs) (k ∷ ks) h = none_outside bs ks h
none_outside (false ∷ bs) [] h = ap is_none h
none_outside (false ∷ bs) (k ∷ ks) h = ap is_none h

pub all_true_left : (xs ys : List Bool) → all_true (xs ++ ys) ≡ true → all_true xs ≡ true
all_true_left [] ys h = refl
all_true_left (true ∷ xs) ys h = all_true_left xs ys h
all_true_left (false ∷ xs) ys h = h

abbrev pub GoodScan : Scan → Type 0
GoodScan (bad n k) = 0 < n
GoodScan (got c a l) = GoodCmd c

judged_good : (x : Draft) → ShapedDraft x → GoodScan (judged x)
judged_good (fault n) h = h
judged_good (draft c ds ks a l t) h = go (outside (cmd_limits c ++ map is_small ds) ks) refl
  where
    go : (o : Option ℕ) → outside (cmd_limits c ++ map is_small ds) ks ≡ o → GoodScan (judged_by c a l o)
    go none e =
        if_on GoodScan (is_clear (name_in c)) (got c a l) (bad 16 0)
        (λ k. (all_true_left (cmd_limits c) (map is_small ds) (none_outside (cmd_limits c ++ map is_small ds) ks e), h, k))
        (λ k. omega arith)
    go (some k) e = omega arith

pub command_good : (b : ℕ) (r : List ℕ) → GoodScan (command b r)
command_good b r = judged_good (letter b r) (letter_shaped b r)

-- ---- the commands of a stream

one_good : (at : ℕ) (go : ℕ → Cmds) (x : Scan) → ((k : ℕ) → AllCmds (go k)) → GoodScan x → AllCmds (one_command at go x)
one_good at go (bad n k) f h = tt
one_good at go (got c a l) f h = (h, f (l - 1))

pub commands_good : (r : List ℕ) (at k : ℕ) → AllCmds (commands at k r)
unfolding commands
commands_good [] at k = tt
commands_good (b ∷ r) at (suc k) = commands_good r (at + 1) k
commands_good (b ∷ r) at zero =
    if_both AllCmds (is_white b) _ _ (commands_good r (at + 1) 0)
    (if_both AllCmds (is "#" b) _ _ (commands_good r (at + 1) (one_line r))
    (one_good at (λ k. commands (at + 1) k r) (command b r) (λ k. commands_good r (at + 1) k) (command_good b r)))
