-- A command that is not complete is refused as 3, 4 or 5.
use Prim.Native.Nat.{ℕ, ◌+◌, ◌*◌, ◌-◌, ◌≤◌}
use native.Mathlib.Omega.{arith}
use mathlib.Core.List.{List, [], ◌∷◌}
use mathlib.Core.Option.{Option, none, some}
use lib.Dec.{eqb}
use lib.ListN.{length, drop}
use Rattle.rules.specs.Bytes.{is, is_white, is_digit, spacer, unspaced, string, origin, moved, Nums, short, nums, integers, many_integers, perhaps_integer}
use Rattle.rules.specs.Act.{across, down, Scheme, Shape, colour_fill, Plain, pause, trailer, height, slant, underline, Act, glyph, index, to, by, page, font, size, colour, break, draw, device, init, file, mount, plain, stop, Cmd, just, word, pair}
use Rattle.rules.specs.Letters.{Draft, fault, draft, with_one, with_all, ignoring, one_byte, named, number_named, followed_by_white, with_dummy, second_digit, scheme_of, components, in_scheme, coloured}
use Rattle.rules.specs.Drawing.{line_ends, closed, shape_of, Form, exactly, dummied, paired, form_of, in_pairs, dummy_behind, drawn, in_shape, drawing}
use Rattle.rules.specs.Controls.{alone, resolution_of, plain_count, plainly, control, control_word}
use Rattle.rules.specs.Scan.{letter}
use Rattle.laws.proofs.Cases.{if_both}

abbrev pub FaultIn : Draft → Type 0
FaultIn (fault n) = (3 ≤ n) × (n ≤ 5)
FaultIn (draft c ds ks a l t) = Unit {0}

closed_in : (x : Draft) → FaultIn x → FaultIn (closed x)
closed_in (fault n) h = h
closed_in (draft c ds ks a l t) h = if_both FaultIn (line_ends t) (draft c ds ks a l t) (fault 5) tt (omega arith)

ignoring_in : (x : Draft) (y : Nums) → FaultIn x → FaultIn (ignoring x y)
ignoring_in (fault n) y h = h
ignoring_in (draft c ds ks a l t) short h = omega arith
ignoring_in (draft c ds ks a l t) (nums ns js k s) h = tt

dummy_in : (x : Draft) → FaultIn x → FaultIn (with_dummy x)
dummy_in (fault n) h = h
dummy_in (draft c ds ks a l t) h = ignoring_in (draft c ds ks a l t) (followed_by_white (perhaps_integer l t)) tt

behind_in : (x : Draft) → FaultIn x → FaultIn (dummy_behind x)
behind_in (fault n) h = h
behind_in (draft c ds ks a l t) h = ignoring_in (draft c ds ks a l t) (perhaps_integer l t) tt

named_in : (f : List ℕ → Cmd) (ks : List ℕ) (k : ℕ) (r : List ℕ) → FaultIn (named f ks k r)
unfolding named
named_in f ks k r = if_both FaultIn (eqb (string (unspaced r)) 0) (fault 4) _ (omega arith) tt

number_named_in : (f : ℕ → List ℕ → Cmd) (x : Nums) → FaultIn (number_named f x)
number_named_in f short = omega arith
number_named_in f (nums [] ks l t) = omega arith
number_named_in f (nums (n ∷ ns) ks l t) = named_in (f (moved n)) ks l t

byte_in : (f : ℕ → Cmd) (k : ℕ) (r : List ℕ) → FaultIn (one_byte f k r)
byte_in f k [] = omega arith
byte_in f k (b ∷ r) = if_both FaultIn (is_white b) (fault 4) _ (omega arith) tt

digit_in : (b k : ℕ) (r : List ℕ) → FaultIn (second_digit b k r)
digit_in b k [] = omega arith
digit_in b k (c ∷ r) =
    if_both FaultIn (is_digit c) _ (fault 4) (byte_in (pair (origin + ((b - 48) * 10 + (c - 48)))) (k + 1 + spacer r) (unspaced r)) (omega arith)

one_in : (f : ℕ → Act) (x : Nums) → FaultIn (with_one f x)
one_in f short = omega arith
one_in f (nums [] ks l t) = omega arith
one_in f (nums (n ∷ ns) ks l t) = tt

all_in : (f : List ℕ → Act) (x : Nums) → FaultIn (with_all f x)
all_in f short = omega arith
all_in f (nums ns ks l t) = tt

coloured_in : (f : Scheme → List ℕ → Act) (k : ℕ) (r : List ℕ) → FaultIn (coloured f k r)
coloured_in f k [] = omega arith
coloured_in f k (b ∷ r) = go (scheme_of b)
  where
    go : (o : Option Scheme) → FaultIn (in_scheme f (k + 1) r o)
    go none = omega arith
    go (some c) = all_in (f c) (integers (components c) (k + 1) r)

drawn_in : (s : Shape) (k : ℕ) (r : List ℕ) (f : Form) → FaultIn (drawn s k r f)
drawn_in s k r (exactly n) = all_in (draw s) (integers n k r)
drawn_in s k r dummied = behind_in (with_all (draw s) (integers 1 k r)) (all_in (draw s) (integers 1 k r))
drawn_in s k r paired = all_in (draw s) (in_pairs (many_integers (length r) k r))

drawing_in : (k : ℕ) (r : List ℕ) → FaultIn (drawing k r)
unfolding drawing
drawing_in k [] = omega arith
drawing_in k (b ∷ r) = if_both FaultIn (is "F" b) _ _ (coloured_in (λ c. draw (colour_fill c)) (k + 1 + spacer r) (unspaced r)) (go (shape_of b))
  where
    go : (o : Option Shape) → FaultIn (in_shape (k + 1) r o)
    go none = omega arith
    go (some s) = drawn_in s (k + 1) r (form_of s)

resolution_in : (x : Nums) → FaultIn (resolution_of x)
resolution_in short = omega arith
resolution_in (nums [] ks l t) = omega arith
resolution_in (nums (n ∷ []) ks l t) = omega arith
resolution_in (nums (n ∷ h ∷ []) ks l t) = omega arith
resolution_in (nums (n ∷ h ∷ v ∷ more) ks l t) = tt

name_in_lem : (f : List ℕ → Act) (k : ℕ) (r : List ℕ) → FaultIn (closed (named (λ n. just (f n)) [] k r))
name_in_lem f k r = closed_in (named (λ n. just (f n)) [] k r) (named_in (λ n. just (f n)) [] k r)

plain_in : (c : Plain) (k : ℕ) (r : List ℕ) → FaultIn (closed (plainly c k r))
plain_in c k r = closed_in (plainly c k r) (all_in (plain c) (integers (plain_count c) k r))

control_in : (b k : ℕ) (r : List ℕ) → FaultIn (control b k r)
unfolding control
control_in b k r =
    if_both FaultIn (is "T" b) _ _ (name_in_lem device k r)
    (if_both FaultIn (is "r" b) _ _ (closed_in (resolution_of (integers 3 k r)) (resolution_in (integers 3 k r)))
    (if_both FaultIn (is "i" b) _ _ (closed_in (alone init k r) tt)
    (if_both FaultIn (is "F" b) _ _ (name_in_lem file k r)
    (if_both FaultIn (is "f" b) _ _ (closed_in (number_named (λ n m. just (mount n m)) (integers 1 k r)) (number_named_in (λ n m. just (mount n m)) (integers 1 k r)))
    (if_both FaultIn (is "H" b) _ _ (plain_in height k r)
    (if_both FaultIn (is "S" b) _ _ (plain_in slant k r)
    (if_both FaultIn (is "p" b) _ _ (plain_in pause k r)
    (if_both FaultIn (is "t" b) _ _ (plain_in trailer k r)
    (if_both FaultIn (is "u" b) _ _ (plain_in underline k r)
    (if_both FaultIn (is "s" b) _ _ (closed_in (alone stop k r) tt)
    (if_both FaultIn (is "X" b) _ _ tt (omega arith))))))))))))

word_in : (k : ℕ) (r : List ℕ) → FaultIn (control_word k r)
word_in k [] = omega arith
word_in k (b ∷ r) = if_both FaultIn (is_white b) (fault 3) _ (omega arith) (control_in b (k + 1 + string r) (drop (string r) r))

pub letter-fault : (b : ℕ) (r : List ℕ) → FaultIn (letter b r)
unfolding letter
letter-fault b r =
    let one : (f : ℕ → Act) → FaultIn (with_one f (integers 1 1 r)) = λ f. one_in f (integers 1 1 r) in
    if_both FaultIn (is "c" b) _ _ (byte_in (λ x. just (glyph (x ∷ []))) (1 + spacer r) (unspaced r))
    (if_both FaultIn (is "C" b) _ _ (named_in (λ n. just (glyph n)) [] 1 r)
    (if_both FaultIn (is "N" b) _ _ (one index)
    (if_both FaultIn (is "t" b) _ _ (dummy_in (named (word origin) (1 ∷ []) 1 r) (named_in (word origin) (1 ∷ []) 1 r))
    (if_both FaultIn (is "u" b) _ _ (dummy_in (number_named word (integers 1 1 r)) (number_named_in word (integers 1 1 r)))
    (if_both FaultIn (is "H" b) _ _ (one (to across))
    (if_both FaultIn (is "h" b) _ _ (one (by across))
    (if_both FaultIn (is "V" b) _ _ (one (to down))
    (if_both FaultIn (is "v" b) _ _ (one (by down))
    (if_both FaultIn (is "p" b) _ _ (one page)
    (if_both FaultIn (is "f" b) _ _ (one font)
    (if_both FaultIn (is "s" b) _ _ (one size)
    (if_both FaultIn (is "m" b) _ _ (coloured_in colour (1 + spacer r) (unspaced r))
    (if_both FaultIn (is "n" b) _ _ (ignoring_in (draft (just break) [] [] 0 1 r) (integers 2 1 r) tt)
    (if_both FaultIn (is "w" b) _ _ tt
    (if_both FaultIn (is "D" b) _ _ (closed_in (drawing (1 + spacer r) (unspaced r)) (drawing_in (1 + spacer r) (unspaced r)))
    (if_both FaultIn (is "x" b) _ _ (word_in (1 + spacer r) (unspaced r))
    (if_both FaultIn (is_digit b) _ _ (digit_in b (1 + spacer r) (unspaced r)) (omega arith))))))))))))))))))
