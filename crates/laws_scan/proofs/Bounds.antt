-- What is scanned lies within the bytes, names stand at their places, and what is left is what stands behind.
use Prim.Native.Nat.{ℕ, zero, suc, ◌+◌, ◌*◌, ◌-◌, ◌≤◌, ◌<◌}
use native.Mathlib.Omega.{arith}
use mathlib.Core.Bool.{Bool, true, false}
use mathlib.Core.List.{List, [], ◌∷◌, ◌++◌, map}
use mathlib.Core.Option.{Option, none, some}
use mathlib.Core.Path.{◌≡◌, refl, ap, ◌∙◌}
use lib.Dec.{eqb}
use lib.ListN.{length, take, drop, length-drop}
use lib.Seq.{drop-drop}
use Rattle.rules.specs.Bytes.{is, span, is_space, is_white, is_not_white, is_digit, spacer, unspaced, string, digits, Num, Int, no_int, int, signed, integer, origin, moved, Nums, short, nums, with_num, after_int, integers, is_present, many_integers, perhaps_integer}
use Rattle.rules.specs.Act.{across, down, Scheme, Shape, colour_fill, Plain, pause, trailer, height, slant, underline, Act, glyph, index, to, by, page, font, size, colour, break, space, draw, device, resolution, init, file, mount, plain, raw, stop, Cmd, just, word, pair}
use Rattle.rules.specs.Letters.{Draft, fault, draft, with_one, with_all, ignoring, one_byte, named, number_named, white_next, followed_by_white, with_dummy, second_digit, scheme_of, components, in_scheme, coloured}
use Rattle.rules.specs.Drawing.{line_ends, closed, shape_of, Form, exactly, dummied, paired, form_of, is_paired, in_pairs, dummy_behind, drawn, in_shape, drawing}
use Rattle.rules.specs.Controls.{alone, resolution_of, plain_count, plainly, raw_text, raw_length, rawly, control, control_word}
use Rattle.rules.specs.Scan.{letter, name_of, name_in, cmd_limits, is_small, outside, judged_by, judged, command, Scan, got, bad}
use Rattle.laws.proofs.Cases.{if_both, if_on, not_zero, length-span}
use Rattle.laws.proofs.Clear.{cleared_both}

pub span_le : (p : ℕ → Bool) (r : List ℕ) → span p r ≤ length r
unfolding span
span_le p [] = omega arith
span_le p (b ∷ r) = let h : span p r ≤ length r = span_le p r in if_both (λ n. n ≤ suc (length r)) (p b) (suc (span p r)) 0 (omega arith) (omega arith)

raw_le : (r : List ℕ) → raw_length r ≤ length r
unfolding raw_length
raw_le [] = omega arith
raw_le (b ∷ []) = if_both (λ n. n ≤ 1) (is "\n" b) 0 1 (omega arith) (omega arith)
raw_le (b ∷ c ∷ r) =
    let P : ℕ → Type 0 = λ n. n ≤ suc (suc (length r)) in
    let g : raw_length r ≤ length r = raw_le r in
    let h : raw_length (c ∷ r) ≤ suc (length r) = raw_le (c ∷ r) in
    if_both P (is "\n" b) _ _ (if_both P (is "+" c) (suc (suc (raw_length r))) 0 (omega arith) (omega arith)) (omega arith)

-- ---- from one distance to another

-- r stands k bytes behind a command's first byte, and t, which is the end of r, l bytes behind it
pub record Reach (k : ℕ) (r : List ℕ) (l : ℕ) (t : List ℕ) : Type 0 where
  pub far : k ≤ l
  pub most : l ≤ k + length r
  pub rest : t ≡ drop (l - k) r

pub reach_by : (k : ℕ) (r : List ℕ) (m : ℕ) → m ≤ length r → Reach k r (k + m) (drop m r)
reach_by k r m h = let e : m ≡ k + m - k = omega arith in record { far = omega arith; most = omega arith; rest = ap (λ (n : ℕ). drop n r) e }

pub reach_here : (k : ℕ) (r : List ℕ) → Reach k r k r
reach_here k r = let e : 0 ≡ k - k = omega arith in record { far = omega arith; most = omega arith; rest = ap (λ (n : ℕ). drop n r) e }

pub reach_on : (k : ℕ) (r : List ℕ) (l : ℕ) (t : List ℕ) (m : ℕ) (u : List ℕ) → Reach k r l t → Reach l t m u → Reach k r m u
reach_on k r l t m u h g =
    let e : l - k + (m - l) ≡ m - k = omega (arith, h.far, g.far) in
    record {
      far = omega (arith, h.far, g.far);
      most = omega (arith, h.far, h.most, g.most, ap length h.rest ∙ length-drop (l - k) r);
      rest = g.rest ∙ ap (drop (m - l)) h.rest ∙ drop-drop (m - l) (l - k) r ∙ ap (λ (n : ℕ). drop n r) e;
    }

-- each place is at most l
abbrev pub Places : ℕ → List ℕ → Type 0
Places l [] = Unit {0}
Places l (k ∷ ks) = (k ≤ l) × Places l ks

places_on : (l m : ℕ) (ks : List ℕ) → l ≤ m → Places l ks → Places m ks
places_on l m [] h p = tt
places_on l m (k ∷ ks) h p = (omega arith, places_on l m ks h p.1)

places_append : (l : ℕ) (ks js : List ℕ) → Places l ks → Places l js → Places l (ks ++ js)
places_append l [] js p q = q
places_append l (k ∷ ks) js p q = (p.0, places_append l ks js p.1 q)

-- ---- integers

abbrev pub IntIn : ℕ → Int → Type 0
IntIn n no_int = Unit {0}
IntIn n (int m l) = (0 < l) × (l ≤ n)

signed_in : (m : Bool) (k n : ℕ) (r : List ℕ) → k + length r ≤ n → IntIn n (signed m k r)
signed_in m k n r h =
    let g : digits r ≤ length r = span_le is_digit r in
    if_on (IntIn n) (eqb (digits r) 0) no_int _ (λ e. tt) (λ e. let p : 0 < digits r = not_zero (digits r) e in (omega arith, omega arith))

pub integer_in : (r : List ℕ) → IntIn (length r) (integer r)
unfolding integer
integer_in [] = tt
integer_in (b ∷ r) =
    if_both (IntIn (suc (length r))) (is "-" b) (signed true 1 r) (signed false 0 (b ∷ r)) (signed_in true 1 (suc (length r)) r (omega arith)) (signed_in false 0 (suc (length r)) (b ∷ r) (omega arith))

-- r stands at the distance k: where the last integer ends, what stands behind it, and where each begins
abbrev pub NumsIn : ℕ → List ℕ → Nums → Type 0
NumsIn k r short = Unit {0}
NumsIn k r (nums ns ks l t) = Reach k r l t × Places l ks

after_in : (k : ℕ) (r : List ℕ) (go : ℕ → List ℕ → Nums) → ((j : ℕ) (t : List ℕ) → NumsIn j t (go j t)) → NumsIn k r (after_int (k + spacer r) (unspaced r) go (integer (unspaced r)))
after_in k r go f = at_int (integer (unspaced r)) (integer_in (unspaced r))
  where
    one_more : (n : Num) (l : ℕ) (x : Nums) → l ≤ length (unspaced r) → NumsIn (k + spacer r + l) (drop l (unspaced r)) x → NumsIn k r (with_num n (k + spacer r) x)
    one_more n l short h p = tt
    one_more n l (nums ns ks m t) h p =
        let j : ℕ = k + spacer r in
        let first : Reach k r j (unspaced r) = reach_by k r (spacer r) (span_le is_space r) in
        let second : Reach j (unspaced r) (j + l) (drop l (unspaced r)) = reach_by j (unspaced r) l h in
        let last : Reach j (unspaced r) m t = reach_on j (unspaced r) (j + l) (drop l (unspaced r)) m t second p.0 in
        (reach_on k r j (unspaced r) m t first last, (last.far, p.1))

    at_int : (x : Int) → IntIn (length (unspaced r)) x → NumsIn k r (after_int (k + spacer r) (unspaced r) go x)
    at_int no_int h = tt
    at_int (int n l) h = one_more n l (go (k + spacer r + l) (drop l (unspaced r))) h.1 (f (k + spacer r + l) (drop l (unspaced r)))

pub integers_in : (n k : ℕ) (r : List ℕ) → NumsIn k r (integers n k r)
unfolding integers
integers_in zero k r = (reach_here k r, tt)
integers_in (suc n) k r = after_in k r (λ j t. integers n j t) (λ j t. integers_in n j t)

pub many_integers_in : (f k : ℕ) (r : List ℕ) → NumsIn k r (many_integers f k r)
unfolding many_integers
many_integers_in zero k r = (reach_here k r, tt)
many_integers_in (suc f) k r =
    if_both (NumsIn k r) (is_present (unspaced r)) _ (nums [] [] k r) (after_in k r (λ j t. many_integers f j t) (λ j t. many_integers_in f j t)) (reach_here k r, tt)

pub perhaps_integer_in : (k : ℕ) (r : List ℕ) → NumsIn k r (perhaps_integer k r)
unfolding perhaps_integer
perhaps_integer_in k r = if_both (NumsIn k r) (is_present (unspaced r)) (integers 1 k r) (nums [] [] k r) (integers_in 1 k r) (reach_here k r, tt)

pairs_in : (k : ℕ) (r : List ℕ) (x : Nums) → NumsIn k r x → NumsIn k r (in_pairs x)
pairs_in k r short h = tt
pairs_in k r (nums ns ks l t) h = if_both (NumsIn k r) (is_paired ns) (nums ns ks l t) short h tt

white_in : (k : ℕ) (r : List ℕ) (x : Nums) → NumsIn k r x → NumsIn k r (followed_by_white x)
white_in k r short h = tt
white_in k r (nums ns ks l t) h = if_both (NumsIn k r) (white_next t) (nums ns ks l t) short h tt

-- ---- commands

-- r is what stands behind the first k bytes of s, and k is at least 1
pub record At (s : List ℕ) (k : ℕ) (r : List ℕ) : Type 0 where
  pub some : 1 ≤ k
  pub most : k ≤ length s
  pub rest : r ≡ drop k s

abbrev pub Stands : List ℕ → ℕ → List ℕ → Type 0
Stands n a s = take (length n) (drop a s) ≡ n

-- the names of its glyphs, one behind the other
abbrev pub glyphs_of : Act → List ℕ
glyphs_of (glyph n) = n
glyphs_of (index n) = []
glyphs_of (to x n) = []
glyphs_of (by x n) = []
glyphs_of (page n) = []
glyphs_of (font n) = []
glyphs_of (size n) = []
glyphs_of (colour c ns) = []
glyphs_of break = []
glyphs_of space = []
glyphs_of (draw s ns) = []
glyphs_of (device n) = []
glyphs_of (resolution n h v) = []
glyphs_of init = []
glyphs_of (file n) = []
glyphs_of (mount n m) = []
glyphs_of (plain c ns) = []
glyphs_of (raw t) = []
glyphs_of stop = []

abbrev pub glyphs_in : Cmd → List ℕ
glyphs_in (just a) = glyphs_of a
glyphs_in (word n bs) = bs
glyphs_in (pair n b) = b ∷ []

pub name_stands : (c : Cmd) (a : ℕ) (s : List ℕ) → Stands (name_in c) a s → Stands (glyphs_in c) a s
name_stands (just (glyph n)) a s h = h
name_stands (just (index n)) a s h = refl
name_stands (just (to x n)) a s h = refl
name_stands (just (by x n)) a s h = refl
name_stands (just (page n)) a s h = refl
name_stands (just (font n)) a s h = refl
name_stands (just (size n)) a s h = refl
name_stands (just (colour c ns)) a s h = refl
name_stands (just break) a s h = refl
name_stands (just space) a s h = refl
name_stands (just (draw x ns)) a s h = refl
name_stands (just (device n)) a s h = refl
name_stands (just (resolution n h v)) a s k = refl
name_stands (just init) a s h = refl
name_stands (just (file n)) a s h = refl
name_stands (just (mount n m)) a s h = refl
name_stands (just (plain c ns)) a s h = refl
name_stands (just (raw x)) a s h = refl
name_stands (just stop) a s h = refl
name_stands (word n bs) a s h = h
name_stands (pair n b) a s h = h

-- A command c whose first byte is the first of s: l is its length, t stands behind it, its name stands at a and ends within it, and each argument
-- begins within it.
pub record Lies (s : List ℕ) (c : Cmd) (ks : List ℕ) (a l : ℕ) (t : List ℕ) : Type 0 where
  pub end : At s l t
  pub name : a + length (name_in c) ≤ l
  pub stands : Stands (name_in c) a s
  pub places : Places l ks

abbrev pub DraftIn : List ℕ → Draft → Type 0
DraftIn s (fault n) = Unit {0}
DraftIn s (draft c ds ks a l t) = Lies s c ks a l t

pub at_first : (b : ℕ) (r : List ℕ) → At (b ∷ r) 1 r
at_first b r = record { some = omega arith; most = omega arith; rest = refl }

module _ (s : List ℕ) where
  pub at_on : (k : ℕ) (r : List ℕ) (l : ℕ) (t : List ℕ) → At s k r → Reach k r l t → At s l t
  at_on k r l t h g =
      let e : k + (l - k) ≡ l = omega (arith, g.far) in
      record {
        some = omega (arith, h.some, g.far);
        most = omega (arith, h.most, g.most, ap length h.rest ∙ length-drop k s);
        rest = g.rest ∙ ap (drop (l - k)) h.rest ∙ drop-drop (l - k) k s ∙ ap (λ (n : ℕ). drop n s) e;
      }

  pub at_by : (k : ℕ) (r : List ℕ) (m : ℕ) → At s k r → m ≤ length r → At s (k + m) (drop m r)
  at_by k r m h g = at_on k r (k + m) (drop m r) h (reach_by k r m g)

  pub at_unspaced : (k : ℕ) (r : List ℕ) → At s k r → At s (k + spacer r) (unspaced r)
  at_unspaced k r h = at_by k r (spacer r) h (span_le is_space r)

  -- behind one more byte
  pub at_next : (k b : ℕ) (r : List ℕ) → At s k (b ∷ r) → At s (k + 1) r
  at_next k b r h = at_by k (b ∷ r) 1 h (omega arith)

  closed_in : (x : Draft) → DraftIn s x → DraftIn s (closed x)
  closed_in (fault n) h = tt
  closed_in (draft c ds ks a l t) h = if_both (DraftIn s) (line_ends t) (draft c ds ks a l t) (fault 5) h tt

  ignoring_in : (c : Cmd) (ds : List Num) (ks : List ℕ) (a l : ℕ) (t : List ℕ) (x : Nums) → DraftIn s (draft c ds ks a l t) → NumsIn l t x → DraftIn s (ignoring (draft c ds ks a l t) x)
  ignoring_in c ds ks a l t short h g = tt
  ignoring_in c ds ks a l t (nums ns js m u) h g =
      record {
        end = at_on l t m u h.end g.0;
        name = omega (arith, h.name, g.0.far);
        stands = h.stands;
        places = places_append m ks js (places_on l m ks g.0.far h.places) g.1;
      }

  dummy_in : (x : Draft) → DraftIn s x → DraftIn s (with_dummy x)
  dummy_in (fault n) h = tt
  dummy_in (draft c ds ks a l t) h = ignoring_in c ds ks a l t (followed_by_white (perhaps_integer l t)) h (white_in l t (perhaps_integer l t) (perhaps_integer_in l t))

  behind_in : (x : Draft) → DraftIn s x → DraftIn s (dummy_behind x)
  behind_in (fault n) h = tt
  behind_in (draft c ds ks a l t) h = ignoring_in c ds ks a l t (perhaps_integer l t) h (perhaps_integer_in l t)

  -- in what follows r stands at the distance k

  -- an act without a name, up to l
  nameless : (a : Act) (ks : List ℕ) (l : ℕ) (t : List ℕ) → name_of a ≡ [] → At s l t → Places l ks → Lies s (just a) ks 0 l t
  nameless a ks l t e h p = record { end = h; name = let z : length (name_of a) ≡ 0 = ap length e in omega arith; stands = rw e; places = p }

  one_in : (f : ℕ → Act) (k : ℕ) (r : List ℕ) (x : Nums) → ((n : ℕ) → name_of (f n) ≡ []) → At s k r → NumsIn k r x → DraftIn s (with_one f x)
  one_in f k r short e h g = tt
  one_in f k r (nums [] ks l t) e h g = tt
  one_in f k r (nums (n ∷ ns) ks l t) e h g = nameless (f (moved n)) ks l t (e (moved n)) (at_on k r l t h g.0) g.1

  all_in : (f : List ℕ → Act) (k : ℕ) (r : List ℕ) (x : Nums) → ((ns : List ℕ) → name_of (f ns) ≡ []) → At s k r → NumsIn k r x → DraftIn s (with_all f x)
  all_in f k r short e h g = tt
  all_in f k r (nums ns ks l t) e h g = nameless (f (map moved ns)) ks l t (e (map moved ns)) (at_on k r l t h g.0) g.1

  resolution_in : (k : ℕ) (r : List ℕ) (x : Nums) → At s k r → NumsIn k r x → DraftIn s (resolution_of x)
  resolution_in k r short h g = tt
  resolution_in k r (nums [] ks l t) h g = tt
  resolution_in k r (nums (n ∷ []) ks l t) h g = tt
  resolution_in k r (nums (n ∷ m ∷ []) ks l t) h g = tt
  resolution_in k r (nums (n ∷ m ∷ v ∷ more) ks l t) h g = nameless (resolution (moved n) (moved m) (moved v)) ks l t refl (at_on k r l t h g.0) g.1

  -- the name, if a record has it, is the string
  named_in : (f : List ℕ → Cmd) (ks : List ℕ) (k : ℕ) (r : List ℕ) → ((n : List ℕ) → name_in (f n) ≡ n) → At s k r → Places k ks
      → DraftIn s (named f ks k r)
  unfolding named
  named_in f ks k r e h g =
      let a : ℕ = k + spacer r in
      let n : ℕ = string (unspaced r) in
      let here : At s a (unspaced r) = at_unspaced k r h in
      if_both (DraftIn s) (eqb n 0) (fault 4) _ tt (record {
        end = at_by a (unspaced r) n here (span_le is_not_white (unspaced r));
        name = omega (arith, ap length (e (take n (unspaced r))), length-span is_not_white (unspaced r));
        stands = rw (e (take n (unspaced r)), ← here.rest, length-span is_not_white (unspaced r));
        places = places_append (a + n) ks (a ∷ []) (places_on k (a + n) ks (omega arith) g) (omega arith, tt);
      })

  number_named_in : (f : ℕ → List ℕ → Cmd) (k : ℕ) (r : List ℕ) (x : Nums) → ((m : ℕ) (n : List ℕ) → name_in (f m n) ≡ n) → At s k r → NumsIn k r x
      → DraftIn s (number_named f x)
  number_named_in f k r short e h g = tt
  number_named_in f k r (nums [] ks l t) e h g = tt
  number_named_in f k r (nums (n ∷ ns) ks l t) e h g = named_in (f (moved n)) ks l t (e (moved n)) (at_on k r l t h g.0) g.1

  byte_in : (f : ℕ → Cmd) (k : ℕ) (r : List ℕ) → ((b : ℕ) → name_in (f b) ≡ b ∷ []) → At s k r → DraftIn s (one_byte f k r)
  byte_in f k [] e h = tt
  byte_in f k (b ∷ r) e h =
      if_both (DraftIn s) (is_white b) (fault 4) _ tt (record {
        end = at_next k b r h;
        name = omega (arith, ap length (e b));
        stands = rw (e b, ← h.rest);
        places = (omega arith, tt);
      })

  digit_in : (b k : ℕ) (r : List ℕ) → At s k r → DraftIn s (second_digit b k r)
  digit_in b k [] h = tt
  digit_in b k (c ∷ r) h =
      if_both (DraftIn s) (is_digit c) _ (fault 4)
      (byte_in (pair (origin + ((b - 48) * 10 + (c - 48)))) (k + 1 + spacer r) (unspaced r) (λ x. refl) (at_unspaced (k + 1) r (at_next k c r h))) tt

  coloured_in : (f : Scheme → List ℕ → Act) (k : ℕ) (r : List ℕ) → ((c : Scheme) (ns : List ℕ) → name_of (f c ns) ≡ []) → At s k r → DraftIn s (coloured f k r)
  coloured_in f k [] e h = tt
  coloured_in f k (b ∷ r) e h = go (scheme_of b)
    where
      go : (o : Option Scheme) → DraftIn s (in_scheme f (k + 1) r o)
      go none = tt
      go (some c) = all_in (f c) (k + 1) r (integers (components c) (k + 1) r) (e c) (at_next k b r h) (integers_in (components c) (k + 1) r)

  drawn_in : (x : Shape) (k : ℕ) (r : List ℕ) (f : Form) → At s k r → DraftIn s (drawn x k r f)
  drawn_in x k r (exactly n) h = all_in (draw x) k r (integers n k r) (λ ns. refl) h (integers_in n k r)
  drawn_in x k r dummied h = behind_in (with_all (draw x) (integers 1 k r)) (all_in (draw x) k r (integers 1 k r) (λ ns. refl) h (integers_in 1 k r))
  drawn_in x k r paired h =
      all_in (draw x) k r (in_pairs (many_integers (length r) k r)) (λ ns. refl) h (pairs_in k r (many_integers (length r) k r) (many_integers_in (length r) k r))

  drawing_in : (k : ℕ) (r : List ℕ) → At s k r → DraftIn s (drawing k r)
  unfolding drawing
  drawing_in k [] h = tt
  drawing_in k (b ∷ r) h =
      if_both (DraftIn s) (is "F" b) _ _ (coloured_in (λ c. draw (colour_fill c)) (k + 1 + spacer r) (unspaced r) (λ c ns. refl) (at_unspaced (k + 1) r (at_next k b r h))) (go (shape_of b))
    where
      go : (o : Option Shape) → DraftIn s (in_shape (k + 1) r o)
      go none = tt
      go (some x) = drawn_in x (k + 1) r (form_of x) (at_next k b r h)

  raw_in : (k : ℕ) (r : List ℕ) → At s k r → DraftIn s (rawly k r)
  raw_in k r h = nameless (raw (raw_text r)) (k ∷ []) (k + raw_length r) (drop (raw_length r) r) refl (at_by k r (raw_length r) h (raw_le r)) (omega arith, tt)

  -- controls with a name, and with numbers alone
  name_in_lem : (f : List ℕ → Act) (k : ℕ) (r : List ℕ) → ((n : List ℕ) → name_of (f n) ≡ n) → At s k r → DraftIn s (closed (named (λ n. just (f n)) [] k r))
  name_in_lem f k r e h = closed_in (named (λ n. just (f n)) [] k r) (named_in (λ n. just (f n)) [] k r e h tt)

  plain_in : (c : Plain) (k : ℕ) (r : List ℕ) → At s k r → DraftIn s (closed (plainly c k r))
  plain_in c k r h = closed_in (plainly c k r) (all_in (plain c) k r (integers (plain_count c) k r) (λ ns. refl) h (integers_in (plain_count c) k r))

  control_in : (b k : ℕ) (r : List ℕ) → At s k r → DraftIn s (control b k r)
  unfolding control
  control_in b k r h =
      let P : Draft → Type 0 = DraftIn s in
      if_both P (is "T" b) _ _ (name_in_lem device k r (λ n. refl) h)
      (if_both P (is "r" b) _ _ (closed_in (resolution_of (integers 3 k r)) (resolution_in k r (integers 3 k r) h (integers_in 3 k r)))
      (if_both P (is "i" b) _ _ (closed_in (alone init k r) (nameless init [] k r refl h tt))
      (if_both P (is "F" b) _ _ (name_in_lem file k r (λ n. refl) h)
      (if_both P (is "f" b) _ _ (closed_in (number_named (λ n m. just (mount n m)) (integers 1 k r)) (number_named_in (λ n m. just (mount n m)) k r (integers 1 k r) (λ m n. refl) h (integers_in 1 k r)))
      (if_both P (is "H" b) _ _ (plain_in height k r h)
      (if_both P (is "S" b) _ _ (plain_in slant k r h)
      (if_both P (is "p" b) _ _ (plain_in pause k r h)
      (if_both P (is "t" b) _ _ (plain_in trailer k r h)
      (if_both P (is "u" b) _ _ (plain_in underline k r h)
      (if_both P (is "s" b) _ _ (closed_in (alone stop k r) (nameless stop [] k r refl h tt))
      (if_both P (is "X" b) _ _ (raw_in (k + spacer r) (unspaced r) (at_unspaced k r h)) tt)))))))))))

  word_in : (k : ℕ) (r : List ℕ) → At s k r → DraftIn s (control_word k r)
  word_in k [] h = tt
  word_in k (b ∷ r) h =
      if_both (DraftIn s) (is_white b) (fault 3) _ tt
      (control_in b (k + 1 + string r) (drop (string r) r) (at_by (k + 1) r (string r) (at_next k b r h) (span_le is_not_white r)))

pub letter_in : (b : ℕ) (r : List ℕ) → DraftIn (b ∷ r) (letter b r)
unfolding letter
letter_in b r =
    let s : List ℕ = b ∷ r in
    let P : Draft → Type 0 = DraftIn s in
    let h : At s 1 r = at_first b r in
    let g : At s (1 + spacer r) (unspaced r) = at_unspaced s 1 r h in
    let one : (f : ℕ → Act) → ((n : ℕ) → name_of (f n) ≡ []) → P (with_one f (integers 1 1 r)) = λ f e. one_in s f 1 r (integers 1 1 r) e h (integers_in 1 1 r) in
    if_both P (is "c" b) _ _ (byte_in s (λ x. just (glyph (x ∷ []))) (1 + spacer r) (unspaced r) (λ x. refl) g)
    (if_both P (is "C" b) _ _ (named_in s (λ n. just (glyph n)) [] 1 r (λ n. refl) h tt)
    (if_both P (is "N" b) _ _ (one index (λ n. refl))
    (if_both P (is "t" b) _ _ (dummy_in s (named (word origin) (1 ∷ []) 1 r) (named_in s (word origin) (1 ∷ []) 1 r (λ n. refl) h (omega arith, tt)))
    (if_both P (is "u" b) _ _ (dummy_in s (number_named word (integers 1 1 r)) (number_named_in s word 1 r (integers 1 1 r) (λ m n. refl) h (integers_in 1 1 r)))
    (if_both P (is "H" b) _ _ (one (to across) (λ n. refl))
    (if_both P (is "h" b) _ _ (one (by across) (λ n. refl))
    (if_both P (is "V" b) _ _ (one (to down) (λ n. refl))
    (if_both P (is "v" b) _ _ (one (by down) (λ n. refl))
    (if_both P (is "p" b) _ _ (one page (λ n. refl))
    (if_both P (is "f" b) _ _ (one font (λ n. refl))
    (if_both P (is "s" b) _ _ (one size (λ n. refl))
    (if_both P (is "m" b) _ _ (coloured_in s colour (1 + spacer r) (unspaced r) (λ c ns. refl) g)
    (if_both P (is "n" b) _ _ (ignoring_in s (just break) [] [] 0 1 r (integers 2 1 r) (nameless s break [] 1 r refl h tt) (integers_in 2 1 r))
    (if_both P (is "w" b) _ _ (nameless s space [] 1 r refl h tt)
    (if_both P (is "D" b) _ _ (closed_in s (drawing (1 + spacer r) (unspaced r)) (drawing_in s (1 + spacer r) (unspaced r) g))
    (if_both P (is "x" b) _ _ (word_in s (1 + spacer r) (unspaced r) g)
    (if_both P (is_digit b) _ _ (digit_in s b (1 + spacer r) (unspaced r) g) tt)))))))))))))))))

-- a command's name stands in it, and it takes at least one byte and no more than there are
pub record GotIn (s : List ℕ) (c : Cmd) (a l : ℕ) : Type 0 where
  pub some : 1 ≤ l
  pub most : l ≤ length s
  pub name : a + length (name_in c) ≤ l
  pub stands : Stands (name_in c) a s

-- the place of a refusal is within the bytes
abbrev pub Within : List ℕ → Scan → Type 0
Within s (bad n k) = k ≤ length s
Within s (got c a l) = GotIn s c a l

abbrev UpTo : ℕ → Option ℕ → Type 0
UpTo l none = Unit {0}
UpTo l (some k) = k ≤ l

outside_in : (l : ℕ) (bs : List Bool) (ks : List ℕ) → Places l ks → UpTo l (outside bs ks)
outside_in l [] ks h = tt
outside_in l (true ∷ bs) [] h = outside_in l bs [] tt
outside_in l (true ∷ bs) (k ∷ ks) h = outside_in l bs ks h.1
outside_in l (false ∷ bs) [] h = omega arith
outside_in l (false ∷ bs) (k ∷ ks) h = h.0

judged_in : (s : List ℕ) (x : Draft) → DraftIn s x → Within s (judged x)
judged_in s (fault n) h = omega arith
judged_in s (draft c ds ks a l t) h = go (outside (cmd_limits c ++ map is_small ds) ks) (outside_in l (cmd_limits c ++ map is_small ds) ks h.places)
  where
    go : (o : Option ℕ) → UpTo l o → Within s (judged_by c a l o)
    go none g = cleared_both (Within s) c a l (record { some = h.end.some; most = h.end.most; name = h.name; stands = h.stands }) (omega arith)
    go (some k) g = omega (arith, h.end.most)

pub command_in : (b : ℕ) (r : List ℕ) → Within (b ∷ r) (command b r)
command_in b r = judged_in (b ∷ r) (letter b r) (letter_in b r)

pub command-within : (b : ℕ) (r : List ℕ) (c : Cmd) (a l : ℕ) → command b r ≡ got c a l → (1 ≤ l) × (l ≤ suc (length r)) × (a ≤ l)
command-within b r c a l e = let h : GotIn (b ∷ r) c a l = rw e at (command_in b r) in (h.some, h.most, omega (arith, h.name))

-- a refusal points at the command's first byte, unless it is 6
abbrev Pointing : Scan → Type 0
Pointing (bad n k) = (n ≡ 6 → ⊥) → k ≡ 0
Pointing (got c a l) = Unit {0}

judged-points : (x : Draft) → Pointing (judged x)
judged-points (fault n) = λ h. refl
judged-points (draft c ds ks a l t) = go (outside (cmd_limits c ++ map is_small ds) ks)
  where
    go : (o : Option ℕ) → Pointing (judged_by c a l o)
    go none = cleared_both Pointing c a l tt (λ h. refl)
    go (some k) = λ h. absurd (h refl)

pub bad_place : (b : ℕ) (r : List ℕ) (n k : ℕ) → command b r ≡ bad n k → (n ≡ 6 → ⊥) → k ≡ 0
bad_place b r n k e = let h : Pointing (bad n k) = rw e at (judged-points (letter b r)) in h
