-- Numbers that are ignored are within the limit of all numbers.
use Prim.Native.Nat.{ℕ, zero, suc, ◌+◌, ◌-◌, ◌≤◌}
use native.Mathlib.Omega.{arith}
use mathlib.Core.Bool.{Bool, true, false}
use mathlib.Core.List.{List, [], ◌∷◌, ◌++◌, map, append_assoc}
use mathlib.Core.Logic.{◌⊎◌, inl, inr}
use mathlib.Core.Option.{Option, none, some}
use mathlib.Core.Path.{◌≡◌, refl, sym, ap, ap₂, subst, ◌∙◌}
use lib.Dec.{eqb}
use lib.ListN.{length, take, drop, take-append-drop, length-append, length-take}
use borrow.Author.Tests.{leb-true, le-leb, eqb-true}
use lib.Seq.{take-append_seam, drop-append_seam}
use Rattle.rules.specs.Bytes.{is, is_space, is_not_white, spacer, unspaced, string, Num, Int, no_int, int, integer, most, origin, moved, near, Nums, short, nums, with_num, after_int, integers, is_present, perhaps_integer}
use Rattle.rules.specs.Act.{Shape, circle, solid_circle, break, draw, Cmd, just, word}
use Rattle.rules.specs.Letters.{Draft, fault, draft, with_all, ignoring, named, number_named, white_next, followed_by_white, with_dummy}
use Rattle.rules.specs.Drawing.{line_ends, closed, dummy_behind, drawing}
use Rattle.rules.specs.Scan.{letter, cmd_limits, is_small, outside, judged_by, judged, got, command}
use Rattle.laws.proofs.Cases.{on, no, if_both, and_left, and_right, All, span_all, all_span, length-span}
use Rattle.laws.proofs.Clear.{cleared-got}
use Rattle.laws.proofs.Good.{all_true}
use Rattle.laws.proofs.Limits.{near_bounds}
use Rattle.laws_scan.specs.Texts.{Written, Spacer, Integers, no_more, one_more, Dummy, WhiteOrEnd, IgnoredInLimit}
use Rattle.laws_scan.proofs.Fair.{NumsAre, counted, none_outside, all_true_left}
use Rattle.laws_scan.proofs.Written.{AsRead, integer-read}
use Rattle.laws_scan.proofs.LineBreaks.{or_of, are_spaces, is_got, cmd_in, length_in}

-- ---- the text of integers, limits aside

pub spacer_of : (s : List ℕ) → All is_space s → Spacer s
spacer_of [] h = tt
spacer_of (b ∷ s) h = (or_of ((b ≡ 32) ⊎ (b ≡ 9)) (is " " b) (is "\t" b) h.0 (λ e. inl (eqb-true b 32 e)) (λ e. inr (eqb-true b 9 e)), spacer_of s h.1)

abbrev Says : List Num → List ℕ → Type 0
Says [] w = w ≡ []
Says (n ∷ ns) w = (s : List ℕ) × (v : List ℕ) × (u : List ℕ) × (w ≡ s ++ (v ++ u)) × Spacer s × Written n.neg n.mag v × Says ns u

-- r is these integers and then t; it stands k bytes behind a command's first, and t stands l behind it
record Stretch (ns : List Num) (k : ℕ) (r : List ℕ) (l : ℕ) (t : List ℕ) : Type 0 where
  text : List ℕ
  whole : r ≡ text ++ t
  long : l ≡ k + length text
  says : Says ns text

abbrev NumsAt : ℕ → List ℕ → Nums → Type 0
NumsAt k r short = Unit {0}
NumsAt k r (nums ns ks l t) = Stretch ns k r l t

nothing : (k : ℕ) (r : List ℕ) → Stretch [] k r k r
nothing k r = record { text = []; whole = refl; long = omega arith; says = refl }

after_at : (k : ℕ) (r : List ℕ) (go : ℕ → List ℕ → Nums) → ((j : ℕ) (t : List ℕ) → NumsAt j t (go j t)) → NumsAt k r (after_int (k + spacer r) (unspaced r) go (integer (unspaced r)))
after_at k r go f = at_int (integer (unspaced r)) (integer-read (unspaced r))
  where
    one : (n : Num) (l : ℕ) (x : Nums) → AsRead (unspaced r) (int n l) → NumsAt (k + spacer r + l) (drop l (unspaced r)) x → NumsAt k r (with_num n (k + spacer r) x)
    one n l short h p = tt
    one n l (nums ns ks m t) h p =
        let s : List ℕ = take (spacer r) r in
        let u : List ℕ = unspaced r in
        let v : List ℕ = take l u in
        let a : length (s ++ (v ++ p.text)) ≡ length s + length (v ++ p.text) = length-append s (v ++ p.text) in
        let b : length (v ++ p.text) ≡ length v + length p.text = length-append v p.text in
        record {
          text = s ++ (v ++ p.text);
          whole = sym (take-append-drop (spacer r) r)
              ∙ ap (λ (y : List ℕ). s ++ y) (sym (take-append-drop l u) ∙ ap (λ (y : List ℕ). v ++ y) p.whole ∙ sym (append_assoc v p.text t))
              ∙ sym (append_assoc s (v ++ p.text) t);
          long = omega (arith, a, b, p.long, length-span is_space r, length-take l u, h.0);
          says = (s, v, p.text, refl, spacer_of s (all_span is_space r), h.1, p.says);
        }

    at_int : (x : Int) → AsRead (unspaced r) x → NumsAt k r (after_int (k + spacer r) (unspaced r) go x)
    at_int no_int h = tt
    at_int (int n l) h = one n l (go (k + spacer r + l) (drop l (unspaced r))) h (f (k + spacer r + l) (drop l (unspaced r)))

integers_at : (n k : ℕ) (r : List ℕ) → NumsAt k r (integers n k r)
unfolding integers
integers_at zero k r = nothing k r
integers_at (suc n) k r = after_at k r (λ j t. integers n j t) (λ j t. integers_at n j t)

perhaps_at : (k : ℕ) (r : List ℕ) → NumsAt k r (perhaps_integer k r) × NumsAre (λ ns. length ns ≤ 1) (perhaps_integer k r)
unfolding perhaps_integer
perhaps_at k r =
    if_both (λ (x : Nums). NumsAt k r x × NumsAre (λ ns. length ns ≤ 1) x) (is_present (unspaced r)) (integers 1 k r) (nums [] [] k r)
    (integers_at 1 k r, few (integers 1 k r) (counted 1 k r)) (nothing k r, omega arith)
  where
    few : (x : Nums) → NumsAre (λ ns. length ns ≡ 1) x → NumsAre (λ ns. length ns ≤ 1) x
    few short h = tt
    few (nums ns ks l t) h = omega (arith, h)

-- ---- within the limit

small : (ns : List Num) (w : List ℕ) → Says ns w → all_true (map is_small ns) ≡ true → Integers (length ns) w
small [] w h g = subst (Integers 0) (sym h) no_more
small (n ∷ ns) w h g =
    subst (Integers (suc (length ns))) (sym h.3)
    (one_more (length ns) n.neg n.mag h.0 h.1 h.2 h.4 h.5 (leb-true n.mag most (and_left (is_small n) (all_true (map is_small ns)) g))
    (small ns h.2 h.6 (and_right (is_small n) (all_true (map is_small ns)) g)))

dummy : (ns : List Num) (w : List ℕ) → length ns ≤ 1 → Says ns w → all_true (map is_small ns) ≡ true → Dummy w
dummy [] w k h g = inl (small [] w h g)
dummy (n ∷ []) w k h g = inr (small (n ∷ []) w h g)
dummy (n ∷ m ∷ ns) w k h g = absurd (omega (arith, k))

near-small : (n : Num) → near (moved n) ≡ true → is_small n ≡ true
near-small n h = le-leb n.mag most (go n.neg n.mag h)
  where
    go : (b : Bool) (m : ℕ) → near (moved (record { neg = b; mag = m })) ≡ true → m ≤ most
    go true m e = omega (arith, near_bounds (moved (record { neg = true; mag = m })) e)
    go false m e = omega (arith, near_bounds (moved (record { neg = false; mag = m })) e)

-- ---- what was got

record Judged (c : Cmd) (ds : List Num) (l : ℕ) (x : Cmd) (len : ℕ) : Type 0 where
  same : c ≡ x
  long : l ≡ len
  args : all_true (cmd_limits c) ≡ true
  dummies : all_true (map is_small ds) ≡ true

all_true_right : (xs ys : List Bool) → all_true (xs ++ ys) ≡ true → all_true ys ≡ true
all_true_right [] ys h = h
all_true_right (x ∷ xs) ys h = all_true_right xs ys (and_right x (all_true (xs ++ ys)) h)

judged-got : (c : Cmd) (ds : List Num) (ks : List ℕ) (i l : ℕ) (t : List ℕ) (x : Cmd) (name len : ℕ) → judged (draft c ds ks i l t) ≡ got x name len → Judged c ds l x len
judged-got c ds ks i l t x name len = go (outside (cmd_limits c ++ map is_small ds) ks) refl
  where
    go : (o : Option ℕ) → outside (cmd_limits c ++ map is_small ds) ks ≡ o → judged_by c i l o ≡ got x name len → Judged c ds l x len
    go (some k) f e = no (ap is_got e)
    go none f e =
        let all : all_true (cmd_limits c ++ map is_small ds) ≡ true = none_outside (cmd_limits c ++ map is_small ds) ks f in
        let g : got c i l ≡ got x name len = (cleared-got c i l x name len e).1 in
        record {
          same = ap (cmd_in c) g;
          long = ap length_in g;
          args = all_true_left (cmd_limits c) (map is_small ds) all;
          dummies = all_true_right (cmd_limits c) (map is_small ds) all;
        }

closed-got : (x : Draft) (c : Cmd) (name len : ℕ) → judged (closed x) ≡ got c name len → judged x ≡ got c name len
closed-got (fault n) c name len e = e
closed-got (draft d ds ks i l t) c name len e = on (line_ends t) (λ h. rw h at e) (λ h. no (ap is_got (rw h at e)))

-- the bytes of a command behind its first, and what is behind it
module _ (r text t : List ℕ) (len : ℕ) (whole : r ≡ text ++ t) (long : len ≡ 1 + length text) where
  back : len - 1 ≡ length text
  back = omega (arith, long)

  text_is : take (len - 1) r ≡ text
  text_is = ap₂ (λ (n : ℕ) (y : List ℕ). take n y) back whole ∙ take-append_seam text t

  rest_is : drop (len - 1) r ≡ t
  rest_is = ap₂ (λ (n : ℕ) (y : List ℕ). drop n y) back whole ∙ drop-append_seam text t

-- ---- `n`

break-small : (r : List ℕ) (c : Cmd) (name len : ℕ) → command 110 r ≡ got c name len → Integers 2 (take (len - 1) r)
unfolding letter
break-small r c name len e = go (integers 2 1 r) (integers_at 2 1 r) (counted 2 1 r) e
  where
    go : (x : Nums) → NumsAt 1 r x → NumsAre (λ ns. length ns ≡ 2) x → judged (ignoring (draft (just break) [] [] 0 1 r) x) ≡ got c name len → Integers 2 (take (len - 1) r)
    go short h n f = no (ap is_got f)
    go (nums ns js l t) h n f =
        let j : Judged (just break) ns l c len = judged-got (just break) ns js 0 l t c name len f in
        subst (Integers 2) (sym (text_is r h.text t len h.whole (sym j.long ∙ h.long)))
        (subst (λ (k : ℕ). Integers k h.text) n (small ns h.text h.says j.dummies))

-- ---- words

joined : (s v x t u r : List ℕ) → r ≡ s ++ u → u ≡ v ++ (x ++ t) → r ≡ (s ++ (v ++ x)) ++ t
joined s v x t u r a b = a ∙ ap (λ (y : List ℕ). s ++ y) (b ∙ sym (append_assoc v x t)) ∙ sym (append_assoc s (v ++ x) t)

long_joined : (s v x : List ℕ) → length (s ++ (v ++ x)) ≡ length s + (length v + length x)
long_joined s v x = length-append s (v ++ x) ∙ ap (λ (n : ℕ). length s + n) (length-append v x)

white_of : (t : List ℕ) → white_next t ≡ true → WhiteOrEnd t
white_of [] h = tt
white_of (b ∷ t) h =
    or_of (WhiteOrEnd (b ∷ t)) (is_space b) (is "\n" b) h
    (λ e. or_of (WhiteOrEnd (b ∷ t)) (is " " b) (is "\t" b) e (λ f. inl (eqb-true b 32 f)) (λ f. inr (inl (eqb-true b 9 f))))
    (λ e. inr (inr (eqb-true b 10 e)))

-- a spacer, a word, perhaps a dummy, and what stands behind; r stands k bytes behind the command's first
record Worded (f : List ℕ → Cmd) (k : ℕ) (r : List ℕ) (c : Cmd) (len : ℕ) : Type 0 where
  gap : List ℕ
  bytes : List ℕ
  more : List ℕ
  rest : List ℕ
  whole : r ≡ (gap ++ (bytes ++ more)) ++ rest
  long : len ≡ k + length (gap ++ (bytes ++ more))
  same : c ≡ f bytes
  spaced : Spacer gap
  few : Dummy more
  white : WhiteOrEnd rest
  args : all_true (cmd_limits (f bytes)) ≡ true

worded : (f : List ℕ → Cmd) (ks : List ℕ) (k : ℕ) (r : List ℕ) (c : Cmd) (name len : ℕ) → judged (with_dummy (named f ks k r)) ≡ got c name len → Worded f k r c len
unfolding named
worded f ks k r c name len e =
    let u : List ℕ = unspaced r in
    let n : ℕ = string u in
    let p : NumsAt (k + spacer r + n) (drop n u) (perhaps_integer (k + spacer r + n) (drop n u)) × NumsAre (λ ns. length ns ≤ 1) (perhaps_integer (k + spacer r + n) (drop n u)) = perhaps_at (k + spacer r + n) (drop n u) in
    on (eqb n 0) (λ z. no (ap is_got (rw z at e))) (λ z. go (perhaps_integer (k + spacer r + n) (drop n u)) p.0 p.1 (rw z at e))
  where
    go : (x : Nums) → NumsAt (k + spacer r + string (unspaced r)) (drop (string (unspaced r)) (unspaced r)) x → NumsAre (λ ns. length ns ≤ 1) x
        → judged (ignoring (draft (f (take (string (unspaced r)) (unspaced r))) [] (ks ++ (k + spacer r) ∷ []) (k + spacer r) (k + spacer r + string (unspaced r)) (drop (string (unspaced r)) (unspaced r))) (followed_by_white x)) ≡ got c name len
        → Worded f k r c len
    go short h few e = no (ap is_got e)
    go (nums ns js m v) h few e =
        on (white_next v)
        (λ w.
        let s : List ℕ = take (spacer r) r in
        let u : List ℕ = unspaced r in
        let bs : List ℕ = take (string u) u in
        let j : Judged (f bs) ns m c len = judged-got (f bs) ns ((ks ++ (k + spacer r) ∷ []) ++ js) (k + spacer r) m v c name len (rw w at e) in
        record {
          gap = s;
          bytes = bs;
          more = h.text;
          rest = v;
          whole = joined s bs h.text v u r (sym (take-append-drop (spacer r) r)) (sym (take-append-drop (string u) u) ∙ ap (λ (y : List ℕ). bs ++ y) h.whole);
          long = omega (arith, j.long, h.long, long_joined s bs h.text, length-span is_space r, length-span is_not_white u);
          same = sym j.same;
          spaced = spacer_of s (all_span is_space r);
          few = dummy ns h.text few h.says j.dummies;
          white = white_of v w;
          args = j.args;
        })
        (λ w. no (ap is_got (rw w at e)))

word_small : (r : List ℕ) (c : Cmd) (name len : ℕ) → command 116 r ≡ got c name len
    → (s : List ℕ) × (bs : List ℕ) × (d : List ℕ) × (take (len - 1) r ≡ s ++ (bs ++ d)) × (c ≡ word origin bs) × Spacer s × Dummy d × WhiteOrEnd (drop (len - 1) r)
unfolding letter
word_small r c name len e =
    let y : Worded (word origin) 1 r c len = worded (word origin) (1 ∷ []) 1 r c name len e in
    let t : List ℕ = y.gap ++ (y.bytes ++ y.more) in
    (y.gap, y.bytes, y.more, text_is r t y.rest len y.whole y.long, y.same, y.spaced, y.few, subst WhiteOrEnd (sym (rest_is r t y.rest len y.whole y.long)) y.white)

spaced_word_small : (r : List ℕ) (c : Cmd) (name len : ℕ) → command 117 r ≡ got c name len
    → (i : List ℕ) × (s : List ℕ) × (bs : List ℕ) × (d : List ℕ) × (n : ℕ) × (take (len - 1) r ≡ i ++ (s ++ (bs ++ d))) × (c ≡ word n bs) × Integers 1 i × Spacer s × Dummy d × WhiteOrEnd (drop (len - 1) r)
unfolding letter
spaced_word_small r c name len e = go (integers 1 1 r) (integers_at 1 1 r) (counted 1 1 r) e
  where
    go : (x : Nums) → NumsAt 1 r x → NumsAre (λ ns. length ns ≡ 1) x → judged (with_dummy (number_named word x)) ≡ got c name len
        → (i : List ℕ) × (s : List ℕ) × (bs : List ℕ) × (d : List ℕ) × (n : ℕ) × (take (len - 1) r ≡ i ++ (s ++ (bs ++ d))) × (c ≡ word n bs) × Integers 1 i × Spacer s × Dummy d × WhiteOrEnd (drop (len - 1) r)
    go short h k e = no (ap is_got e)
    go (nums [] ks l t) h k e = no (ap is_got e)
    go (nums (n ∷ m ∷ ns) ks l t) h k e = absurd (omega (arith, k))
    go (nums (n ∷ []) ks l t) h k e =
        let y : Worded (word (moved n)) l t c len = worded (word (moved n)) ks l t c name len e in
        let i : List ℕ = h.text in
        let x : List ℕ = y.gap ++ (y.bytes ++ y.more) in
        let whole : r ≡ (i ++ x) ++ y.rest = h.whole ∙ ap (λ (z : List ℕ). i ++ z) y.whole ∙ sym (append_assoc i x y.rest) in
        let long : len ≡ 1 + length (i ++ x) = omega (arith, y.long, h.long, length-append i x) in
        let near_n : near (moved n) ≡ true = and_left (near (moved n)) true y.args in
        (i, y.gap, y.bytes, y.more, moved n, text_is r (i ++ x) y.rest len whole long, y.same, small (n ∷ []) i h.says (rw (near-small n near_n)), y.spaced, y.few, subst WhiteOrEnd (sym (rest_is r (i ++ x) y.rest len whole long)) y.white)

-- ---- `Dc`, `DC`

all_small : (ns : List Num) → all_true (map near (map moved ns)) ≡ true → all_true (map is_small ns) ≡ true
all_small [] h = refl
all_small (n ∷ ns) h =
    let more : all_true (map is_small ns) ≡ true = all_small ns (and_right (near (moved n)) (all_true (map near (map moved ns))) h) in
    rw (near-small n (and_left (near (moved n)) (all_true (map near (map moved ns))) h)) more

-- an integer, perhaps a dummy, and what stands behind
record Dummied (k : ℕ) (r : List ℕ) (len : ℕ) : Type 0 where
  argument : List ℕ
  more : List ℕ
  rest : List ℕ
  whole : r ≡ (argument ++ more) ++ rest
  long : len ≡ k + length (argument ++ more)
  one : Integers 1 argument
  few : Dummy more

module _ (x : Shape) (plainly : (ns : List ℕ) → cmd_limits (just (draw x ns)) ≡ map near ns) (k : ℕ) (r : List ℕ) (c : Cmd) (name len : ℕ) where
  dummied-small : judged (dummy_behind (with_all (draw x) (integers 1 k r))) ≡ got c name len → Dummied k r len
  dummied-small e = first (integers 1 k r) (integers_at 1 k r) (counted 1 k r) e
    where
      second : (ns : List Num) (ks : List ℕ) (l : ℕ) (t : List ℕ) → Stretch ns k r l t → length ns ≡ 1 → (y : Nums) → NumsAt l t y → NumsAre (λ ms. length ms ≤ 1) y
          → judged (ignoring (draft (just (draw x (map moved ns))) [] ks 0 l t) y) ≡ got c name len → Dummied k r len
      second ns ks l t h n short g few e = no (ap is_got e)
      second ns ks l t h n (nums ms js m v) g few e =
          let j : Judged (just (draw x (map moved ns))) ms m c len = judged-got (just (draw x (map moved ns))) ms (ks ++ js) 0 m v c name len e in
          record {
            argument = h.text;
            more = g.text;
            rest = v;
            whole = h.whole ∙ ap (λ (y : List ℕ). h.text ++ y) g.whole ∙ sym (append_assoc h.text g.text v);
            long = omega (arith, j.long, h.long, g.long, length-append h.text g.text);
            one = subst (λ (i : ℕ). Integers i h.text) n (small ns h.text h.says (all_small ns (ap all_true (sym (plainly (map moved ns))) ∙ j.args)));
            few = dummy ms g.text few g.says j.dummies;
          }

      first : (y : Nums) → NumsAt k r y → NumsAre (λ ns. length ns ≡ 1) y → judged (dummy_behind (with_all (draw x) y)) ≡ got c name len → Dummied k r len
      first short h n e = no (ap is_got e)
      first (nums ns ks l t) h n e = second ns ks l t h n (perhaps_integer l t) (perhaps_at l t).0 (perhaps_at l t).1 e

circle-small : (s : List ℕ) (x : ℕ) (r : List ℕ) (c : Cmd) (name len : ℕ) → Spacer s → (x ≡ 99) ⊎ (x ≡ 67) → command 68 (s ++ (x ∷ r)) ≡ got c name len
    → (i : List ℕ) × (d : List ℕ) × (take (len - 1) (s ++ (x ∷ r)) ≡ s ++ (x ∷ (i ++ d))) × Integers 1 i × Dummy d
unfolding letter drawing
circle-small s x r c name len h w e = shaped w (closed-got (drawing (1 + length s) (x ∷ r)) c name len (go (spacer (s ++ (x ∷ r))) far e))
  where
    no_space : (x ≡ 99) ⊎ (x ≡ 67) → is_space x ≡ false
    no_space (inl q) = rw q
    no_space (inr q) = rw q

    far : spacer (s ++ (x ∷ r)) ≡ length s
    far = span_all is_space s (x ∷ r) (are_spaces s h) (no_space w)

    go : (n : ℕ) → n ≡ length s → judged (closed (drawing (1 + n) (drop n (s ++ (x ∷ r))))) ≡ got c name len → judged (closed (drawing (1 + length s) (x ∷ r))) ≡ got c name len
    go n q f = ap₂ (λ (i : ℕ) (t : List ℕ). judged (closed (drawing (1 + i) t))) (sym q) (sym (ap (λ (i : ℕ). drop i (s ++ (x ∷ r))) q ∙ drop-append_seam s (x ∷ r))) ∙ f

    found : Dummied (1 + length s + 1) r len → (i : List ℕ) × (d : List ℕ) × (take (len - 1) (s ++ (x ∷ r)) ≡ s ++ (x ∷ (i ++ d))) × Integers 1 i × Dummy d
    found y =
        let t : List ℕ = y.argument ++ y.more in
        let whole : s ++ (x ∷ r) ≡ (s ++ (x ∷ t)) ++ y.rest = ap (λ (z : List ℕ). s ++ (x ∷ z)) y.whole ∙ sym (append_assoc s (x ∷ t) y.rest) in
        let long : len ≡ 1 + length (s ++ (x ∷ t)) = omega (arith, y.long, length-append s (x ∷ t)) in
        (y.argument, y.more, text_is (s ++ (x ∷ r)) (s ++ (x ∷ t)) y.rest len whole long, y.one, y.few)

    shaped : (x ≡ 99) ⊎ (x ≡ 67) → judged (drawing (1 + length s) (x ∷ r)) ≡ got c name len → (i : List ℕ) × (d : List ℕ) × (take (len - 1) (s ++ (x ∷ r)) ≡ s ++ (x ∷ (i ++ d))) × Integers 1 i × Dummy d
    shaped (inl q) f = found (dummied-small circle (λ ns. refl) (1 + length s + 1) r c name len (rw q at f))
    shaped (inr q) f = found (dummied-small solid_circle (λ ns. refl) (1 + length s + 1) r c name len (rw q at f))

pub ignored_in_limit : IgnoredInLimit
ignored_in_limit = record { behind_n = break-small; behind_t = word_small; behind_u = spaced_word_small; behind_Dc = circle-small }
