-- A line break stands behind every `D` and `x` but `x X`.
use Prim.Native.Nat.{ℕ, zero, suc, ◌+◌, ◌-◌, ◌≤◌}
use native.Mathlib.Omega.{arith}
use mathlib.Core.Bool.{Bool, true, false, ◌||◌}
use mathlib.Core.List.{List, [], ◌∷◌, ◌++◌, map}
use mathlib.Core.Logic.{◌⊎◌, inl, inr}
use mathlib.Core.Option.{Option, none, some}
use mathlib.Core.Path.{◌≡◌, refl, sym, ap, subst, ◌∙◌}
use lib.Dec.{eqb}
use lib.ListN.{length, take, drop}
use borrow.Author.Tests.{eqb-true, ne_eqb}
use lib.Seq.{drop-append_seam}
use Rattle.rules.specs.Bytes.{is, is_space, is_white, is_not_white, is_digit, spacer, unspaced, string, Num, origin, moved, Nums, short, nums, integers, perhaps_integer}
use Rattle.rules.specs.Act.{across, down, Scheme, height, slant, pause, trailer, underline, Act, glyph, index, to, by, page, font, size, colour, break, device, init, file, mount, raw, stop, Cmd, just, word, pair}
use Rattle.rules.specs.Letters.{Draft, fault, draft, with_one, with_all, ignoring, one_byte, named, number_named, followed_by_white, with_dummy, second_digit, scheme_of, components, in_scheme, coloured}
use Rattle.rules.specs.Drawing.{line_ends, closed, drawing}
use Rattle.rules.specs.Controls.{alone, resolution_of, plainly, raw_text, control, control_word}
use Rattle.rules.specs.Scan.{letter, cmd_limits, is_small, outside, judged_by, judged, command, Scan, got, bad}
use Rattle.laws.proofs.Cases.{on, no, if_both, if_on, All, Stops, span_all}
use Rattle.laws.proofs.Clear.{cleared-got}
use Rattle.laws_scan.specs.Texts.{Spacer, NoWhite, WhiteOrEnd, LineEnds, at_end, at_newline, at_comment, behind-space, behind_tab, ends_its_line, LineBreaks}
use Rattle.laws_scan.proofs.Bounds.{DraftIn, letter_in}

pub or_of : (P : Type 0) (x y : Bool) → (x || y) ≡ true → (x ≡ true → P) → (y ≡ true → P) → P
or_of P true y h f g = f refl
or_of P false y h f g = g h

ends_of : (t : List ℕ) → line_ends t ≡ true → LineEnds t
unfolding line_ends
ends_of [] h = at_end
ends_of (b ∷ r) h =
    on (is_space b)
    (λ e.
    let more : LineEnds r = ends_of r (rw e at h) in
    or_of (LineEnds (b ∷ r)) (is " " b) (is "\t" b) e (λ f. rw (eqb-true b 32 f) (behind-space r more)) (λ f. rw (eqb-true b 9 f) (behind_tab r more)))
    (λ e. or_of (LineEnds (b ∷ r)) (is "\n" b) (is "#" b) (rw e at h) (λ f. rw (eqb-true b 10 f) (at_newline r)) (λ f. rw (eqb-true b 35 f) (at_comment r)))

abbrev due : Cmd → Bool
due (just a) = ends_its_line a
due (word n bs) = false
due (pair n b) = false

-- where a line break is due it was seen; it was seen; none is due
abbrev Closes : Draft → Type 0
Closes (fault n) = Unit {0}
Closes (draft c ds ks a l t) = due c ≡ true → line_ends t ≡ true

abbrev Shut : Draft → Type 0
Shut (fault n) = Unit {0}
Shut (draft c ds ks a l t) = line_ends t ≡ true

abbrev Free : Draft → Type 0
Free (fault n) = Unit {0}
Free (draft c ds ks a l t) = due c ≡ false

-- it was seen, or the command is an `x X`
abbrev Ends : Draft → Type 0
Ends (fault n) = Unit {0}
Ends (draft c ds ks a l t) = (line_ends t ≡ true) ⊎ ((x : List ℕ) × (c ≡ just (raw x)))

closed_ends : (x : Draft) → Shut (closed x)
closed_ends (fault n) = tt
closed_ends (draft c ds ks a l t) = if_on Shut (line_ends t) (draft c ds ks a l t) (fault 5) (λ e. e) (λ e. tt)

shut_closes : (x : Draft) → Shut x → Closes x
shut_closes (fault n) h = tt
shut_closes (draft c ds ks a l t) h = λ d. h

shut_ends : (x : Draft) → Shut x → Ends x
shut_ends (fault n) h = tt
shut_ends (draft c ds ks a l t) h = inl h

ends_closes : (x : Draft) → Ends x → Closes x
ends_closes (fault n) h = tt
ends_closes (draft c ds ks a l t) (inl e) = λ d. e
ends_closes (draft c ds ks a l t) (inr q) = λ d. no (sym (ap due q.1) ∙ d)

free_closes : (x : Draft) → Free x → Closes x
free_closes (fault n) h = tt
free_closes (draft c ds ks a l t) h = λ d. no (sym h ∙ d)

one_free : (f : ℕ → Act) (x : Nums) → ((n : ℕ) → ends_its_line (f n) ≡ false) → Free (with_one f x)
one_free f short h = tt
one_free f (nums [] ks l t) h = tt
one_free f (nums (n ∷ ns) ks l t) h = h (moved n)

named_free : (f : List ℕ → Cmd) (ks : List ℕ) (k : ℕ) (r : List ℕ) → ((n : List ℕ) → due (f n) ≡ false) → Free (named f ks k r)
unfolding named
named_free f ks k r h = if_both Free (eqb (string (unspaced r)) 0) (fault 4) _ tt (h (take (string (unspaced r)) (unspaced r)))

number_free : (f : ℕ → List ℕ → Cmd) (x : Nums) → ((n : ℕ) (m : List ℕ) → due (f n m) ≡ false) → Free (number_named f x)
number_free f short h = tt
number_free f (nums [] ks l t) h = tt
number_free f (nums (n ∷ ns) ks l t) h = named_free (f (moved n)) ks l t (h (moved n))

ignoring_free : (x : Draft) (y : Nums) → Free x → Free (ignoring x y)
ignoring_free (fault n) y h = tt
ignoring_free (draft c ds ks a l t) short h = tt
ignoring_free (draft c ds ks a l t) (nums ns js k s) h = h

dummy_free : (x : Draft) → Free x → Free (with_dummy x)
dummy_free (fault n) h = tt
dummy_free (draft c ds ks a l t) h = ignoring_free (draft c ds ks a l t) (followed_by_white (perhaps_integer l t)) h

byte_free : (f : ℕ → Cmd) (k : ℕ) (r : List ℕ) → ((b : ℕ) → due (f b) ≡ false) → Free (one_byte f k r)
byte_free f k [] h = tt
byte_free f k (b ∷ r) h = if_both Free (is_white b) (fault 4) _ tt (h b)

digit_free : (b k : ℕ) (r : List ℕ) → Free (second_digit b k r)
digit_free b k [] = tt
digit_free b k (c ∷ r) = if_both Free (is_digit c) _ (fault 4) (byte_free (pair _) (k + 1 + spacer r) (unspaced r) (λ x. refl)) tt

coloured_free : (k : ℕ) (r : List ℕ) → Free (coloured colour k r)
coloured_free k [] = tt
coloured_free k (b ∷ r) = go (scheme_of b)
  where
    all : (c : Scheme) (x : Nums) → Free (with_all (colour c) x)
    all c short = tt
    all c (nums ns ks l t) = refl

    go : (o : Option Scheme) → Free (in_scheme colour (k + 1) r o)
    go none = tt
    go (some c) = all c (integers (components c) (k + 1) r)

control_ends : (b k : ℕ) (r : List ℕ) → Ends (control b k r)
unfolding control
control_ends b k r =
    let seen : (x : Draft) → Ends (closed x) = λ x. shut_ends (closed x) (closed_ends x) in
    if_both Ends (is "T" b) _ _ (seen (named (λ n. just (device n)) [] k r))
    (if_both Ends (is "r" b) _ _ (seen (resolution_of (integers 3 k r)))
    (if_both Ends (is "i" b) _ _ (seen (alone init k r))
    (if_both Ends (is "F" b) _ _ (seen (named (λ n. just (file n)) [] k r))
    (if_both Ends (is "f" b) _ _ (seen (number_named (λ n m. just (mount n m)) (integers 1 k r)))
    (if_both Ends (is "H" b) _ _ (seen (plainly height k r))
    (if_both Ends (is "S" b) _ _ (seen (plainly slant k r))
    (if_both Ends (is "p" b) _ _ (seen (plainly pause k r))
    (if_both Ends (is "t" b) _ _ (seen (plainly trailer k r))
    (if_both Ends (is "u" b) _ _ (seen (plainly underline k r))
    (if_both Ends (is "s" b) _ _ (seen (alone stop k r))
    (if_both Ends (is "X" b) _ _ (inr (raw_text (unspaced r), refl)) tt)))))))))))

word_ends : (k : ℕ) (r : List ℕ) → Ends (control_word k r)
word_ends k [] = tt
word_ends k (b ∷ r) = if_both Ends (is_white b) (fault 3) _ tt (control_ends b (k + 1 + string r) (drop (string r) r))

letter_closes : (b : ℕ) (r : List ℕ) → Closes (letter b r)
unfolding letter
letter_closes b r =
    let one : (f : ℕ → Act) → ((n : ℕ) → ends_its_line (f n) ≡ false) → Closes (with_one f (integers 1 1 r)) = λ f h. free_closes (with_one f (integers 1 1 r)) (one_free f (integers 1 1 r) h) in
    if_both Closes (is "c" b) _ _ (free_closes (one_byte (λ x. just (glyph (x ∷ []))) (1 + spacer r) (unspaced r)) (byte_free (λ x. just (glyph (x ∷ []))) (1 + spacer r) (unspaced r) (λ x. refl)))
    (if_both Closes (is "C" b) _ _ (free_closes (named (λ n. just (glyph n)) [] 1 r) (named_free (λ n. just (glyph n)) [] 1 r (λ n. refl)))
    (if_both Closes (is "N" b) _ _ (one index (λ n. refl))
    (if_both Closes (is "t" b) _ _ (free_closes (with_dummy (named (word origin) (1 ∷ []) 1 r)) (dummy_free (named (word origin) (1 ∷ []) 1 r) (named_free (word origin) (1 ∷ []) 1 r (λ n. refl))))
    (if_both Closes (is "u" b) _ _ (free_closes (with_dummy (number_named word (integers 1 1 r))) (dummy_free (number_named word (integers 1 1 r)) (number_free word (integers 1 1 r) (λ n m. refl))))
    (if_both Closes (is "H" b) _ _ (one (to across) (λ n. refl))
    (if_both Closes (is "h" b) _ _ (one (by across) (λ n. refl))
    (if_both Closes (is "V" b) _ _ (one (to down) (λ n. refl))
    (if_both Closes (is "v" b) _ _ (one (by down) (λ n. refl))
    (if_both Closes (is "p" b) _ _ (one page (λ n. refl))
    (if_both Closes (is "f" b) _ _ (one font (λ n. refl))
    (if_both Closes (is "s" b) _ _ (one size (λ n. refl))
    (if_both Closes (is "m" b) _ _ (free_closes (coloured colour (1 + spacer r) (unspaced r)) (coloured_free (1 + spacer r) (unspaced r)))
    (if_both Closes (is "n" b) _ _ (free_closes (ignoring (draft (just break) [] [] 0 1 r) (integers 2 1 r)) (ignoring_free (draft (just break) [] [] 0 1 r) (integers 2 1 r) refl))
    (if_both Closes (is "w" b) _ _ (λ d. no d)
    (if_both Closes (is "D" b) _ _ (shut_closes (closed (drawing (1 + spacer r) (unspaced r))) (closed_ends (drawing (1 + spacer r) (unspaced r))))
    (if_both Closes (is "x" b) _ _ (ends_closes (control_word (1 + spacer r) (unspaced r)) (word_ends (1 + spacer r) (unspaced r)))
    (if_both Closes (is_digit b) _ _ (free_closes (second_digit b (1 + spacer r) (unspaced r)) (digit_free b (1 + spacer r) (unspaced r))) tt)))))))))))))))))

-- what was got

abbrev pub is_got : Scan → Bool
is_got (got c a l) = true
is_got (bad n k) = false

abbrev pub cmd_in : Cmd → Scan → Cmd
cmd_in d (got c a l) = c
cmd_in d (bad n k) = d

abbrev pub length_in : Scan → ℕ
length_in (got c a l) = l
length_in (bad n k) = 0

behind-first : (b : ℕ) (r : List ℕ) (l : ℕ) → 1 ≤ l → drop l (b ∷ r) ≡ drop (l - 1) r
behind-first b r zero h = absurd (omega arith)
behind-first b r (suc l) h = let e : l ≡ suc l - 1 = omega arith in ap (λ (n : ℕ). drop n r) e

-- what was put together, of what was got
record Drafted (b : ℕ) (r : List ℕ) (P : Draft → Type 0) (c : Cmd) (len : ℕ) : Type 0 where
  ignored : List Num
  places : List ℕ
  name : ℕ
  long : ℕ
  rest : List ℕ
  here : rest ≡ drop (len - 1) r
  holds : P (draft c ignored places name long rest)

drafted : (b : ℕ) (r : List ℕ) (P : Draft → Type 0) (x : Draft) (c : Cmd) (name len : ℕ) → DraftIn (b ∷ r) x → P x → judged x ≡ got c name len → Drafted b r P c len
drafted b r P (fault n) c name len h p e = no (ap is_got e)
drafted b r P (draft d ds ks i l t) c name len h p e = go (outside (cmd_limits d ++ map is_small ds) ks) e
  where
    go : (o : Option ℕ) → judged_by d i l o ≡ got c name len → Drafted b r P c len
    go (some k) f = no (ap is_got f)
    go none f =
        let e : got d i l ≡ got c name len = (cleared-got d i l c name len f).1 in
        record {
          ignored = ds;
          places = ks;
          name = i;
          long = l;
          rest = t;
          here = h.end.rest ∙ behind-first b r l h.end.some ∙ ap (λ (x : Scan). drop (length_in x - 1) r) e;
          holds = subst (λ (q : Cmd). P (draft q ds ks i l t)) (ap (cmd_in d) e) p;
        }

-- ---- none, though it is due

not-ended : (t : List ℕ) → (LineEnds t → ⊥) → line_ends t ≡ false
not-ended t h = on (line_ends t) (λ e. absurd (h (ends_of t e))) (λ e. e)

missing-drawing : (r : List ℕ) (c : Cmd) (ds : List Num) (ks : List ℕ) (i l : ℕ) (t : List ℕ) → drawing (1 + spacer r) (unspaced r) ≡ draft c ds ks i l t → (LineEnds t → ⊥) → command 68 r ≡ bad 5 0
unfolding letter
missing-drawing r c ds ks i l t e h = rw (e, not-ended t h)

pub are_spaces : (s : List ℕ) → Spacer s → All is_space s
are_spaces [] h = tt
are_spaces (b ∷ s) h = (one h.0, are_spaces s h.1)
  where
    one : (b ≡ 32) ⊎ (b ≡ 9) → is_space b ≡ true
    one (inl e) = rw e
    one (inr e) = rw e

pub are_not-white : (w : List ℕ) → NoWhite w → All is_not_white w
are_not-white [] h = tt
are_not-white (b ∷ w) h = (rw (ne_eqb b 32 h.0, ne_eqb b 9 h.1, ne_eqb b 10 h.2), are_not-white w h.3)

pub white_stops : (t : List ℕ) → WhiteOrEnd t → Stops is_not_white t
white_stops [] h = tt
white_stops (b ∷ t) (inl e) = rw e
white_stops (b ∷ t) (inr (inl e)) = rw e
white_stops (b ∷ t) (inr (inr e)) = rw e

abbrev Bare : ℕ → Type 0
Bare b = (b ≡ 105) ⊎ ((b ≡ 112) ⊎ ((b ≡ 115) ⊎ (b ≡ 116)))

bare-seen : (b : ℕ) → Bare b → (is_space b ≡ false) × (is_white b ≡ false)
bare-seen b (inl e) = (rw e, rw e)
bare-seen b (inr (inl e)) = (rw e, rw e)
bare-seen b (inr (inr (inl e))) = (rw e, rw e)
bare-seen b (inr (inr (inr e))) = (rw e, rw e)

bare-closed : (b k : ℕ) (t : List ℕ) → Bare b → line_ends t ≡ false → control b k t ≡ fault 5
unfolding control integers
bare-closed b k t (inl e) h = rw (e, h)
bare-closed b k t (inr (inl e)) h = rw (e, h)
bare-closed b k t (inr (inr (inl e))) h = rw (e, h)
bare-closed b k t (inr (inr (inr e))) h = rw (e, h)

missing-control : (s : List ℕ) (b : ℕ) (w t : List ℕ) → Spacer s → Bare b → NoWhite w → WhiteOrEnd t → (LineEnds t → ⊥) → command 120 (s ++ (b ∷ (w ++ t))) ≡ bad 5 0
unfolding letter
missing-control s b w t h g n m e =
    let far : spacer (s ++ (b ∷ (w ++ t))) ≡ length s = span_all is_space s (b ∷ (w ++ t)) (are_spaces s h) (bare-seen b g).0 in
    let long : string (w ++ t) ≡ length w = span_all is_not_white w t (are_not-white w n) (white_stops t m) in
    rw (far, drop-append_seam s (b ∷ (w ++ t)), (bare-seen b g).1, long, drop-append_seam w t, bare-closed b (1 + length s + 1 + length w) t g (not-ended t e))

pub line_breaks : LineBreaks
unfolding letter
line_breaks = record {
  behind_D = λ r c name len e.
      let y : Drafted 68 r Shut c len = drafted 68 r Shut (letter 68 r) c name len (letter_in 68 r) (closed_ends (drawing (1 + spacer r) (unspaced r))) e in
      subst LineEnds y.here (ends_of y.rest y.holds);
  behind_x = λ r c name len e. by_x r c len (drafted 120 r Ends (letter 120 r) c name len (letter_in 120 r) (word_ends (1 + spacer r) (unspaced r)) e);
  behind = λ b r a name len e d.
      let y : Drafted b r Closes (just a) len = drafted b r Closes (letter b r) (just a) name len (letter_in b r) (letter_closes b r) e in
      subst LineEnds y.here (ends_of y.rest (y.holds d));
  missing_D = missing-drawing;
  missing_x = missing-control;
}
  where
    by_x : (r : List ℕ) (c : Cmd) (len : ℕ) → Drafted 120 r Ends c len → LineEnds (drop (len - 1) r) ⊎ ((t : List ℕ) × (c ≡ just (raw t)))
    by_x r c len y = go y.holds
      where
        go : (line_ends y.rest ≡ true) ⊎ ((t : List ℕ) × (c ≡ just (raw t))) → LineEnds (drop (len - 1) r) ⊎ ((t : List ℕ) × (c ≡ just (raw t)))
        go (inl h) = inl (subst LineEnds y.here (ends_of y.rest h))
        go (inr h) = inr h
