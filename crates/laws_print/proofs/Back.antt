-- A printed act, in front of its newline, is scanned as itself.
use Prim.Native.Nat.{ℕ, zero, suc, ◌+◌, ◌≤◌, ◌<◌}
use native.Mathlib.Omega.{arith}
use native.Mathlib.Nat.{add-zero}
use mathlib.Core.Bool.{Bool, true, false, ◌&&◌}
use mathlib.Core.List.{List, [], ◌∷◌, ◌++◌, map, append_assoc, append-nil}
use mathlib.Core.Option.{none, some}
use mathlib.Core.Path.{◌≡◌, refl, sym, ap, ap₂, ◌∙◌}
use lib.Dec.{eqb}
use lib.ListN.{length, length-append}
use lib.Seq.{drop-append_seam, take-append_seam}
use borrow.Author.Tests.{not-true, ne_eqb, eqb-true}
use Rattle.rules.specs.Bytes.{is, is_space, is_white, is_not_white, is_clear, is_digit, span, spacer, unspaced, Num, value, integer, moved, near, Nums, nums, with_num, after_int, integers, is_present, many_integers, perhaps_integer}
use Rattle.rules.specs.Act.{across, down, Scheme, cmy, default, gray, cmyk, rgb, Shape, line, arc, circle, solid_circle, ellipse, solid_ellipse, polygon, solid_polygon, spline, thickness, gray_fill, colour_fill, Plain, pause, trailer, height, slant, underline, Act, glyph, index, to, by, page, font, size, colour, break, space, draw, device, resolution, init, file, mount, plain, raw, stop, Cmd, just}
use Rattle.rules.specs.Letters.{Draft, draft, with_one, with_all, named, number_named, scheme_of, components, coloured}
use Rattle.rules.specs.Drawing.{line_ends, closed, Form, exactly, dummied, paired, form_of, is_paired, drawn, drawing}
use Rattle.rules.specs.Controls.{resolution_of, plain_count, plainly, raw_text, raw_length, rawly, control}
use Rattle.rules.specs.Scan.{letter, is_position, is_name, limits, name_of, outside, Scan, got, bad, judged, command}
use Rattle.rules.specs.Record.{scheme_letter}
use Rattle.rules.specs.House.{signed_decimal, args, plus_lines, spell_act}
use Rattle.laws.proofs.Cases.{on, no, and_left, and_right, not_or_left, Stops, span_stops, span_all}
use Rattle.laws.proofs.Good.{all_true, Name, Count, Good}
use Rattle.laws.proofs.Limits.{AllNear, component-near, position-near, positive-near, shape-near, plain-near}
use Rattle.laws_print.proofs.Decimals.{num_of, moved_num_of, signed_back, signed_present, present_stops}

-- ---- printed numbers

-- where each begins, the first of them behind a space that is k bytes behind the command's first
abbrev starts_of : ℕ → List ℕ → List ℕ
starts_of k [] = []
starts_of k (n ∷ ns) = (k + 1) ∷ starts_of (k + 1 + length (signed_decimal n)) ns

args-stop : (ns r : List ℕ) → Stops is_digit r → Stops is_digit (args ns ++ r)
args-stop [] r k = k
args-stop (n ∷ ns) r k = refl

-- one integer behind a space, whatever reads those that follow
after_space : (n k : ℕ) (r : List ℕ) (go : ℕ → List ℕ → Nums) → near n ≡ true → Stops is_digit r
    → after_int (k + spacer (32 ∷ (signed_decimal n ++ r))) (unspaced (32 ∷ (signed_decimal n ++ r))) go (integer (unspaced (32 ∷ (signed_decimal n ++ r))))
    ≡ with_num (num_of n) (k + 1) (go (k + 1 + length (signed_decimal n)) r)
unfolding span
after_space n k r go h s =
    rw (
      span_stops is_space (signed_decimal n ++ r) (present_stops (signed_decimal n ++ r) (signed_present n r h)),
      signed_back n h r s,
      drop-append_seam (signed_decimal n) r,
    )

integers-args : (ns r : List ℕ) (k : ℕ) → AllNear ns → Stops is_digit r
    → integers (length ns) k (args ns ++ r) ≡ nums (map num_of ns) (starts_of k ns) (k + length (args ns)) r
unfolding integers
integers-args [] r k h s = rw add-zero
integers-args (n ∷ ns) r k h s =
    rw (
      append_assoc (signed_decimal n) (args ns) r,
      after_space n k (args ns ++ r) (λ j t. integers (length ns) j t) (and_left (near n) (all_true (map near ns)) h) (args-stop ns r s),
      integers-args ns r (k + 1 + length (signed_decimal n)) (and_right (near n) (all_true (map near ns)) h) s,
    )
    (ap (λ (l : ℕ). nums (map num_of (n ∷ ns)) (starts_of k (n ∷ ns)) l r) (simp length-append (omega arith)))

present_behind : (n : ℕ) (r : List ℕ) → near n ≡ true → is_present (unspaced (32 ∷ (signed_decimal n ++ r))) ≡ true
unfolding span
present_behind n r h = rw (span_stops is_space (signed_decimal n ++ r) (present_stops (signed_decimal n ++ r) (signed_present n r h)), signed_present n r h)

many_args : (ns r : List ℕ) (f k : ℕ) → AllNear ns → length ns ≤ f
    → many_integers f k (args ns ++ 10 ∷ r) ≡ nums (map num_of ns) (starts_of k ns) (k + length (args ns)) (10 ∷ r)
unfolding many_integers span
many_args [] r zero k h l = rw add-zero
many_args [] r (suc f) k h l = ap (λ (j : ℕ). nums [] [] j (10 ∷ r)) (sym (add-zero k))
many_args (n ∷ ns) r zero k h l = absurd (omega arith)
many_args (n ∷ ns) r (suc f) k h l =
    rw (
      append_assoc (signed_decimal n) (args ns) (10 ∷ r),
      present_behind n (args ns ++ 10 ∷ r) (and_left (near n) (all_true (map near ns)) h),
      after_space n k (args ns ++ 10 ∷ r) (λ j t. many_integers f j t) (and_left (near n) (all_true (map near ns)) h) (args-stop ns (10 ∷ r) refl),
      many_args ns r f (k + 1 + length (signed_decimal n)) (and_right (near n) (all_true (map near ns)) h) (omega arith),
    )
    (ap (λ (j : ℕ). nums (map num_of (n ∷ ns)) (starts_of k (n ∷ ns)) j (10 ∷ r)) (simp length-append (omega arith)))

args-length : (ns r : List ℕ) → length ns ≤ length (args ns ++ r)
args-length [] r = omega arith
args-length (n ∷ ns) r = rw (append_assoc (signed_decimal n) (args ns) r) (omega (arith, length-append (signed_decimal n) (args ns ++ r), args-length ns r))

moved_all : (ns : List ℕ) → map moved (map num_of ns) ≡ ns
moved_all [] = refl
moved_all (n ∷ ns) = ap₂ (λ (x : ℕ) (l : List ℕ). x ∷ l) (moved_num_of n) (moved_all ns)

paired-map : (f : ℕ → Num) (ns : List ℕ) → is_paired (map f ns) ≡ is_paired ns
paired-map f [] = refl
paired-map f (x ∷ []) = refl
paired-map f (x ∷ y ∷ []) = refl
paired-map f (x ∷ y ∷ z ∷ r) = paired-map f (z ∷ r)

-- ---- the arguments of a command

scheme_letter_lem : (c : Scheme) → (is_space (scheme_letter c) ≡ false) × (scheme_of (scheme_letter c) ≡ some c)
scheme_letter_lem cmy = (refl, refl)
scheme_letter_lem default = (refl, refl)
scheme_letter_lem gray = (refl, refl)
scheme_letter_lem cmyk = (refl, refl)
scheme_letter_lem rgb = (refl, refl)

name_begins : (n t : List ℕ) → Name n → Stops is_space (n ++ t)
name_begins [] t h = absurd (let p : 0 < 0 = h.some in omega arith)
name_begins (b ∷ n) t h = not_or_left (is_space b) (eqb b 10) h.whole.0

module _ (r : List ℕ) where
  one_back : (f : ℕ → Act) (n : ℕ) → AllNear (n ∷ [])
      → with_one f (integers 1 1 (args (n ∷ []) ++ 10 ∷ r)) ≡ draft (just (f n)) [] (starts_of 1 (n ∷ [])) 0 (1 + length (args (n ∷ []))) (10 ∷ r)
  one_back f n h = rw (integers-args (n ∷ []) (10 ∷ r) 1 h refl, moved_num_of n)

  all_back : (f : List ℕ → Act) (c k : ℕ) (ns : List ℕ) → length ns ≡ c → AllNear ns
      → with_all f (integers c k (args ns ++ 10 ∷ r)) ≡ draft (just (f ns)) [] (starts_of k ns) 0 (k + length (args ns)) (10 ∷ r)
  all_back f c k ns g h = rw (← g, integers-args ns (10 ∷ r) k h refl, moved_all ns)

  resolution_back : (n h v : ℕ) → AllNear (n ∷ h ∷ v ∷ [])
      → resolution_of (integers 3 3 (args (n ∷ h ∷ v ∷ []) ++ 10 ∷ r))
      ≡ draft (just (resolution n h v)) [] (starts_of 3 (n ∷ h ∷ v ∷ [])) 0 (3 + length (args (n ∷ h ∷ v ∷ []))) (10 ∷ r)
  resolution_back n h v g = rw (integers-args (n ∷ h ∷ v ∷ []) (10 ∷ r) 3 g refl, moved_num_of n, moved_num_of h, moved_num_of v)

  drawn_back : (s : Shape) (f : Form) (k : ℕ) (ns : List ℕ) → Count f ns → AllNear ns
      → drawn s k (args ns ++ 10 ∷ r) f ≡ draft (just (draw s ns)) [] (starts_of k ns) 0 (k + length (args ns)) (10 ∷ r)
  unfolding perhaps_integer span
  drawn_back s (exactly c) k ns g h = all_back (draw s) c k ns g h
  drawn_back s dummied k ns g h = rw (all_back (draw s) 1 k ns g h, append-nil (starts_of k ns))
  drawn_back s paired k ns g h =
      rw (many_args ns r (length (args ns ++ 10 ∷ r)) k h (args-length ns (10 ∷ r)), paired-map num_of ns, g, moved_all ns)

  coloured_back : (f : Scheme → List ℕ → Act) (c : Scheme) (k : ℕ) (ns : List ℕ) → length ns ≡ components c → AllNear ns
      → coloured f (k + spacer (scheme_letter c ∷ (args ns ++ 10 ∷ r))) (unspaced (scheme_letter c ∷ (args ns ++ 10 ∷ r)))
      ≡ draft (just (f c ns)) [] (starts_of (k + 1) ns) 0 (k + 1 + length (args ns)) (10 ∷ r)
  unfolding span
  coloured_back f c k ns g h = rw ((scheme_letter_lem c).0, (scheme_letter_lem c).1, add-zero) (all_back (f c) (components c) (k + 1) ns g h)

  named_back : (f : List ℕ → Cmd) (ks : List ℕ) (k : ℕ) (n : List ℕ) → Name n
      → named f ks k (32 ∷ (n ++ 10 ∷ r)) ≡ draft (f n) [] (ks ++ (k + 1) ∷ []) (k + 1) (k + 1 + length n) (10 ∷ r)
  unfolding named span
  named_back f ks k n h =
      rw (
        span_stops is_space (n ++ 10 ∷ r) (name_begins n (10 ∷ r) h),
        span_all is_not_white n (10 ∷ r) h.whole refl,
        ne_eqb (length n) 0 (λ q. let p : 0 < length n = h.some in omega arith),
        take-append_seam n (10 ∷ r),
        drop-append_seam n (10 ∷ r),
      )

  mount_back : (n : ℕ) (m : List ℕ) → AllNear (n ∷ []) → Name m
      → number_named (λ x y. just (mount x y)) (integers 1 3 ((args (n ∷ []) ++ 32 ∷ m) ++ 10 ∷ r))
      ≡ draft (just (mount n m)) [] (starts_of 3 (n ∷ []) ++ (3 + length (args (n ∷ [])) + 1) ∷ []) (3 + length (args (n ∷ [])) + 1) (3 + length (args (n ∷ [])) + 1 + length m) (10 ∷ r)
  mount_back n m h g =
      rw (
        append_assoc (args (n ∷ [])) (32 ∷ m) (10 ∷ r),
        integers-args (n ∷ []) (32 ∷ (m ++ 10 ∷ r)) 3 h refl,
        moved_num_of n,
        named_back (λ y. just (mount n y)) (starts_of 3 (n ∷ [])) (3 + length (args (n ∷ []))) m g,
      )

-- ---- the text of `x X`

-- no line is added by what follows
abbrev pub NoPlus : List ℕ → Type 0
NoPlus [] = Unit {0}
NoPlus (b ∷ r) = is "+" b ≡ false

raw-other : (b : ℕ) (l : List ℕ) → is "\n" b ≡ false → raw_text (b ∷ l) ≡ b ∷ raw_text l
unfolding raw_text
raw-other b [] h = rw h
raw-other b (c ∷ l) h = rw h

length-other : (b : ℕ) (l : List ℕ) → is "\n" b ≡ false → raw_length (b ∷ l) ≡ suc (raw_length l)
unfolding raw_length
length-other b [] h = rw h
length-other b (c ∷ l) h = rw h

raw_end : (r : List ℕ) → NoPlus r → raw_text (10 ∷ r) ≡ []
unfolding raw_text
raw_end [] h = refl
raw_end (c ∷ r) h = rw h

length_end : (r : List ℕ) → NoPlus r → raw_length (10 ∷ r) ≡ 0
unfolding raw_length
length_end [] h = refl
length_end (c ∷ r) h = rw h

raw_back : (t r : List ℕ) → NoPlus r → raw_text (plus_lines t ++ 10 ∷ r) ≡ t
unfolding plus_lines raw_text
raw_back [] r h = raw_end r h
raw_back (b ∷ t) r h =
    on (is "\n" b)
    (λ k. rw k (ap₂ (λ (x : ℕ) (l : List ℕ). x ∷ l) (sym (eqb-true b 10 k)) (raw_back t r h)))
    (λ k. rw k (raw-other b (plus_lines t ++ 10 ∷ r) k ∙ ap (λ (l : List ℕ). b ∷ l) (raw_back t r h)))

length_back : (t r : List ℕ) → NoPlus r → raw_length (plus_lines t ++ 10 ∷ r) ≡ length (plus_lines t)
unfolding plus_lines raw_length
length_back [] r h = length_end r h
length_back (b ∷ t) r h =
    on (is "\n" b)
    (λ k. rw k (ap (λ (n : ℕ). suc (suc n)) (length_back t r h)))
    (λ k. rw k (length-other b (plus_lines t ++ 10 ∷ r) k ∙ ap suc (length_back t r h)))

-- ---- limits

pub outside_none : (bs : List Bool) (ks : List ℕ) → all_true bs ≡ true → outside bs ks ≡ none
outside_none [] ks h = refl
outside_none (true ∷ bs) [] h = outside_none bs [] h
outside_none (true ∷ bs) (k ∷ ks) h = outside_none bs ks h
outside_none (false ∷ bs) [] h = no h
outside_none (false ∷ bs) (k ∷ ks) h = no h

-- a draft of an act within its limits, no byte of its name barred
judge : (a : Act) (ks : List ℕ) (m l j : ℕ) (t : List ℕ) (d : Draft) → all_true (limits a) ≡ true → is_clear (name_of a) ≡ true → d ≡ draft (just a) [] ks m l t → l ≡ j
    → judged d ≡ got (just a) m j
judge a ks m l j t d h g e q = rw (e, q, append-nil (limits a), outside_none (limits a) ks h, g)

-- the same, of a drawing or control whose arguments end where its line does
judge-closed : (a : Act) (ks : List ℕ) (m l j : ℕ) (r : List ℕ) (d : Draft) → all_true (limits a) ≡ true → is_clear (name_of a) ≡ true → d ≡ draft (just a) [] ks m l (10 ∷ r) → l ≡ j
    → judged (closed d) ≡ got (just a) m j
unfolding line_ends
judge-closed a ks m l j r d h g e q = judge a ks m l j (10 ∷ r) (closed d) h g (rw e) q

-- ---- every act

abbrev pub scan : List ℕ → Scan
scan [] = bad 3 0
scan (b ∷ r) = command b r

-- where the name of a printed act stands, 0 where it has none
abbrev pub name_at : Act → ℕ
name_at (glyph n) = 2
name_at (index n) = 0
name_at (to x n) = 0
name_at (by x n) = 0
name_at (page n) = 0
name_at (font n) = 0
name_at (size n) = 0
name_at (colour c ns) = 0
name_at break = 0
name_at space = 0
name_at (draw s ns) = 0
name_at (device n) = 4
name_at (resolution n h v) = 0
name_at init = 0
name_at (file n) = 4
name_at (mount n m) = 3 + length (args (n ∷ [])) + 1
name_at (plain c ns) = 0
name_at (raw t) = 0
name_at stop = 0

-- the answer for a printed act
abbrev Back : Act → List ℕ → Type 0
Back a r = scan (spell_act a ++ 10 ∷ r) ≡ got (just a) (name_at a) (length (spell_act a))

glyph_back : (n r : List ℕ) → Good (glyph n) → Back (glyph n) r
unfolding letter spell_act span
glyph_back [] r h = absurd (let p : 0 < 0 = h.1.some in omega arith)
glyph_back (b ∷ []) r h = rw (not_or_left (is_space b) (eqb b 10) h.1.whole.0, not-true (is_white b) h.1.whole.0, h.2)
glyph_back (b ∷ c ∷ n) r h =
    judge (glyph (b ∷ c ∷ n)) (2 ∷ []) 2 _ _ (10 ∷ r) _ h.0 h.2 (named_back r (λ m. just (glyph m)) [] 1 (b ∷ c ∷ n) h.1) (omega arith)

break_back : (r : List ℕ) → Back break r
unfolding letter spell_act span integers integer value
break_back r = refl

-- a command of one integer
one_scan : (f : ℕ → Act) (n : ℕ) (r : List ℕ) → AllNear (n ∷ []) → all_true (limits (f n)) ≡ true → is_clear (name_of (f n)) ≡ true
    → judged (with_one f (integers 1 1 (args (n ∷ []) ++ 10 ∷ r))) ≡ got (just (f n)) 0 (suc (length (args (n ∷ []))))
one_scan f n r g h k = judge (f n) _ 0 _ _ _ _ h k (one_back r f n g) (omega arith)

-- a control that is a name
name_scan : (f : List ℕ → Act) (n r : List ℕ) → Name n → all_true (limits (f n)) ≡ true → is_clear (name_of (f n)) ≡ true
    → judged (closed (named (λ m. just (f m)) [] 3 (32 ∷ (n ++ 10 ∷ r)))) ≡ got (just (f n)) 4 (suc (suc (suc (suc (length n)))))
name_scan f n r g h k = judge-closed (f n) _ 4 _ _ r _ h k (named_back r (λ m. just (f m)) [] 3 n g) (omega arith)

shape_scan : (s : Shape) (ns r : List ℕ) → Good (draw s ns)
    → judged (closed (drawn s 2 (args ns ++ 10 ∷ r) (form_of s))) ≡ got (just (draw s ns)) 0 (suc (suc (length (args ns))))
shape_scan s ns r h = judge-closed (draw s ns) _ 0 _ _ r _ h.0 refl (drawn_back r s (form_of s) 2 ns h.1 (shape-near s ns h.0)) (omega arith)

draw_back : (s : Shape) (ns r : List ℕ) → Good (draw s ns) → Back (draw s ns) r
unfolding letter spell_act span drawing
draw_back line ns r h = shape_scan line ns r h
draw_back arc ns r h = shape_scan arc ns r h
draw_back circle ns r h = shape_scan circle ns r h
draw_back solid_circle ns r h = shape_scan solid_circle ns r h
draw_back ellipse ns r h = shape_scan ellipse ns r h
draw_back solid_ellipse ns r h = shape_scan solid_ellipse ns r h
draw_back polygon ns r h = shape_scan polygon ns r h
draw_back solid_polygon ns r h = shape_scan solid_polygon ns r h
draw_back spline ns r h = shape_scan spline ns r h
draw_back thickness ns r h = shape_scan thickness ns r h
draw_back gray_fill ns r h = shape_scan gray_fill ns r h
draw_back (colour_fill c) ns r h =
    judge-closed (draw (colour_fill c) ns) _ 0 _ _ r _ h.0 refl (coloured_back r (λ x. draw (colour_fill x)) c 2 ns h.1 (component-near ns h.0)) (omega arith)

-- a control's word ends where its arguments begin
args_word : (ns r : List ℕ) → span is_not_white (args ns ++ 10 ∷ r) ≡ 0
unfolding span
args_word [] r = refl
args_word (n ∷ ns) r = refl

plain_scan : (c : Plain) (ns r : List ℕ) → Good (plain c ns)
    → judged (closed (plainly c 3 (args ns ++ 10 ∷ r))) ≡ got (just (plain c ns)) 0 (suc (suc (suc (length (args ns)))))
plain_scan c ns r h =
    judge-closed (plain c ns) _ 0 _ _ r _ h.0 refl (all_back r (plain c) (plain_count c) 3 ns h.1 (plain-near c ns h.0)) (omega arith)

plain_back : (c : Plain) (ns r : List ℕ) → Good (plain c ns) → Back (plain c ns) r
unfolding letter spell_act span control
plain_back pause ns r h = rw (args_word ns r) (plain_scan pause ns r h)
plain_back trailer ns r h = rw (args_word ns r) (plain_scan trailer ns r h)
plain_back height ns r h = rw (args_word ns r) (plain_scan height ns r h)
plain_back slant ns r h = rw (args_word ns r) (plain_scan slant ns r h)
plain_back underline ns r h = rw (args_word ns r) (plain_scan underline ns r h)

-- the text of `x X`, which is k bytes behind the command's first
rawly_back : (k : ℕ) (t r : List ℕ) → NoPlus r
    → rawly k (plus_lines t ++ 10 ∷ r) ≡ draft (just (raw t)) [] (k ∷ []) 0 (k + length (plus_lines t)) (10 ∷ r)
rawly_back k t r h = rw (raw_back t r h, length_back t r h, drop-append_seam (plus_lines t) (10 ∷ r))

raw_scan : (k : ℕ) (t r : List ℕ) → Good (raw t) → NoPlus r → judged (rawly k (plus_lines t ++ 10 ∷ r)) ≡ got (just (raw t)) 0 (k + length (plus_lines t))
raw_scan k t r h p = judge (raw t) (k ∷ []) 0 _ _ (10 ∷ r) (rawly k (plus_lines t ++ 10 ∷ r)) h.0 refl (rawly_back k t r p) refl

text_back : (t r : List ℕ) → Good (raw t) → NoPlus r → Back (raw t) r
unfolding letter spell_act span control plus_lines
text_back [] r h k = raw_scan 3 [] r h k
text_back (b ∷ t) r h k =
    on (is "\n" b)
    (λ e. rw e (rw e at (raw_scan 3 (b ∷ t) r h k) ∙ ap (got (just (raw (b ∷ t))) 0) (omega arith)))
    (λ e. rw (e, h.1) (rw e at (raw_scan 4 (b ∷ t) r h k) ∙ ap (got (just (raw (b ∷ t))) 0) (omega arith)))

pub scan_back : (a : Act) (r : List ℕ) → Good a → NoPlus r → scan (spell_act a ++ 10 ∷ r) ≡ got (just a) (name_at a) (length (spell_act a))
unfolding letter spell_act control span
scan_back (glyph n) r h k = glyph_back n r h
scan_back (index n) r h k = one_scan index n r h.0 h.0 refl
scan_back (to across n) r h k = one_scan (to across) n r h.0 h.0 refl
scan_back (to down n) r h k = one_scan (to down) n r h.0 h.0 refl
scan_back (by across n) r h k = one_scan (by across) n r h.0 h.0 refl
scan_back (by down n) r h k = one_scan (by down) n r h.0 h.0 refl
scan_back (page n) r h k = one_scan page n r h.0 h.0 refl
scan_back (font n) r h k = one_scan font n r (position-near n (and_left (is_position n) true h.0)) h.0 refl
scan_back (size n) r h k = one_scan size n r (positive-near (n ∷ []) h.0) h.0 refl
scan_back (colour c ns) r h k = judge (colour c ns) _ 0 _ _ _ _ h.0 refl (coloured_back r colour c 1 ns h.1 (component-near ns h.0)) (omega arith)
scan_back break r h k = break_back r
scan_back space r h k = refl
scan_back (draw s ns) r h k = draw_back s ns r h
scan_back (device n) r h k = name_scan device n r h.1 h.0 h.2
scan_back (resolution n m v) r h k =
    judge-closed (resolution n m v) _ 0 _ _ r _ h.0 refl (resolution_back r n m v (positive-near (n ∷ m ∷ v ∷ []) h.0)) (omega arith)
scan_back init r h k = judge-closed init [] 0 3 3 r _ refl refl refl refl
scan_back (file n) r h k = name_scan file n r h.1 h.0 h.2
scan_back (mount n m) r h k =
    judge-closed (mount n m) _ (name_at (mount n m)) _ _ r _ h.0 h.2
    (mount_back r n m (position-near n (and_left (is_position n) (is_name m && true) h.0)) h.1)
    (simp length-append (omega arith))
scan_back (plain c ns) r h k = plain_back c ns r h
scan_back (raw t) r h k = text_back t r h k
scan_back stop r h k = judge-closed stop [] 0 3 3 r _ refl refl refl refl
