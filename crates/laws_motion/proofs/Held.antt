-- What records, entries and the reader's answer hold.
use Prim.Native.Nat.{ℕ, zero, suc, ◌+◌, ◌*◌, ◌-◌, ◌/◌, ◌<◌, ◌≤◌}
use Prim.Native.Char.{code}
use native.Mathlib.Numerals.{add-one}
use native.Mathlib.Omega.{arith}
use mathlib.Core.Bool.{Bool, true, false}
use mathlib.Core.List.{List, [], ◌∷◌}
use mathlib.Core.Logic.{◌⊎◌, inl, inr, ⊎_elim}
use mathlib.Core.Option.{some}
use mathlib.Core.Path.{◌≡◌, refl, sym, ap, ap₂, ◌∙◌}
use lib.Dec.{ltb}
use lib.IntN.{ℤ, pos, negsuc, nat_abs, pos-ne-negsuc}
use lib.ListN.{get_or, drop, replicate}
use lib.Seq.{get_or-set_same, get_or-set_other}
use borrow.Author.Tests.{le-leb, lt-leb, ltb-true, ltb-false}
use Rattle.rules.specs.Bytes.{origin, bytes}
use Rattle.rules.specs.Act.{Scheme, cmy, default, gray, cmyk, rgb, Shape, line, arc, circle, solid_circle, ellipse, solid_ellipse, polygon, solid_polygon, spline, thickness, gray_fill, colour_fill, Plain, pause, trailer, height, slant, underline, Act, glyph, index, to, by, page, font, size, colour, break, space, draw, device, resolution, init, file, mount, plain, raw, stop}
use Rattle.rules.specs.Drawing.{way_of}
use Rattle.rules.specs.State.{Spot, Paint, Env, set_phase, set_spot, set_gap, set_fill_paint, get, put, plus, fits, spot_after, may_go, padded, painted, filled, mounted_at, is_mounted, item_at, item, new_page, recorded, indexed, effect}
use Rattle.rules.specs.Record.{shown, letters_of, scheme_letter, colour_of}
use Rattle.laws.proofs.Cases.{on, no}
use Rattle.laws_motion.proofs.Steps.{After, if_after, font_after, behind}
use Rattle.laws_motion.specs.Records.{OneRecord, may_record, Recorded, drawing_letters, plain_letters, letters, three, place_in, OneEntry, is_some, Entered, NewPage, PaintIs, StandFor, Setting, the_page, the_font, the_size, the_gap, the_glyph_colour, the_fill_colour, the_mounts, the_quantum, Stays, may_fill, may_set, Among, Settings, scheme_char, ColourHolds, AnswerHolds}

-- ---- the sign of a number

-- not below 0: the number itself
pub shown_pos : (n i : ℕ) → shown n ≡ pos i → (ltb n origin ≡ false) × (n - origin ≡ i)
shown_pos n i h = on (ltb n origin) (λ k. absurd (pos-ne-negsuc _ _ (sym (rw k at h)))) (λ k. (k, ap nat_abs (rw k at h)))

shown_neg : (n i : ℕ) → shown n ≡ negsuc i → ltb n origin ≡ true
shown_neg n i h = on (ltb n origin) (λ k. k) (λ k. absurd (pos-ne-negsuc _ _ (rw k at h)))

-- ---- records

one_recorded : (e : Env) (n : List ℕ) (j i f : ℕ) → j ≡ i → e.font ≡ some f → After (λ d gs xs. OneRecord e n i gs) (recorded e n j f)
one_recorded e n j i f q k = record {
  made = _;
  only = refl;
  named = refl;
  holds = λ p. record {
    ordinal = refl;
    page_number = refl;
    h = refl;
    v = refl;
    font_position = sym k;
    size = refl;
    name_place = refl;
    name_length = refl;
    index = q;
    gap_mark = refl;
  };
}

by_name : (e : Env) (n : List ℕ) → After (λ d gs xs. OneRecord e n 0 gs) (effect e (glyph n))
by_name e n = font_after (λ d gs xs. OneRecord e n 0 gs) e (recorded e n 0) e.font refl (λ f k. one_recorded e n 0 0 f refl k)

by_index : (e : Env) (n i : ℕ) → shown n ≡ pos i → After (λ d gs xs. OneRecord e [] i gs) (effect e (index n))
by_index e n i h =
    font_after (λ d gs xs. OneRecord e [] i gs) e (indexed e n) e.font refl
    (λ f k. rw (shown_pos n i h).0 (one_recorded e [] (n - origin) i f (shown_pos n i h).1 k))

below_0 : (e : Env) (n i : ℕ) → shown n ≡ negsuc i → After (λ d gs xs. (gs ≡ []) × (d.gap ≡ 1)) (effect e (index n))
below_0 e n i h = font_after (λ d gs xs. (gs ≡ []) × (d.gap ≡ 1)) e (indexed e n) e.font refl (λ f k. rw (shown_neg n i h) (refl, refl))

no_glyph : (e : Env) (a : Act) → may_record a ≡ false → After (λ d gs xs. gs ≡ []) (effect e a)
no_glyph e (glyph n) h = no (sym h)
no_glyph e (index n) h = no (sym h)
no_glyph e (to x n) h = refl
no_glyph e (by x n) h = if_after (λ d gs xs. gs ≡ []) (fits (get x e.spot) n) _ 10 (λ t. refl)
no_glyph e (page n) h = refl
no_glyph e (font n) h = if_after (λ d gs xs. gs ≡ []) (is_mounted (mounted_at (n - origin) e.mounts)) _ 8 (λ t. refl)
no_glyph e (size n) h = refl
no_glyph e (colour c ns) h = refl
no_glyph e break h = refl
no_glyph e space h = refl
no_glyph e (draw s ns) h = if_after (λ d gs xs. gs ≡ []) (may_go e.spot (way_of s ns)) _ 10 (λ t. refl)
no_glyph e (device n) h = refl
no_glyph e (resolution n m v) h = refl
no_glyph e init h = refl
no_glyph e (file n) h = refl
no_glyph e (mount n m) h = refl
no_glyph e (plain c ns) h = refl
no_glyph e (raw t) h = refl
no_glyph e stop h = refl

pub recorded_holds : Recorded
recorded_holds = record {
  by_name = λ e e' gs xs n k. behind (λ d g x. OneRecord e n 0 g) e e' gs xs (glyph n) (by_name e n) k;
  by_index = λ e e' gs xs n i h k. behind (λ d g x. OneRecord e [] i g) e e' gs xs (index n) (by_index e n i h) k;
  below_0 = λ e e' gs xs n i h k. behind (λ d g x. (g ≡ []) × (d.gap ≡ 1)) e e' gs xs (index n) (below_0 e n i h) k;
  no_other = λ e e' gs xs a h k. behind (λ d g x. g ≡ []) e e' gs xs a (no_glyph e a h) k;
}

-- ---- entries

shape_entry : (e : Env) (s : Shape) (ns : List ℕ) → OneEntry e (draw s ns) (item_at e (draw s ns) ∷ [])
shape_entry e s ns = record { made = _; only = refl; said = refl; holds = λ p l. record { written = go s; ordinal = refl; place = refl; len_is = refl; h = refl; v = refl } }
  where
    go : (s : Shape) → (letters_of (draw s ns)).command ∷ (letters_of (draw s ns)).letter ∷ (letters_of (draw s ns)).scheme ∷ [] ≡ three (bytes (letters (draw s ns)))
    go line = refl
    go arc = refl
    go circle = refl
    go solid_circle = refl
    go ellipse = refl
    go solid_ellipse = refl
    go polygon = refl
    go solid_polygon = refl
    go spline = refl
    go thickness = refl
    go gray_fill = refl
    go (colour_fill cmy) = refl
    go (colour_fill default) = refl
    go (colour_fill gray) = refl
    go (colour_fill cmyk) = refl
    go (colour_fill rgb) = refl

-- a control that holds no place
control_entry : (e : Env) (a : Act) → (letters_of a).command ∷ (letters_of a).letter ∷ (letters_of a).scheme ∷ [] ≡ three (bytes (letters a)) → ((z : ℤ) → pos 0 ≡ place_in a z) → OneEntry e a (item e a ∷ [])
control_entry e a w z =
    record { made = _; only = refl; said = refl; holds = λ p l. record { written = w; ordinal = refl; place = refl; len_is = refl; h = z (shown e.spot.h); v = z (shown e.spot.v) } }

text_entry : (e : Env) (t : List ℕ) → OneEntry e (raw t) (item_at e (raw t) ∷ [])
text_entry e t = record { made = _; only = refl; said = refl; holds = λ p l. record { written = refl; ordinal = refl; place = refl; len_is = refl; h = refl; v = refl } }

plain-letters : (c : Plain) (ns : List ℕ) → (letters_of (plain c ns)).command ∷ (letters_of (plain c ns)).letter ∷ (letters_of (plain c ns)).scheme ∷ [] ≡ three (bytes (letters (plain c ns)))
plain-letters pause ns = refl
plain-letters trailer ns = refl
plain-letters height ns = refl
plain-letters slant ns = refl
plain-letters underline ns = refl

one_entry : (e : Env) (a : Act) → is_some (bytes (letters a)) ≡ true → After (λ d gs xs. OneEntry e a xs) (effect e a)
one_entry e (glyph n) h = no h
one_entry e (index n) h = no h
one_entry e (to x n) h = no h
one_entry e (by x n) h = no h
one_entry e (page n) h = no h
one_entry e (font n) h = no h
one_entry e (size n) h = no h
one_entry e (colour c ns) h = no h
one_entry e break h = no h
one_entry e space h = no h
one_entry e (draw s ns) h = if_after (λ d gs xs. OneEntry e (draw s ns) xs) (may_go e.spot (way_of s ns)) _ 10 (λ t. shape_entry e s ns)
one_entry e (device n) h = control_entry e (device n) refl (λ z. refl)
one_entry e (resolution n m v) h = control_entry e (resolution n m v) refl (λ z. refl)
one_entry e init h = control_entry e init refl (λ z. refl)
one_entry e (file n) h = control_entry e (file n) refl (λ z. refl)
one_entry e (mount n m) h = control_entry e (mount n m) refl (λ z. refl)
one_entry e (plain c ns) h = control_entry e (plain c ns) (plain-letters c ns) (λ z. refl)
one_entry e (raw t) h = text_entry e t
one_entry e stop h = control_entry e stop refl (λ z. refl)

some_shape : (s : Shape) → is_some (bytes (drawing_letters s)) ≡ true
some_shape line = refl
some_shape arc = refl
some_shape circle = refl
some_shape solid_circle = refl
some_shape ellipse = refl
some_shape solid_ellipse = refl
some_shape polygon = refl
some_shape solid_polygon = refl
some_shape spline = refl
some_shape thickness = refl
some_shape gray_fill = refl
some_shape (colour_fill cmy) = refl
some_shape (colour_fill default) = refl
some_shape (colour_fill gray) = refl
some_shape (colour_fill cmyk) = refl
some_shape (colour_fill rgb) = refl

some_plain : (c : Plain) → is_some (bytes (plain_letters c)) ≡ true
some_plain pause = refl
some_plain trailer = refl
some_plain height = refl
some_plain slant = refl
some_plain underline = refl

no_entry : (e : Env) (a : Act) → is_some (bytes (letters a)) ≡ false → After (λ d gs xs. xs ≡ []) (effect e a)
no_entry e (glyph n) h = font_after (λ d gs xs. xs ≡ []) e (recorded e n 0) e.font refl (λ f k. refl)
no_entry e (index n) h = font_after (λ d gs xs. xs ≡ []) e (indexed e n) e.font refl (λ f k. on (ltb n origin) (λ j. rw j refl) (λ j. rw j refl))
no_entry e (to x n) h = refl
no_entry e (by x n) h = if_after (λ d gs xs. xs ≡ []) (fits (get x e.spot) n) _ 10 (λ t. refl)
no_entry e (page n) h = refl
no_entry e (font n) h = if_after (λ d gs xs. xs ≡ []) (is_mounted (mounted_at (n - origin) e.mounts)) _ 8 (λ t. refl)
no_entry e (size n) h = refl
no_entry e (colour c ns) h = refl
no_entry e break h = refl
no_entry e space h = refl
no_entry e (draw s ns) h = no (sym h ∙ some_shape s)
no_entry e (device n) h = no (sym h)
no_entry e (resolution n m v) h = no (sym h)
no_entry e init h = no (sym h)
no_entry e (file n) h = no (sym h)
no_entry e (mount n m) h = no (sym h)
no_entry e (plain c ns) h = no (sym h ∙ some_plain c)
no_entry e (raw t) h = no (sym h)
no_entry e stop h = no (sym h)

pub entered_holds : Entered
entered_holds = record {
  one = λ e e' gs xs a h k. behind (λ d g x. OneEntry e a x) e e' gs xs a (one_entry e a h) k;
  no_other = λ e e' gs xs a h k. behind (λ d g x. x ≡ []) e e' gs xs a (no_entry e a h) k;
}

-- ---- what stays

-- of each setting: it stays, or it is among those that may change
abbrev Each : List Setting → Env → Env → Type 0
Each ks e d =
    (Stays the_page e d ⊎ Among the_page ks) × (Stays the_font e d ⊎ Among the_font ks) × (Stays the_size e d ⊎ Among the_size ks) × (Stays the_gap e d ⊎ Among the_gap ks)
    × (Stays the_glyph_colour e d ⊎ Among the_glyph_colour ks) × (Stays the_fill_colour e d ⊎ Among the_fill_colour ks) × (Stays the_mounts e d ⊎ Among the_mounts ks) × (Stays the_quantum e d ⊎ Among the_quantum ks)

each_stays : (ks : List Setting) (e d : Env) → Each ks e d → (k : Setting) → (Among k ks → ⊥) → Stays k e d
each_stays ks e d f k h = go k (λ x. absurd (h x))
  where
    go : (k : Setting) → (Among k ks → Stays k e d) → Stays k e d
    go the_page g = ⊎_elim (λ x. x) g f.0
    go the_font g = ⊎_elim (λ x. x) g f.1
    go the_size g = ⊎_elim (λ x. x) g f.2
    go the_gap g = ⊎_elim (λ x. x) g f.3
    go the_glyph_colour g = ⊎_elim (λ x. x) g f.4
    go the_fill_colour g = ⊎_elim (λ x. x) g f.5
    go the_mounts g = ⊎_elim (λ x. x) g f.6
    go the_quantum g = ⊎_elim (λ x. x) g f.7

-- the place and the prologue aside nothing changes; or the gap mark alone
none_set : (e : Env) (p : Spot) (n : ℕ) → Each [] e (set_phase (set_spot e p) n)
none_set e p n = (inl (refl, refl), inl refl, inl refl, inl refl, inl refl, inl refl, inl refl, inl refl)

gap_set : (e : Env) (g : ℕ) → Each (the_gap ∷ []) e (set_gap e g)
gap_set e g = (inl (refl, refl), inl refl, inl refl, inr (inl refl), inl refl, inl refl, inl refl, inl refl)

drawn : (e : Env) (s : Shape) (ns : List ℕ) (p : Spot) → Each (may_fill s) e (set_fill_paint (set_spot e p) (filled e s ns))
drawn e s ns p = (inl (refl, refl), inl refl, inl refl, inl refl, inl refl, go s, inl refl, inl refl)
  where
    go : (s : Shape) → (filled e s ns ≡ e.fill_paint) ⊎ Among the_fill_colour (may_fill s)
    go line = inl refl
    go arc = inl refl
    go circle = inl refl
    go solid_circle = inl refl
    go ellipse = inl refl
    go solid_ellipse = inl refl
    go polygon = inl refl
    go solid_polygon = inl refl
    go spline = inl refl
    go thickness = inl refl
    go gray_fill = inr (inl refl)
    go (colour_fill c) = inr (inl refl)

each_set : (e : Env) (a : Act) → After (λ d gs xs. Each (may_set a) e d) (effect e a)
each_set e (glyph n) = font_after (λ d gs xs. Each (the_gap ∷ []) e d) e (recorded e n 0) e.font refl (λ f k. gap_set e 0)
each_set e (index n) = font_after (λ d gs xs. Each (the_gap ∷ []) e d) e (indexed e n) e.font refl (λ f k. on (ltb n origin) (λ j. rw j (gap_set e 1)) (λ j. rw j (gap_set e 0)))
each_set e (to x n) = none_set e (put x n e.spot) e.phase
each_set e (by x n) = if_after (λ d gs xs. Each [] e d) (fits (get x e.spot) n) _ 10 (λ t. none_set e (put x (plus (get x e.spot) n) e.spot) e.phase)
each_set e (page n) = (inr (inl refl), inl refl, inl refl, inr (inr (inl refl)), inl refl, inl refl, inl refl, inl refl)
each_set e (font n) =
    if_after (λ d gs xs. Each (the_font ∷ []) e d) (is_mounted (mounted_at (n - origin) e.mounts)) _ 8
    (λ t. (inl (refl, refl), inr (inl refl), inl refl, inl refl, inl refl, inl refl, inl refl, inl refl))
each_set e (size n) = (inl (refl, refl), inl refl, inr (inl refl), inl refl, inl refl, inl refl, inl refl, inl refl)
each_set e (colour c ns) = (inl (refl, refl), inl refl, inl refl, inl refl, inr (inl refl), inl refl, inl refl, inl refl)
each_set e break = (inl (refl, refl), inl refl, inl refl, inr (inl refl), inl refl, inl refl, inl refl, inl refl)
each_set e space = (inl (refl, refl), inl refl, inl refl, inr (inl refl), inl refl, inl refl, inl refl, inl refl)
each_set e (draw s ns) = if_after (λ d gs xs. Each (may_fill s) e d) (may_go e.spot (way_of s ns)) _ 10 (λ t. drawn e s ns (spot_after e.spot (way_of s ns)))
each_set e (device n) = none_set e e.spot 1
each_set e (resolution n h v) = (inl (refl, refl), inl refl, inl refl, inl refl, inl refl, inl refl, inl refl, inr (inl refl))
each_set e init = none_set e e.spot 3
each_set e (file n) = none_set e e.spot e.phase
each_set e (mount n m) = (inl (refl, refl), inl refl, inl refl, inl refl, inl refl, inl refl, inr (inl refl), inl refl)
each_set e (plain c ns) = none_set e e.spot e.phase
each_set e (raw t) = none_set e e.spot e.phase
each_set e stop = none_set e e.spot 4

-- ---- what is set

turned : (e : Env) (n : ℕ) → NewPage e (new_page e n) n
turned e n = record { ordinal = add-one e.ordinal; number = refl; font_stays = refl; size_stays = refl; glyph_colour_stays = refl; fill_colour_stays = refl; gap_set = refl }

font_set : (e : Env) (n i : ℕ) → shown n ≡ pos i → After (λ d gs xs. d.font ≡ some i) (effect e (font n))
font_set e n i h = if_after (λ d gs xs. d.font ≡ some i) (is_mounted (mounted_at (n - origin) e.mounts)) _ 8 (λ t. ap some (shown_pos n i h).1)

unmarked : (e : Env) (n : List ℕ) → After (λ d gs xs. d.gap ≡ 0) (effect e (glyph n))
unmarked e n = font_after (λ d gs xs. d.gap ≡ 0) e (recorded e n 0) e.font refl (λ f k. refl)

index_unmarked : (e : Env) (n i : ℕ) → shown n ≡ pos i → After (λ d gs xs. d.gap ≡ 0) (effect e (index n))
index_unmarked e n i h = font_after (λ d gs xs. d.gap ≡ 0) e (indexed e n) e.font refl (λ f k. rw (shown_pos n i h).0 refl)

-- ---- colours

-- a list of integers taken apart
is_empty : List ℤ → Bool
is_empty [] = true
is_empty (z ∷ zs) = false

first : List ℤ → ℤ
first [] = pos 0
first (z ∷ zs) = z

-- so many numbers, 0 where there is none
abbrev firsts : ℕ → List ℕ → List ℕ
firsts zero is = []
firsts (suc k) [] = 0 ∷ firsts k []
firsts (suc k) (i ∷ is) = i ∷ firsts k is

padded_is : (k : ℕ) (ns is : List ℕ) → StandFor ns is → padded k ns ≡ firsts k is
unfolding is_empty first
padded_is zero ns is h = refl
padded_is (suc k) [] [] h = ap (λ (y : List ℕ). 0 ∷ y) (padded_is k [] [] refl)
padded_is (suc k) [] (i ∷ is) h = no (sym (ap is_empty h))
padded_is (suc k) (n ∷ ns) [] h = no (ap is_empty h)
padded_is (suc k) (n ∷ ns) (i ∷ is) h = ap₂ (λ (x : ℕ) (y : List ℕ). x ∷ y) (shown_pos n i (ap first h)).1 (padded_is k ns is (ap (drop 1) h))

four : (is : List ℕ) → firsts 4 is ≡ get_or is 0 0 ∷ get_or is 1 0 ∷ get_or is 2 0 ∷ get_or is 3 0 ∷ []
four [] = refl
four (a ∷ []) = refl
four (a ∷ b ∷ []) = refl
four (a ∷ b ∷ c ∷ []) = refl
four (a ∷ b ∷ c ∷ d ∷ r) = refl

painted_is : (c : Scheme) (ns is : List ℕ) → StandFor ns is → PaintIs c is (painted c ns)
painted_is c ns is h = record { scheme = refl; components = padded_is 4 ns is h ∙ four is }

-- the fill colour behind a drawing
fill_after : (P : Paint → Type 0) (e : Env) (s : Shape) (ns : List ℕ) → P (filled e s ns) → After (λ d gs xs. P d.fill_paint) (effect e (draw s ns))
fill_after P e s ns h = if_after (λ d gs xs. P d.fill_paint) (may_go e.spot (way_of s ns)) _ 10 (λ t. h)

module _ (e : Env) (n i : ℕ) where
  gray_in : shown n ≡ pos i → i ≤ 1000 → PaintIs gray (((1000 - i) * 65536 / 1000) ∷ []) (filled e gray_fill (n ∷ []))
  gray_in h l =
      let k : (ltb n origin ≡ false) × (n - origin ≡ i) = shown_pos n i h in
      rw (le-leb origin n (ltb-false n origin k.0), le-leb n (origin + 1000) (omega (arith, ltb-false n origin k.0, k.1)), k.1) (record { scheme = refl; components = refl })

  gray_above : shown n ≡ pos i → 1000 < i → filled e gray_fill (n ∷ []) ≡ e.glyph_paint
  gray_above h l =
      let k : (ltb n origin ≡ false) × (n - origin ≡ i) = shown_pos n i h in
      rw (le-leb origin n (ltb-false n origin k.0), lt-leb n (origin + 1000) (omega (arith, ltb-false n origin k.0, k.1)))

  gray_below : shown n ≡ negsuc i → filled e gray_fill (n ∷ []) ≡ e.glyph_paint
  gray_below h = rw (lt-leb origin n (ltb-true n origin (shown_neg n i h)))

-- ---- mounts

no_mount : (k i : ℕ) → mounted_at i (replicate k []) ≡ []
no_mount zero i = refl
no_mount (suc k) zero = refl
no_mount (suc k) (suc i) = no_mount k i

pub settings_hold : Settings
settings_hold = record {
  starts = (refl, refl, refl, refl, refl);
  starts_glyph_colour = record { scheme = refl; components = refl };
  starts_fill_colour = record { scheme = refl; components = refl };
  starts_unmounted = no_mount 256;
  stays = λ e e' gs xs a k h q. each_stays (may_set a) e e' (behind (λ d g x. Each (may_set a) e d) e e' gs xs a (each_set e a) q) k h;
  turns = λ e e' gs xs n k. behind (λ d g x. NewPage e d n) e e' gs xs (page n) (turned e n) k;
  sets_font = λ e e' gs xs n i h k. behind (λ d g x. d.font ≡ some i) e e' gs xs (font n) (font_set e n i h) k;
  sets_size = λ e e' gs xs n i h k. behind (λ d g x. d.size ≡ i) e e' gs xs (size n) (shown_pos n i h).1 k;
  sets_quantum = λ e e' gs xs n h v i q k. behind (λ d g x. d.quantum ≡ i) e e' gs xs (resolution n h v) (shown_pos h i q).1 k;
  sets_glyph_colour = λ e e' gs xs c ns is h k. behind (λ d g x. PaintIs c is d.glyph_paint) e e' gs xs (colour c ns) (painted_is c ns is h) k;
  sets_fill_colour = λ e e' gs xs c ns is h k. behind (λ d g x. PaintIs c is d.fill_paint) e e' gs xs (draw (colour_fill c) ns) (fill_after (PaintIs c is) e (colour_fill c) ns (painted_is c ns is h)) k;
  sets_gray = λ e e' gs xs n i h l k. behind (λ d g x. PaintIs gray (((1000 - i) * 65536 / 1000) ∷ []) d.fill_paint) e e' gs xs (draw gray_fill (n ∷ [])) (fill_after (PaintIs gray _) e gray_fill (n ∷ []) (gray_in e n i h l)) k;
  gray_above = λ e e' gs xs n i h l k. behind (λ d g x. d.fill_paint ≡ e.glyph_paint) e e' gs xs (draw gray_fill (n ∷ [])) (fill_after (λ p. p ≡ e.glyph_paint) e gray_fill (n ∷ []) (gray_above e n i h l)) k;
  gray_below = λ e e' gs xs n i h k. behind (λ d g x. d.fill_paint ≡ e.glyph_paint) e e' gs xs (draw gray_fill (n ∷ [])) (fill_after (λ p. p ≡ e.glyph_paint) e gray_fill (n ∷ []) (gray_below e n i h)) k;
  mounts = λ e e' gs xs n i m h l k. behind (λ d g x. mounted_at i d.mounts ≡ m) e e' gs xs (mount n m) (rw (shown_pos n i h).1 (get_or-set_same e.mounts i m [] l)) k;
  mounts_no_other = λ e e' gs xs n i j m h l k. behind (λ d g x. mounted_at j d.mounts ≡ mounted_at j e.mounts) e e' gs xs (mount n m) (rw (shown_pos n i h).1 (get_or-set_other e.mounts i j m [] l)) k;
  w_marks = λ e e' gs xs k. behind (λ d g x. d.gap ≡ 1) e e' gs xs space refl k;
  n_marks = λ e e' gs xs k. behind (λ d g x. d.gap ≡ 1) e e' gs xs break refl k;
  name_unmarks = λ e e' gs xs n k. behind (λ d g x. d.gap ≡ 0) e e' gs xs (glyph n) (unmarked e n) k;
  index_unmarks = λ e e' gs xs n i h k. behind (λ d g x. d.gap ≡ 0) e e' gs xs (index n) (index_unmarked e n i h) k;
}

-- ---- the end

colour_holds : (c : Paint) → ColourHolds c (colour_of c)
colour_holds c = record { scheme = go c.scheme; components = refl }
  where
    go : (s : Scheme) → scheme_letter s ≡ code (scheme_char s)
    go cmy = refl
    go default = refl
    go gray = refl
    go cmyk = refl
    go rgb = refl

pub ends_hold : AnswerHolds
ends_hold rs xs e = (
  _,
  refl,
  record { records = refl; entries = refl; pages = refl; h = refl; v = refl; glyph_colour = colour_holds e.glyph_paint; fill_colour = colour_holds e.fill_paint },
)
