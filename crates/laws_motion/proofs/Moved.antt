-- Motions over the integers.
use Rattle.std.specs.Prelude.{if◌then◌else◌}
use Prim.Native.Nat.{ℕ, zero, suc, ◌+◌, ◌*◌, ◌-◌, ◌<◌, ◌≤◌}
use native.Mathlib.Omega.{arith}
use native.Mathlib.Nat.{add-zero}
use mathlib.Core.Bool.{Bool, true, false, ◌&&◌}
use mathlib.Core.List.{List, [], ◌∷◌, map}
use mathlib.Core.Logic.{◌⊎◌, inl, inr}
use mathlib.Core.Option.{Option, none, some}
use mathlib.Core.Path.{◌≡◌, refl, sym, ap, ◌∙◌}
use lib.Dec.{leb, ltb}
use lib.IntN.{ℤ, pos, negsuc, nat_abs, ◌+ℤ◌}
use lib.ListN.{length}
use borrow.Author.Tests.{leb-true, leb-false, le-leb, lt-ltb, le-ltb, ltb-true, ltb-false}
use Rattle.rules.specs.Bytes.{origin, most, moved, near}
use Rattle.rules.specs.Act.{Axis, across, down, Shape, line, arc, circle, solid_circle, ellipse, solid_ellipse, polygon, solid_polygon, spline, thickness, gray_fill, colour_fill, Act, glyph, index, to, by, page, font, size, colour, break, space, draw, device, resolution, init, file, mount, plain, raw, stop}
use Rattle.rules.specs.Drawing.{Way, pairwise, way_of}
use Rattle.rules.specs.State.{Env, Glyph, Item, fits, plus, plus_all, fits_all, may_go, mounted_at, is_mounted, set_gap, with_font, recorded, indexed, Step, refused, went, due, effect, act}
use Rattle.rules.specs.Record.{shown}
use Rattle.laws.proofs.Cases.{on, no, and_left, and_right}
use Rattle.laws_motion.proofs.Steps.{is_refused, After, if_after, font_after, behind}
use Rattle.laws_motion.proofs.Integers.{abs_diff, sum_is, place_is, Sums, none_sums, more_sums, one_sums}
use Rattle.laws_motion.specs.Motions.{InLimit, Beyond, text_says, NumberTexts, odd_placed, even_placed, sum, EvenCount, Arguments, drawn_across, drawn_down, h_behind, v_behind, AsWritten, Inside, Outside, Motions, Refusal10}

-- ---- numbers

shown_above : (m : ℕ) → shown (origin + m) ≡ pos m
shown_above m = rw (le-ltb (origin + m) origin (omega arith)) (ap pos (omega arith))

shown_below : (m : ℕ) → m < origin → shown (origin - suc m) ≡ negsuc m
shown_below m h = rw (lt-ltb (origin - suc m) origin (omega arith)) (ap negsuc (omega arith))

stands_for : (b : Bool) (m : ℕ) → m ≤ 99_999_999 → shown (moved (record { neg = b; mag = m })) ≡ text_says (record { neg = b; mag = m })
stands_for false m h = shown_above m
stands_for true zero h = refl
stands_for true (suc m) h = shown_below m (omega arith)

near_bounds : (n : ℕ) → near n ≡ true → (1 ≤ n) × (n ≤ 199_999_999)
near_bounds n h = (leb-true (origin - most) n (and_left (leb (origin - most) n) (leb n (origin + most)) h), leb-true n (origin + most) (and_right (leb (origin - most) n) (leb n (origin + most)) h))

bounds_near : (n : ℕ) → 1 ≤ n → n ≤ 199_999_999 → near n ≡ true
bounds_near n l g = rw (le-leb (origin - most) n l, le-leb n (origin + most) g)

limit : (b : Bool) (m : ℕ) → near (moved (record { neg = b; mag = m })) ≡ true → m ≤ 99_999_999
limit true m h = omega (arith, (near_bounds (origin - m) h).0)
limit false m h = omega (arith, (near_bounds (origin + m) h).1)

limit_met : (b : Bool) (m : ℕ) → m ≤ 99_999_999 → near (moved (record { neg = b; mag = m })) ≡ true
limit_met true m h = bounds_near (origin - m) (omega arith) (omega arith)
limit_met false m h = bounds_near (origin + m) (omega arith) (omega arith)

near_is : (n : ℕ) → near n ≡ true → InLimit (shown n)
near_is n h = let b : (1 ≤ n) × (n ≤ 199_999_999) = near_bounds n h in rw (abs_diff n origin) (omega (arith, b.0, b.1))

near_of : (n : ℕ) → InLimit (shown n) → near n ≡ true
near_of n h = let g : (n - origin) + (origin - n) ≤ 99_999_999 = rw (abs_diff n origin) at h in bounds_near n (omega arith) (omega arith)

pub numbers_hold : NumberTexts
numbers_hold = record {
  stands_for = λ n h. stands_for n.neg n.mag h;
  minus_0 = λ n h. go n.neg n.mag h;
  limit = λ n h. limit n.neg n.mag h;
  limit_met = λ n h. limit_met n.neg n.mag h;
  near_is = near_is;
  near_of = near_of;
}
  where
    go : (b : Bool) (m : ℕ) → m ≡ 0 → shown (moved (record { neg = b; mag = m })) ≡ pos 0
    go true m h = rw h
    go false m h = rw h

-- ---- the tests of refusal 10, as bounds

both : (a b c d : ℕ) → (ltb a b && ltb c d) ≡ true → (a < b) × (c < d)
both a b c d h = (ltb-true a b (and_left (ltb a b) (ltb c d) h), ltb-true c d (and_right (ltb a b) (ltb c d) h))

one_not : (a b c d : ℕ) → (ltb a b && ltb c d) ≡ false → (b ≤ a) ⊎ (d ≤ c)
one_not a b c d h =
    on (ltb a b) (λ l. on (ltb c d) (λ g. no (sym (rw (l, g) at h))) (λ g. inr (ltb-false c d g))) (λ l. inl (ltb-false a b l))

fits_says : (x n : ℕ) → fits x n ≡ true → (100_000_000 < x + n) × (x + n < 300_000_000)
fits_says x n f = both origin (x + n) (x + n) (3 * origin) f

fits_denies : (x n : ℕ) → fits x n ≡ false → (x + n ≤ 100_000_000) ⊎ (300_000_000 ≤ x + n)
fits_denies x n f = one_not origin (x + n) (x + n) (3 * origin) f

fits_all_says : (k x n : ℕ) → fits_all k x n ≡ true → (k * 100_000_000 < x + n) × (x + n < k * 100_000_000 + 200_000_000)
fits_all_says k x n f = both (k * origin) (x + n) (x + n) (k * origin + 2 * origin) f

fits_all_denies : (k x n : ℕ) → fits_all k x n ≡ false → (x + n ≤ k * 100_000_000) ⊎ (k * 100_000_000 + 200_000_000 ≤ x + n)
fits_all_denies k x n f = one_not (k * origin) (x + n) (x + n) (k * origin + 2 * origin) f

-- ---- a place and a sum of k numbers: where it is, and when it is within the limit

module _ (k x n : ℕ) (s : ℤ) (h : Sums k n s) where
  sum_abs : nat_abs (shown x +ℤ s) ≡ (x + n - (k * origin + origin)) + (k * origin + origin - (x + n))
  sum_abs = ap nat_abs (sum_is origin (k * origin) x n s h) ∙ abs_diff (x + n) (k * origin + origin)

  place_at : k * origin < x + n → shown (x + n - k * origin) ≡ shown x +ℤ s
  place_at l = place_is origin (k * origin) x n s h (omega arith)

  within_at : (k * origin < x + n) × (x + n < k * origin + 2 * origin) → InLimit (shown x +ℤ s)
  within_at b = rw sum_abs (omega (arith, b.0, b.1))

  beyond_at : (x + n ≤ k * origin) ⊎ (k * origin + 2 * origin ≤ x + n) → Beyond (shown x +ℤ s)
  beyond_at (inl l) = rw sum_abs (omega arith)
  beyond_at (inr g) = rw sum_abs (omega arith)

  all_place : fits_all k x n ≡ true → shown (plus_all k x n) ≡ shown x +ℤ s
  all_place f = place_at (fits_all_says k x n f).0

  all_in : fits_all k x n ≡ true → InLimit (shown x +ℤ s)
  all_in f = within_at (fits_all_says k x n f)

  all_not : fits_all k x n ≡ false → Beyond (shown x +ℤ s)
  all_not f = beyond_at (fits_all_denies k x n f)

-- a single number
module _ (x n : ℕ) where
  by_sums : Sums 1 n (shown n)
  by_sums = ap pos (sym (add-zero n)) ∙ one_sums n

  pub by_place : fits x n ≡ true → shown (plus x n) ≡ shown x +ℤ shown n
  by_place f = place_at 1 x n (shown n) by_sums (fits_says x n f).0

  pub by_in : fits x n ≡ true → InLimit (shown x +ℤ shown n)
  by_in f = within_at 1 x n (shown n) by_sums (fits_says x n f)

  pub by_not : fits x n ≡ false → Beyond (shown x +ℤ shown n)
  by_not f = beyond_at 1 x n (shown n) by_sums (fits_denies x n f)

-- ---- how far a drawing goes

-- both sums of a way, as integers
abbrev Goes : Way → ℤ → ℤ → Type 0
Goes d x y = Sums d.terms d.dh x × Sums d.terms d.dv y

pairs_go : (ns : List ℕ) → EvenCount ns → Goes (pairwise ns) (sum (odd_placed (map shown ns))) (sum (even_placed (map shown ns)))
pairs_go [] h = (none_sums, none_sums)
pairs_go (x ∷ []) h = absurd h
pairs_go (x ∷ y ∷ r) h =
    let g : Goes (pairwise r) (sum (odd_placed (map shown r))) (sum (even_placed (map shown r))) = pairs_go r h in
    (more_sums (pairwise r).terms x (pairwise r).dh _ g.0, more_sums (pairwise r).terms y (pairwise r).dv _ g.1)

line_goes : (ns : List ℕ) → length ns ≡ 2 → Goes (way_of line ns) (drawn_across line (map shown ns)) (drawn_down line (map shown ns))
line_goes [] h = absurd (omega arith)
line_goes (x ∷ []) h = absurd (omega arith)
line_goes (x ∷ y ∷ []) h = (one_sums x, one_sums y)
line_goes (x ∷ y ∷ z ∷ r) h = absurd (omega arith)

arc-goes : (ns : List ℕ) → length ns ≡ 4 → Goes (way_of arc ns) (drawn_across arc (map shown ns)) (drawn_down arc (map shown ns))
arc-goes [] h = absurd (omega arith)
arc-goes (x ∷ []) h = absurd (omega arith)
arc-goes (x ∷ y ∷ []) h = absurd (omega arith)
arc-goes (x ∷ y ∷ z ∷ []) h = absurd (omega arith)
arc-goes (x ∷ y ∷ z ∷ w ∷ []) h = (more_sums 1 x (z + 0) (shown z) (one_sums z), more_sums 1 y (w + 0) (shown w) (one_sums w))
arc-goes (x ∷ y ∷ z ∷ w ∷ u ∷ r) h = absurd (omega arith)

circle-goes : (ns : List ℕ) → length ns ≡ 1 → Goes (way_of circle ns) (drawn_across circle (map shown ns)) (drawn_down circle (map shown ns))
circle-goes [] h = absurd (omega arith)
circle-goes (x ∷ []) h = (one_sums x, refl)
circle-goes (x ∷ y ∷ r) h = absurd (omega arith)

ellipse-goes : (ns : List ℕ) → length ns ≡ 2 → Goes (way_of ellipse ns) (drawn_across ellipse (map shown ns)) (drawn_down ellipse (map shown ns))
ellipse-goes [] h = absurd (omega arith)
ellipse-goes (x ∷ []) h = absurd (omega arith)
ellipse-goes (x ∷ y ∷ []) h = (one_sums x, refl)
ellipse-goes (x ∷ y ∷ z ∷ r) h = absurd (omega arith)

drawing-goes : (s : Shape) (ns : List ℕ) → Arguments s ns → Goes (way_of s ns) (drawn_across s (map shown ns)) (drawn_down s (map shown ns))
drawing-goes line ns h = line_goes ns h
drawing-goes arc ns h = arc-goes ns h
drawing-goes circle ns h = circle-goes ns h
drawing-goes solid_circle ns h = circle-goes ns h
drawing-goes ellipse ns h = ellipse-goes ns h
drawing-goes solid_ellipse ns h = ellipse-goes ns h
drawing-goes polygon ns h = pairs_go ns h
drawing-goes solid_polygon ns h = pairs_go ns h
drawing-goes spline ns h = pairs_go ns h
drawing-goes thickness ns h = circle-goes ns h
drawing-goes gray_fill ns h = (none_sums, none_sums)
drawing-goes (colour_fill c) ns h = (none_sums, none_sums)

-- h and v behind an act are those of the tables
abbrev AtH : Env → Act → Step → Type 0
AtH e a = After (λ d gs xs. shown d.spot.h ≡ h_behind a (shown e.spot.h))

abbrev AtV : Env → Act → Step → Type 0
AtV e a = After (λ d gs xs. shown d.spot.v ≡ v_behind a (shown e.spot.v))

by_h : (e : Env) (x : Axis) (n : ℕ) → AtH e (by x n) (effect e (by x n))
by_h e across n = if_after _ (fits e.spot.h n) _ 10 (λ f. by_place e.spot.h n f)
by_h e down n = if_after _ (fits e.spot.v n) _ 10 (λ f. refl)

by_v : (e : Env) (x : Axis) (n : ℕ) → AtV e (by x n) (effect e (by x n))
by_v e across n = if_after _ (fits e.spot.h n) _ 10 (λ f. refl)
by_v e down n = if_after _ (fits e.spot.v n) _ 10 (λ f. by_place e.spot.v n f)

to_h : (e : Env) (x : Axis) (n : ℕ) → AtH e (to x n) (effect e (to x n))
to_h e across n = refl
to_h e down n = refl

to_v : (e : Env) (x : Axis) (n : ℕ) → AtV e (to x n) (effect e (to x n))
to_v e across n = refl
to_v e down n = refl

-- a drawing may go where both h and v may
may_h : (e : Env) (d : Way) → may_go e.spot d ≡ true → fits_all d.terms e.spot.h d.dh ≡ true
may_h e d h = and_left (fits_all d.terms e.spot.h d.dh) (fits_all d.terms e.spot.v d.dv) h

may_v : (e : Env) (d : Way) → may_go e.spot d ≡ true → fits_all d.terms e.spot.v d.dv ≡ true
may_v e d h = and_right (fits_all d.terms e.spot.h d.dh) (fits_all d.terms e.spot.v d.dv) h

draw_h : (e : Env) (s : Shape) (ns : List ℕ) → Arguments s ns → AtH e (draw s ns) (effect e (draw s ns))
draw_h e s ns h = if_after _ (may_go e.spot (way_of s ns)) _ 10 (λ f. all_place (way_of s ns).terms e.spot.h (way_of s ns).dh _ (drawing-goes s ns h).0 (may_h e (way_of s ns) f))

draw_v : (e : Env) (s : Shape) (ns : List ℕ) → Arguments s ns → AtV e (draw s ns) (effect e (draw s ns))
draw_v e s ns h = if_after _ (may_go e.spot (way_of s ns)) _ 10 (λ f. all_place (way_of s ns).terms e.spot.v (way_of s ns).dv _ (drawing-goes s ns h).1 (may_v e (way_of s ns) f))

-- an act that stays where it is
pub index_stays : (P : Env → List Glyph → List Item → Type 0) (e : Env) (n f : ℕ) → ((g : ℕ) (gs : List Glyph) → P (set_gap e g) gs []) → After P (indexed e n f)
index_stays P e n f h = on (ltb n origin) (λ k. rw k (h 1 [])) (λ k. rw k (h 0 _))

effect_h : (e : Env) (a : Act) → AsWritten a → AtH e a (effect e a)
effect_h e (glyph n) h = font_after _ e (recorded e n 0) e.font refl (λ f k. refl)
effect_h e (index n) h = font_after _ e (indexed e n) e.font refl (λ f k. index_stays _ e n f (λ g gs. refl))
effect_h e (to x n) h = to_h e x n
effect_h e (by x n) h = by_h e x n
effect_h e (page n) h = refl
effect_h e (font n) h = if_after _ (is_mounted (mounted_at (n - origin) e.mounts)) _ 8 (λ k. refl)
effect_h e (size n) h = refl
effect_h e (colour c ns) h = refl
effect_h e break h = refl
effect_h e space h = refl
effect_h e (draw s ns) h = draw_h e s ns h
effect_h e (device n) h = refl
effect_h e (resolution n m v) h = refl
effect_h e init h = refl
effect_h e (file n) h = refl
effect_h e (mount n m) h = refl
effect_h e (plain c ns) h = refl
effect_h e (raw t) h = refl
effect_h e stop h = refl

effect_v : (e : Env) (a : Act) → AsWritten a → AtV e a (effect e a)
effect_v e (glyph n) h = font_after _ e (recorded e n 0) e.font refl (λ f k. refl)
effect_v e (index n) h = font_after _ e (indexed e n) e.font refl (λ f k. index_stays _ e n f (λ g gs. refl))
effect_v e (to x n) h = to_v e x n
effect_v e (by x n) h = by_v e x n
effect_v e (page n) h = refl
effect_v e (font n) h = if_after _ (is_mounted (mounted_at (n - origin) e.mounts)) _ 8 (λ k. refl)
effect_v e (size n) h = refl
effect_v e (colour c ns) h = refl
effect_v e break h = refl
effect_v e space h = refl
effect_v e (draw s ns) h = draw_v e s ns h
effect_v e (device n) h = refl
effect_v e (resolution n m v) h = refl
effect_v e init h = refl
effect_v e (file n) h = refl
effect_v e (mount n m) h = refl
effect_v e (plain c ns) h = refl
effect_v e (raw t) h = refl
effect_v e stop h = refl

pub motions_hold : Motions
motions_hold = record {
  h = λ e e' gs xs a h k. behind (λ d g x. shown d.spot.h ≡ h_behind a (shown e.spot.h)) e e' gs xs a (effect_h e a h) k;
  v = λ e e' gs xs a h k. behind (λ d g x. shown d.spot.v ≡ v_behind a (shown e.spot.v)) e e' gs xs a (effect_v e a h) k;
}

-- ---- refusal 10

pub clash : (z : ℤ) → InLimit z → Beyond z → ⊥
clash z h k = omega arith

either : (z : ℤ) → InLimit z ⊎ Beyond z
either z = on (leb (nat_abs z) 99_999_999) (λ h. inl (leb-true (nat_abs z) 99_999_999 h)) (λ h. inr (leb-false (nat_abs z) 99_999_999 h))

-- no place is beyond the limit
neither : (y z : ℤ) → InLimit y → InLimit z → Beyond y ⊎ Beyond z → ⊥
neither y z h k (inl b) = clash y h b
neither y z h k (inr b) = clash z k b

module _ (e : Env) (i : Inside e) where
  -- an act that may stand here and would end beyond the limit is refused with 10
  to_given : (x : Axis) (n : ℕ) → InLimit (shown n) → Outside e (to x n) → effect e (to x n) ≡ refused 10
  to_given across n h o = absurd (neither (shown n) (shown e.spot.v) h i.1 o)
  to_given down n h o = absurd (neither (shown e.spot.h) (shown n) i.0 h o)

  by_given : (x : Axis) (n : ℕ) → Outside e (by x n) → effect e (by x n) ≡ refused 10
  by_given across n o =
      on (fits e.spot.h n)
      (λ f. absurd (neither (shown e.spot.h +ℤ shown n) (shown e.spot.v) (by_in e.spot.h n f) i.1 o)) (λ f. rw f)
  by_given down n o =
      on (fits e.spot.v n)
      (λ f. absurd (neither (shown e.spot.h) (shown e.spot.v +ℤ shown n) i.0 (by_in e.spot.v n f) o)) (λ f. rw f)

  draw_given : (s : Shape) (ns : List ℕ) → Arguments s ns → Outside e (draw s ns) → effect e (draw s ns) ≡ refused 10
  draw_given s ns h o =
      let d : Way = way_of s ns in
      let y : ℤ = drawn_across s (map shown ns) in
      let z : ℤ = drawn_down s (map shown ns) in
      let g : Goes d y z = drawing-goes s ns h in
      on (may_go e.spot (way_of s ns))
      (λ f. absurd (neither (shown e.spot.h +ℤ y) (shown e.spot.v +ℤ z)
      (all_in d.terms e.spot.h d.dh y g.0 (may_h e d f)) (all_in d.terms e.spot.v d.dv z g.1 (may_v e d f)) o))
      (λ f. rw f)

  stays : Beyond (shown e.spot.h) ⊎ Beyond (shown e.spot.v) → ⊥
  stays o = neither (shown e.spot.h) (shown e.spot.v) i.0 i.1 o

  effect_given : (a : Act) → AsWritten a → Outside e a → effect e a ≡ refused 10
  effect_given (glyph n) h o = absurd (stays o)
  effect_given (index n) h o = absurd (stays o)
  effect_given (to x n) h o = to_given x n h o
  effect_given (by x n) h o = by_given x n o
  effect_given (page n) h o = absurd (neither (shown e.spot.h) (pos 0) i.0 (omega arith) o)
  effect_given (font n) h o = absurd (stays o)
  effect_given (size n) h o = absurd (stays o)
  effect_given (colour c ns) h o = absurd (stays o)
  effect_given break h o = absurd (stays o)
  effect_given space h o = absurd (stays o)
  effect_given (draw s ns) h o = draw_given s ns h o
  effect_given (device n) h o = absurd (stays o)
  effect_given (resolution n m v) h o = absurd (stays o)
  effect_given init h o = absurd (stays o)
  effect_given (file n) h o = absurd (stays o)
  effect_given (mount n m) h o = absurd (stays o)
  effect_given (plain c ns) h o = absurd (stays o)
  effect_given (raw t) h o = absurd (stays o)
  effect_given stop h o = absurd (stays o)

  given : (a : Act) → AsWritten a → due e a ≡ true → Outside e a → act e a ≡ refused 10
  unfolding act
  given a h d o = rw d (effect_given a h o)

-- ---- and only there

-- where the number is 10, P holds
abbrev Only : Type 0 → Step → Type 0
Only P (refused n) = n ≡ 10 → P
Only P (went e gs xs) = Unit {0}

module _ (P : Type 0) where
  if_only : (b : Bool) (x : Step) (n : ℕ) → Only P x → (b ≡ false → n ≡ 10 → P) → Only P (if b then x else refused n)
  if_only true x n h k = h
  if_only false x n h k = k refl

  font_only : (e : Env) (go : ℕ → Step) (o : Option ℕ) → ((f : ℕ) → Only P (go f)) → Only P (with_font e go o)
  font_only e go none h = λ q. absurd (omega arith)
  font_only e go (some f) h = if_only (ltb 0 e.size) (go f) 8 (h f) (λ t q. absurd (omega arith))

  index_only : (e : Env) (n f : ℕ) → Only P (indexed e n f)
  index_only e n f = on (ltb n origin) (λ k. rw k tt) (λ k. rw k tt)

by_only : (e : Env) (x : Axis) (n : ℕ) → Only (Outside e (by x n)) (effect e (by x n))
by_only e across n = if_only _ (fits e.spot.h n) _ 10 tt (λ f q. inl (by_not e.spot.h n f))
by_only e down n = if_only _ (fits e.spot.v n) _ 10 tt (λ f q. inr (by_not e.spot.v n f))

draw_only : (e : Env) (s : Shape) (ns : List ℕ) → Arguments s ns → Only (Outside e (draw s ns)) (effect e (draw s ns))
draw_only e s ns h =
    let d : Way = way_of s ns in
    let y : ℤ = drawn_across s (map shown ns) in
    let z : ℤ = drawn_down s (map shown ns) in
    let g : Goes d y z = drawing-goes s ns h in
    if_only _ (may_go e.spot (way_of s ns)) _ 10 tt
    (λ f q. on (fits_all d.terms e.spot.h d.dh)
    (λ k. inr (all_not d.terms e.spot.v d.dv z g.1 (rw k at f))) (λ k. inl (all_not d.terms e.spot.h d.dh y g.0 k)))

effect_only : (e : Env) (a : Act) → AsWritten a → Only (Outside e a) (effect e a)
effect_only e (glyph n) h = font_only _ e (recorded e n 0) e.font (λ f. tt)
effect_only e (index n) h = font_only _ e (indexed e n) e.font (λ f. index_only _ e n f)
effect_only e (to x n) h = tt
effect_only e (by x n) h = by_only e x n
effect_only e (page n) h = tt
effect_only e (font n) h = if_only _ (is_mounted (mounted_at (n - origin) e.mounts)) _ 8 tt (λ t q. absurd (omega arith))
effect_only e (size n) h = tt
effect_only e (colour c ns) h = tt
effect_only e break h = tt
effect_only e space h = tt
effect_only e (draw s ns) h = draw_only e s ns h
effect_only e (device n) h = tt
effect_only e (resolution n m v) h = tt
effect_only e init h = tt
effect_only e (file n) h = tt
effect_only e (mount n m) h = tt
effect_only e (plain c ns) h = tt
effect_only e (raw t) h = tt
effect_only e stop h = tt

act_only : (e : Env) (a : Act) → AsWritten a → Only (Outside e a) (act e a)
unfolding act
act_only e a h = if_only _ (due e a) (effect e a) 7 (effect_only e a h) (λ t q. absurd (omega arith))

only : (e : Env) (a : Act) → AsWritten a → act e a ≡ refused 10 → Outside e a
only e a h k = let o : Only (Outside e a) (refused 10) = rw k at (act_only e a h) in o refl

-- ---- so every place is within the limit

-- what was not refused was due
was_due : (e e' : Env) (gs : List Glyph) (xs : List Item) (a : Act) → act e a ≡ went e' gs xs → due e a ≡ true
unfolding act
was_due e e' gs xs a k = on (due e a) (λ d. d) (λ d. no (sym (ap is_refused (rw d at k))))

keeps : (e e' : Env) (gs : List Glyph) (xs : List Item) (a : Act) → AsWritten a → Inside e → act e a ≡ went e' gs xs → Inside e'
keeps e e' gs xs a h i k = (rw (motions_hold.h e e' gs xs a h k) (go (h_behind a (shown e.spot.h)) (λ b. inl b)), rw (motions_hold.v e e' gs xs a h k) (go (v_behind a (shown e.spot.v)) (λ b. inr b)))
  where
    inside : (z : ℤ) → (Beyond z → Outside e a) → InLimit z ⊎ Beyond z → InLimit z
    inside z f (inl l) = l
    inside z f (inr b) = no (sym (ap is_refused (sym (given e i a h (was_due e e' gs xs a k) (f b)) ∙ k)))

    go : (z : ℤ) → (Beyond z → Outside e a) → InLimit z
    go z f = inside z f (either z)

pub refusal_10 : Refusal10
refusal_10 = record {
  given = λ e a h i d o. given e i a h d o;
  only = λ e a h i k. only e a h k;
  keeps = keeps;
}
