-- The limits of what a sound width list says, for whoever computes with it.
use Prim.Native.Nat.{ℕ, ◌≤◌}
use mathlib.Core.Path.{◌≡◌, refl, subst}
use mathlib.Core.Bool.{◌&&◌}
use mathlib.Core.List.{List, [], ◌∷◌}
use mathlib.Core.Option.{Option, none, some}
use native.Mathlib.Omega.{arith}
use borrow.Author.Tests.{leb-true, ltb-true}
use lib.Dec.{eqb, leb, ltb}
use lib.ListN.{length}
use Rattle.rules.specs.Bytes.{bytes}
use Rattle.rules.specs.Widths.{Line, Width, Font, Widths, Due, unit_due, block_due, width_due, LineRead, wrong_line, right_line, behind, numbered, is_list_name, is_new, may_follow, add_width, unit_line, byte_line, font_line, width_line, block_line, line_says, line_read, line_on, list_ends, lines_from, lines_say, WidthList, unsound, sound, width_list, width_in}
use Rattle.widths_table.specs.Table.{font_at, entry_for}
use Rattle.laws.proofs.Cases.{on, if_both, if_on, and_left, and_right}

abbrev SmallIn : List Width → Type 0
SmallIn [] = Unit {0}
SmallIn (p ∷ ps) = (p.width ≤ 100000) × SmallIn ps

abbrev SmallOf : List Font → Type 0
SmallOf [] = Unit {0}
SmallOf (f ∷ fs) = SmallIn f.widths × SmallOf fs

abbrev Sane : Widths → Type 0
Sane w = (1 ≤ w.unitwidth) × (w.unitwidth ≤ 100000) × (length w.fonts ≤ 32) × SmallOf w.fonts

abbrev SaneAt : Due → Widths → Type 0
SaneAt unit_due w = Unit {0}
SaneAt block_due w = Sane w
SaneAt (width_due b) w = Sane w

abbrev SaneRead : LineRead → Type 0
SaneRead wrong_line = Unit {0}
SaneRead (right_line d w) = SaneAt d w

unit_sane : (o : Option ℕ) → SaneRead (unit_line o)
unit_sane none = tt
unit_sane (some n) =
    if_on SaneRead (leb 1 n && leb n 100000) _ _
    (λ e. (leb-true 1 n (and_left (leb 1 n) (leb n 100000) e), leb-true n 100000 (and_right (leb 1 n) (leb n 100000) e), omega arith, tt)) (λ e. tt)

font_sane : (w : Widths) (n : List ℕ) → Sane w → SaneRead (font_line w n)
font_sane w n s =
    if_on SaneRead (is_list_name n && (ltb (length w.fonts) 32 && is_new n w.fonts)) _ _
    (λ e.
    let k = ltb-true (length w.fonts) 32 (and_left (ltb (length w.fonts) 32) (is_new n w.fonts) (and_right (is_list_name n) _ e)) in
    (s.0, s.1, omega arith, (tt, s.3)))
    (λ e. tt)

byte_sane : (w : Widths) (o : Option ℕ) → Sane w → SaneRead (byte_line w o)
byte_sane w none s = tt
byte_sane w (some b) s = if_both SaneRead (may_follow b w.fonts) _ _ s tt

block_sane : (w : Widths) (t : List ℕ) (o : Option (List ℕ)) → Sane w → SaneRead (block_line w t o)
block_sane w t none s = byte_sane w (numbered (behind (bytes "byte=") t)) s
block_sane w t (some n) s = font_sane w n s

add_length : (b n : ℕ) (fs : List Font) → length (add_width b n fs) ≡ length fs
add_length b n [] = refl
add_length b n (f ∷ fs) = refl

add_small : (b n : ℕ) (fs : List Font) → n ≤ 100000 → SmallOf fs → SmallOf (add_width b n fs)
add_small b n [] h s = tt
add_small b n (f ∷ fs) h s = ((h, s.0), s.1)

width_sane : (w : Widths) (b : ℕ) (o : Option ℕ) → Sane w → SaneRead (width_line w b o)
width_sane w b none s = tt
width_sane w b (some n) s =
    if_on SaneRead (leb n 100000) _ _
    (λ e. (s.0, s.1, rw (add_length b n w.fonts) s.2, add_small b n w.fonts (leb-true n 100000 e) s.3)) (λ e. tt)

says_sane : (w : Widths) (t : List ℕ) (d : Due) → SaneAt d w → SaneRead (line_says w t d)
says_sane w t unit_due s = unit_sane (numbered (behind (bytes "unitwidth=") t))
says_sane w t block_due s = block_sane w t (behind (bytes "font=") t) s
says_sane w t (width_due b) s = width_sane w b (numbered (behind (bytes "width=") t)) s

abbrev SaneList : WidthList → Type 0
SaneList (unsound at) = Unit {0}
SaneList (sound w) = Sane w

ends_sane : (n : ℕ) (w : Widths) (d : Due) → SaneAt d w → SaneList (list_ends n w d)
ends_sane n w unit_due s = tt
ends_sane n w block_due s = s
ends_sane n w (width_due b) s = tt

on_sane : (at : ℕ) (go : Due → Widths → WidthList) (x : LineRead) → SaneRead x → ((d : Due) (w : Widths) → SaneAt d w → SaneList (go d w)) → SaneList (line_on at go x)
on_sane at go wrong_line s f = tt
on_sane at go (right_line d w) s f = f d w s

lines_sane : (n : ℕ) (ls : List Line) (w : Widths) (d : Due) → SaneAt d w → SaneList (lines_say n w d ls)
unfolding lines_say
lines_sane n [] w d s = ends_sane n w d s
lines_sane n (l ∷ ls) w d s =
    on_sane l.place (λ d' w'. lines_say n w' d' ls) (line_read w d l) (if_both SaneRead l.ended _ _ (says_sane w l.text d s) tt)
    (λ d' w' s'. lines_sane n ls w' d' s')

list_sane : (t : List ℕ) → SaneList (width_list t)
unfolding width_list
list_sane t = lines_sane (length t) (lines_from 0 t) (record { unitwidth = 0; fonts = [] }) unit_due tt

small_in : (b k : ℕ) (ws : List Width) → SmallIn ws → width_in b ws ≡ some k → k ≤ 100000
unfolding width_in
small_in b k [] s e = absurd (let z : ◌≡◌ {A = ℕ} 0 1 = cc in omega arith)
small_in b k (p ∷ ps) s e =
    on (eqb p.byte b)
    (λ q.
    let f : p.width ≡ k = cc (rw q at e) in
    omega (arith, s.0))
    (λ q. small_in b k ps s.1 (rw q at e))

small_at : (i : ℕ) (fs : List Font) → SmallOf fs → SmallIn (font_at i fs).widths
unfolding font_at
small_at i [] s = tt
small_at i (f ∷ fs) s = if_both (λ (g : Font). SmallIn g.widths) (eqb (length fs) i) f (font_at i fs) s.0 (small_at i fs s.1)

entry_least : (b : ℕ) (ws : List Width) (o : Option ℕ) → SmallIn ws → width_in b ws ≡ o → entry_for o ≤ 100001
entry_least b ws none s e = omega arith
entry_least b ws (some k) s e = omega (arith, small_in b k ws s e)

module _ (t : List ℕ) (w : Widths) (e : width_list t ≡ sound w) where
  sane : Sane w
  sane = subst SaneList e (list_sane t)

  pub sound_unit : (1 ≤ w.unitwidth) × (w.unitwidth ≤ 100000)
  sound_unit = (sane.0, sane.1)

  pub sound_few : length w.fonts ≤ 32
  sound_few = sane.2

  -- what the table holds for a byte of a font
  pub sound_entry : (i b : ℕ) → entry_for (width_in b (font_at i w.fonts).widths) ≤ 100001
  sound_entry i b = entry_least b (font_at i w.fonts).widths (width_in b (font_at i w.fonts).widths) (small_at i w.fonts sane.3) refl
