-- A word, glyph by glyph.
use Rattle.std.specs.Prelude.{IsSome}
use Prim.Native.Nat.{ℕ, zero, suc, ◌+◌, ◌-◌, ◌≤◌, ◌<◌}
use native.Mathlib.Omega.{arith}
use mathlib.Core.List.{List, [], ◌∷◌, ◌++◌, append_assoc}
use mathlib.Core.Path.{◌≡◌, refl, sym, ap, ◌∙◌}
use lib.ListN.{get_or}
use Rattle.read_model.specs.declared.Environment.{Environment}
use Rattle.read_model.specs.declared.Word.{Word}
use Rattle.read_model.specs.Words.{word_next, word_here, word_end}
use Rattle.read_model.specs.Turns.{block_now}
use Rattle.read_word.specs.declared.Spelt.{Spelt}
use Rattle.read_word.specs.Bounds.{Small, Tracked, WordFits, Goes}
use Rattle.read_word.specs.Parts.{spelt_of}
use Rattle.read_word.proofs.Spelling.{goes_on, goes-fits}
use Rattle.respell_model.specs.declared.Pen.{Pen}
use Rattle.respell_model.specs.Sheet.{Sheet, put_all}
use Rattle.respell_model.specs.Command.{moves_to, word_lines, word_pen_h, word_pen_v, word_for}
use Rattle.respell_model.proofs.Sheets.{put_all-append}
use Rattle.respell_bytes.proofs.Putting.{sheet}

-- ---- the rest of a word

lines_none : (s ws : List ℕ) (ph pv : ℕ) (d : Word) (x : Sheet) → put_all (word_lines 0 s ws ph pv d) x ≡ x
unfolding put_all word_lines
lines_none s ws ph pv d x = refl

lines_next : (s ws : List ℕ) (n ph pv : ℕ) (d : Word) (x : Sheet)
    → put_all (word_lines (suc n) s ws ph pv d) x ≡ put_all (word_lines n s ws d.h d.v (word_next s ws d)) (put_all (moves_to ph pv d.h d.v ++ 99 ∷ 32 ∷ get_or s d.at 0 ∷ 10 ∷ []) x)
unfolding word_lines
lines_next s ws n ph pv d x =
    ap (λ (t : List ℕ). put_all t x) (sym (append_assoc (moves_to ph pv d.h d.v) (99 ∷ 32 ∷ get_or s d.at 0 ∷ 10 ∷ []) (word_lines n s ws d.h d.v (word_next s ws d))))
    ∙ put_all-append (moves_to ph pv d.h d.v ++ 99 ∷ 32 ∷ get_or s d.at 0 ∷ 10 ∷ []) (word_lines n s ws d.h d.v (word_next s ws d)) x

across_none : (s ws : List ℕ) (ph : ℕ) (d : Word) → word_pen_h 0 s ws ph d ≡ ph
unfolding word_pen_h
across_none s ws ph d = refl

across-next : (s ws : List ℕ) (n ph : ℕ) (d : Word) → word_pen_h (suc n) s ws ph d ≡ word_pen_h n s ws d.h (word_next s ws d)
unfolding word_pen_h
across-next s ws n ph d = refl

down-next : (s ws : List ℕ) (n pv : ℕ) (d : Word) → word_pen_v (suc n) pv d ≡ word_pen_v n d.v (word_next s ws d)
down-next s ws zero pv d = refl
down-next s ws (suc n) pv d = refl

-- d is what is left of the word w; a reader is where m says
pub record Lettering (s ws o₀ : List ℕ) (at₀ : ℕ) (m₀ : Pen) (w : Word) (o : List ℕ) (at : ℕ) (m : Pen) (d : Word) : Type 0 where
  pub whole : put_all (word_lines w.left s ws m₀.h m₀.v w) (sheet o₀ at₀) ≡ put_all (word_lines d.left s ws m.h m.v d) (sheet o at)
  pub across : word_pen_h w.left s ws m₀.h w ≡ word_pen_h d.left s ws m.h d
  pub down : word_pen_v w.left m₀.v w ≡ word_pen_v d.left m.v d
  pub fits : WordFits d
  pub ends : IsSome (word_end d.left s ws d)

pub letters-start : (s ws o : List ℕ) (at : ℕ) (m : Pen) (w : Word) → WordFits w → IsSome (word_end w.left s ws w) → Lettering s ws o at m w o at m w
letters-start s ws o at m w f e = record { whole = refl; across = refl; down = refl; fits = f; ends = e }

module _ (s ws o₀ : List ℕ) (at₀ : ℕ) (m₀ : Pen) (w : Word) (o : List ℕ) (at : ℕ) (m : Pen) (d : Word) (v : Lettering s ws o₀ at₀ m₀ w o at m d) where
  pub letters_fit : WordFits d
  letters_fit = v.fits

  pub letters_go : 0 < d.left → Goes s ws d
  letters_go l = (goes_on s ws d l v.ends).0

  module _ (l : 0 < d.left) (x : Spelt) (g : x ≡ spelt_of s ws d) where
    some : d.left ≡ suc (d.left - 1)
    some = omega arith

    pub letters-next : (p : List ℕ) (r b : ℕ) → b ≡ get_or s d.at 0 → sheet p r ≡ put_all (moves_to m.h m.v d.h d.v ++ 99 ∷ 32 ∷ b ∷ 10 ∷ []) (sheet o at) → Lettering s ws o₀ at₀ m₀ w p r (record { h = d.h; v = d.v }) x.next
    letters-next p r b e f =
        rw g record {
          whole = v.whole ∙ ap (λ (j : ℕ). put_all (word_lines j s ws m.h m.v d) (sheet o at)) some ∙ lines_next s ws (d.left - 1) m.h m.v d (sheet o at) ∙ rw (← e, ← f);
          across = v.across ∙ ap (λ (j : ℕ). word_pen_h j s ws m.h d) some ∙ across-next s ws (d.left - 1) m.h d;
          down = v.down ∙ ap (λ (j : ℕ). word_pen_v j m.v d) some ∙ down-next s ws (d.left - 1) m.v d;
          fits = goes-fits s ws d v.fits (letters_go l);
          ends = (goes_on s ws d l v.ends).1;
        }

  module _ (h : d.left ≤ 0) where
    none : d.left ≡ 0
    none = omega arith

    pub letters_sheet : sheet o at ≡ put_all (word_lines w.left s ws m₀.h m₀.v w) (sheet o₀ at₀)
    letters_sheet = sym (v.whole ∙ ap (λ (j : ℕ). put_all (word_lines j s ws m.h m.v d) (sheet o at)) none ∙ lines_none s ws m.h m.v d (sheet o at))

    pub letters-across : m.h ≡ word_pen_h w.left s ws m₀.h w
    letters-across = sym (v.across ∙ ap (λ (j : ℕ). word_pen_h j s ws m.h d) none ∙ across_none s ws m.h d)

    pub letters-down : m.v ≡ word_pen_v w.left m₀.v w
    letters-down = sym (v.down ∙ ap (λ (j : ℕ). word_pen_v j m.v d) none)

pub letters_less : (s ws : List ℕ) (d : Word) (x : Spelt) → 0 < d.left → x ≡ spelt_of s ws d → x.next.left < d.left
letters_less s ws d x l g = rw g (omega arith)

pub ruleset words = (letters-start, letters_fit, letters_go, letters-next, letters_sheet, letters-across, letters-down, letters_less)

-- ---- a word that begins

pub word_room : (t p q : ℕ) → Tracked t p q → p + (q - p) ≤ 16777216
word_room t p q k = omega (arith, k.from, k.most)

pub block_small : (ws : List ℕ) (e : Environment) (b : ℕ) → Small ws → b ≡ block_now ws e → b ≤ 100001
block_small ws e b m g = rw g (m.each (e.font - 1))

module _ (s ws : List ℕ) (e : Environment) (u t p q b : ℕ) (w : Word) (g : b ≡ block_now ws e) (l : w ≡ word_here e u t (q - p) p b) where
  here : w ≡ word_for ws u e t p q
  here = l ∙ ap (λ (x : ℕ). word_here e u t (q - p) p x) g

  pub from_ends : IsSome (word_end (q - p) s ws (word_for ws u e t p q)) → IsSome (word_end w.left s ws w)
  from_ends k = rw here k

  module _ (m n : Pen) where
    pub from_sheet : (o o₂ : List ℕ) (at r : ℕ) → sheet o₂ r ≡ put_all (word_lines w.left s ws m.h m.v w) (sheet o at) → sheet o₂ r ≡ put_all (word_lines (q - p) s ws m.h m.v (word_for ws u e t p q)) (sheet o at)
    from_sheet o o₂ at r k = rw here at k

    pub from_across : n.h ≡ word_pen_h w.left s ws m.h w → n.h ≡ word_pen_h (q - p) s ws m.h (word_for ws u e t p q)
    from_across r = rw here at r

    pub from_down : n.v ≡ word_pen_v w.left m.v w → n.v ≡ word_pen_v (q - p) m.v (word_for ws u e t p q)
    from_down r = rw here at r

pub ruleset beginning = (word_room, block_small, from_ends, from_sheet, from_across, from_down)
