-- What the table and the scratch row say of the rules' fonts.
use Prim.Native.Nat.{ℕ, ◌+◌, ◌*◌, ◌≤◌, ◌<◌}
use mathlib.Core.Path.{◌≡◌, refl, subst}
use mathlib.Core.List.{List, [], ◌∷◌}
use native.Mathlib.Omega.{arith}
use borrow.Author.Tests.{eq-eqb, ne_eqb, eqb-true, eqb-false}
use lib.Dec.{eqb}
use lib.ListN.{length, get_or, get_or-eq_default, set}
use lib.Seq.{get_or-set_same, get_or-set_other}
use Rattle.rules.specs.Bytes.{same}
use Rattle.rules.specs.Widths.{Font, width_of}
use Rattle.laws.proofs.Cases.{on, if_both}
use Rattle.widths_table.specs.Slots.{slot_in}
use Rattle.widths_table.specs.Table.{font_at, slot_of, entry_for, TableOf, NamesOf}
use Rattle.widths_table.specs.Blocks.{BlockOf, no_block, BlocksOf}
use Rattle.widths_table.specs.declared.Block.{Block}

pub font_front : (f : Font) (fs : List Font) → font_at (length fs) (f ∷ fs) ≡ f
unfolding font_at
font_front f fs = rw (eq-eqb (length fs) (length fs) refl)

pub font_behind : (i : ℕ) (f : Font) (fs : List Font) → i < length fs → font_at i (f ∷ fs) ≡ font_at i fs
unfolding font_at
font_behind i f fs h = rw (ne_eqb (length fs) i (λ e. omega arith))

pub names_behind : (list places lens : List ℕ) (f : Font) (fs : List Font) → NamesOf list (f ∷ fs) places lens → NamesOf list fs places lens
names_behind list places lens f fs h i l = rw (font_behind i f fs l) at (h i (omega arith))

pub table-behind : (table : List ℕ) (f : Font) (fs : List Font) → TableOf (f ∷ fs) table → TableOf fs table
table-behind table f fs h i b l k = rw (font_behind i f fs l) at (h i b (omega arith) k)

-- under the fonts' names, the slot that the code finds is the rules' slot
pub slot_names : (list places lens n : List ℕ) (fs : List Font) → NamesOf list fs places lens → slot_in list places lens (length fs) n ≡ slot_of n fs
unfolding slot_in slot_of
slot_names list places lens n [] h = refl
slot_names list places lens n (f ∷ fs) h =
    let e = rw (font_front f fs) at (h (length fs) (omega arith)).1 in
    rw (e, slot_names list places lens n fs (names_behind list places lens f fs h))

-- under the fonts' table, one look finds the rules' width
pub width_table : (n : List ℕ) (b : ℕ) (fs : List Font) (table : List ℕ) → TableOf fs table → length table ≡ 8192 → b < 256
    → get_or table (slot_of n fs * 256 + b) 0 ≡ entry_for (width_of n b fs)
unfolding slot_of width_of
width_table n b [] table h l k = get_or-eq_default table 0 (omega arith)
width_table n b (f ∷ fs) table h l k =
    on (same f.name n)
    (λ e. rw (e, h (length fs) b (omega arith) k, font_front f fs))
    (λ e. rw e (width_table n b fs table (table-behind table f fs h) l k))

pub slot_le : (n : List ℕ) (fs : List Font) → length fs ≤ 32 → slot_of n fs ≤ 32
unfolding slot_of
slot_le n [] h = omega arith
slot_le n (f ∷ fs) h = if_both (λ (k : ℕ). k ≤ 32) (same f.name n) (length fs) (slot_of n fs) (omega arith) (slot_le n fs (omega arith))

-- ---- the table
module _ (list : List ℕ) (f : Font) (fs : List Font) (table : List Block) where
  pub block_front : BlocksOf list (f ∷ fs) table → BlockOf list f (get_or table (length fs) no_block)
  block_front h = rw (font_front f fs) at (h (length fs) (omega arith))

  pub blocks_behind : BlocksOf list (f ∷ fs) table → BlocksOf list fs table
  blocks_behind h i l = rw (font_behind i f fs l) at (h i (omega arith))

-- the newest font's block is written
pub blocks_set : (list : List ℕ) (f : Font) (fs : List Font) (table : List Block) (b : Block) → length fs < length table → BlocksOf list fs table → BlockOf list f b
    → BlocksOf list (f ∷ fs) (set table (length fs) b)
blocks_set list f fs table b l h k i q =
    on (eqb (length fs) i)
    (λ e.
    subst (λ (j : ℕ). BlockOf list (font_at j (f ∷ fs)) (get_or (set table (length fs) b) j no_block)) (eqb-true (length fs) i e)
    (rw (font_front f fs, get_or-set_same table (length fs) b no_block l) k))
    (λ e.
    let ne : length fs ≡ i → ⊥ = eqb-false (length fs) i e in
    let p : i < length fs = omega arith in
    rw (font_behind i f fs p, get_or-set_other table (length fs) i b no_block (λ (z : i ≡ length fs). omega arith)) (h i p))
