-- A line `font=NAME`: what the code does is what the rules say.
use Prim.Native.Nat.{ℕ, ◌+◌, ◌≤◌, ◌<◌}
use mathlib.Core.Path.{◌≡◌, refl, sym, ap, ◌∙◌}
use mathlib.Core.Bool.{Bool, true, false, not, ◌||◌, ◌&&◌}
use mathlib.Core.List.{List, [], ◌∷◌}
use native.Mathlib.Omega.{arith}
use native.Mathlib.Numerals.{add-one}
use borrow.Author.Tests.{lt-ltb, le-ltb}
use lib.Dec.{ltb}
use lib.ListN.{length, take, get_or, get_or-replicate, length-replicate, replicate, set}
use Rattle.std.proofs.lemmas.List.Folds.{list_any_more}
use Rattle.std.specs.Prelude.{Ok, Err}
use Rattle.rules.specs.Answers.{refusal}
use Rattle.rules.specs.Bytes.{same}
use Rattle.rules.specs.Widths.{Font, Widths, Due, is_list_name, is_new, width_in}
use Rattle.laws.proofs.Cases.{on}
use Rattle.name.specs.Part.{part_of}
use Rattle.widths_table.specs.declared.Block.{Block}
use Rattle.widths_table.specs.Blocks.{BlockOf, no_block, BlocksOf}
use Rattle.widths_table.proofs.Lookups.{block_front, blocks_behind, blocks_set}
use Rattle.widths_line.specs.declared.Due.TheVariants as D
use Rattle.widths_line.specs.declared.State.{State}
use Rattle.widths_line.specs.Reading.{Holds}
use Rattle.widths_font.specs.Fonts.{is_taken, Told, font_says}

-- ---- a name that is taken
abbrev named : List ℕ → List ℕ → Block → Bool
named list n b = same (part_of list b.name.place b.name.len) n

taken_is : (list n : List ℕ) (fs : List Font) (table : List Block) → length fs ≤ length table → BlocksOf list fs table → is_taken list (take (length fs) table) n ≡ not (is_new n fs)
unfolding is_new
taken_is list n [] table l h = refl
taken_is list n (f ∷ fs) table l h =
    let e : named list n (get_or table (length fs) no_block) ≡ same f.name n = ap (λ (x : List ℕ). same x n) (block_front list f fs table h).name in
    let m = rw add-one at (list_any_more (named list n) table (length fs) no_block (omega arith)) in
    m ∙ rw (e, taken_is list n fs table (omega arith) (blocks_behind list f fs table h)) (by (is_new n fs) (same f.name n))
  where
    by : (x y : Bool) → (not x || y) ≡ not (not y && x)
    by true true = refl
    by true false = refl
    by false true = refl
    by false false = refl

-- ---- the line
bare_block : (list : List ℕ) (place len : ℕ) → place + len ≤ length list
    → BlockOf list (record { name = part_of list place len; widths = [] }) (record { name = record { place = place; len = len }; widths = replicate 256 0 })
unfolding width_in
bare_block list place len h = record { within = h; name = refl; long = length-replicate {A = ℕ} 256 0; widths = λ c l. get_or-replicate {A = ℕ} 256 c 0 0 l }

module _ (list : List ℕ) (table : List Block) (st : State) (next : ℕ) (n : List ℕ) where
  pub font_full : 32 ≤ st.fonts → Told list table table st next (Err (refusal 2 st.at)) (font_says n)
  font_full h = record {
    told = λ w d v.
        let l : 32 ≤ length w.fonts = omega (arith, ap (λ (x : State). x.fonts) v.0) in
        on (is_list_name n) (λ e. rw (e, le-ltb (length w.fonts) 32 l) (refl, tt)) (λ e. rw e (refl, tt));
  }

  pub font_bad : is_list_name n ≡ false → Told list table table st next (Err (refusal 2 st.at)) (font_says n)
  font_bad e = record { told = λ w d v. rw e (refl, tt) }

  -- what the look at the table says of the rules' fonts
  new_is : (w : Widths) (d : Due) → Holds list table w d st → length table ≡ 32 → is_taken list (take st.fonts table) n ≡ not (is_new n w.fonts)
  new_is w d v l = rw (ap (λ (x : State). x.fonts) v.0) (taken_is list n w.fonts table (omega (arith, v.1.few)) v.1.blocks)

  pub font_taken : length table ≡ 32 → is_taken list (take st.fonts table) n ≡ true → Told list table table st next (Err (refusal 2 st.at)) (font_says n)
  font_taken l e = record {
    told = λ w d v.
        let f : is_new n w.fonts ≡ false =
        on (is_new n w.fonts)
        (λ f. absurd (let g = rw f at (sym e ∙ new_is w d v l) in let z : ◌≡◌ {A = ℕ} 0 1 = cc g in omega arith))
        (λ f. f)
        in
        on (is_list_name n) (λ a. on (ltb (length w.fonts) 32) (λ b. rw (a, b, f) (refl, tt)) (λ b. rw (a, b) (refl, tt))) (λ a. rw a (refl, tt));
  }

pub font_new : (list : List ℕ) (table : List Block) (st : State) (next : ℕ) (own : List ℕ) (place len : ℕ) → own ≡ part_of list place len → place + len ≤ length list → length table ≡ 32
    → (st.fonts ≡ 32 → ⊥) → st.fonts ≤ 32 → is_list_name own ≡ true → is_taken list (take st.fonts table) own ≡ false
    → Told list table (set table st.fonts (record { name = record { place = place; len = len }; widths = replicate 256 0 })) st next
    (Ok (record { due = D.Block; unitwidth = st.unitwidth; fonts = st.fonts + 1; low = 0; at = next })) (font_says (part_of list place len))
font_new list table st next own place len en fits l ne le e f = record {
  told = λ w d v.
      let k : st.fonts ≡ length w.fonts = ap (λ (x : State). x.fonts) v.0 in
      let u : st.unitwidth ≡ w.unitwidth = ap (λ (x : State). x.unitwidth) v.0 in
      let q : length w.fonts < 32 = omega arith in
      let n = part_of list place len in
      let i : is_new n w.fonts ≡ true =
      on (is_new n w.fonts)
      (λ g. g)
      (λ g. absurd (let h = rw g at (sym (rw en at f) ∙ new_is list table st next n w d v l) in let z : ◌≡◌ {A = ℕ} 0 1 = cc h in omega arith))
      in
      rw (rw en at e, lt-ltb (length w.fonts) 32 q, i, k, u) (
        ap (λ (x : ℕ). Ok (record { due = D.Block; unitwidth = w.unitwidth; fonts = x; low = 0; at = next })) (add-one (length w.fonts)),
        record {
          few = omega arith;
          ready = tt;
          blocks = blocks_set list _ w.fonts table _ (omega arith) v.1.blocks (bare_block list place len fits);
        },
      );
}

pub ruleset fonts = (font_full, font_bad, font_taken)
