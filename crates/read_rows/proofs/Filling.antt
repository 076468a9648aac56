-- The records of a word, one by one.
use Rattle.std.proofs.Common.{◌≡◌, ℕ, zero, suc, ◌+◌, ◌-◌, ◌<◌, ◌≤◌, List, refl, sym, ◌∙◌, set, length, arith}
use Rattle.std.proofs.Math.ListN.{length-set}
use Rattle.rules.specs.declared.Record.{Record}
use Rattle.read_model.specs.declared.Word.{Word}
use Rattle.read_model.specs.Words.{word_record, word_next}
use Rattle.read_model.specs.Passes.{word_fill}
use Rattle.read_word.specs.declared.Spelt.{Spelt}
use Rattle.read_word.specs.Bounds.{Goes}
use Rattle.read_word.specs.Parts.{spelt_of}
use Rattle.read_word.proofs.Spelling.{goes_on, goes-fits}
use Rattle.read_rows.specs.Words.{WordIn}

fill_next : (n m : ℕ) (s ws : List ℕ) (i : ℕ) (d : Word) (row : List Record) → n ≡ suc m → word_fill n s ws i d row ≡ word_fill m s ws (i + 1) (word_next s ws d) (set row i (word_record d))
unfolding word_fill
fill_next n m s ws i d row h = rw h

pub fill_done : (n : ℕ) (s ws : List ℕ) (i : ℕ) (d : Word) (row : List Record) → n ≤ 0 → word_fill n s ws i d row ≡ row
unfolding word_fill
fill_done zero s ws i d row h = refl
fill_done (suc n) s ws i d row h = absurd (omega arith)

-- where the next record is set: what is left of the word is d, and its record goes to i
pub record Filled (s ws : List ℕ) (k : ℕ) (w : Word) (ys : List Record) (i : ℕ) (d : Word) (row : List Record) : Type 0 where
  pub within : WordIn s ws (length row) i d
  pub left : i + d.left ≡ k + w.left
  pub runs : word_fill d.left s ws i d row ≡ word_fill w.left s ws k w ys

module _ (s ws : List ℕ) (n i : ℕ) (d : Word) (v : WordIn s ws n i d) (l : 0 < d.left) where
  pub next-goes : Goes s ws d
  next-goes = (goes_on s ws d l v.ends).0

  next_in : WordIn s ws n (i + 1) (word_next s ws d)
  next_in = record { fits = goes-fits s ws d v.fits next-goes; small = v.small; ends = (goes_on s ws d l v.ends).1; room = omega (arith, v.room) }

module _ (s ws : List ℕ) (k : ℕ) (w : Word) (ys : List Record) (i : ℕ) (d : Word) (row : List Record) where
  pub filled_more : Filled s ws k w ys i d row → 0 < d.left → (x : Spelt) → x ≡ spelt_of s ws d → (row' : List Record) → row' ≡ set row i x.row → Filled s ws k w ys (i + 1) x.next row'
  filled_more f h x e row' e' = rw (e', e) (record {
    within = rw length-set (next_in s ws (length row) i d f.within h);
    left = omega (arith, f.left);
    runs = sym (fill_next d.left (d.left - 1) s ws i d row (omega arith)) ∙ f.runs;
  })
