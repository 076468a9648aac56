-- Words: their widths, where they end, and their bytes one by one.
use Rattle.std.specs.Prelude.{Option, Some, None, IsSome, IsOk}
use Prim.Native.Nat.{ℕ, suc, ◌+◌, ◌*◌, ◌-◌, ◌≤◌, ◌<◌}
use native.Mathlib.Omega.{arith}
use mathlib.Core.Bool.{true, false}
use mathlib.Core.List.{List}
use mathlib.Core.Path.{◌≡◌, refl, sym, ap, ◌∙◌, subst}
use lib.Dec.{ltb}
use lib.ListN.{get_or}
use borrow.Author.Tests.{lt-ltb, ltb-true}
use Rattle.rules.specs.Bytes.{origin}
use Rattle.laws.proofs.Cases.{on, no, and_left, and_right}
use Rattle.scan_command.specs.declared.Command.{Command}
use Rattle.scan_command.specs.declared.Command.TheVariants as C
use Rattle.read_model.specs.declared.Environment.{Environment}
use Rattle.read_model.specs.declared.Word.{Word}
use Rattle.read_model.specs.Environment.{is_set, may_move}
use Rattle.read_model.specs.Words.{entry_at, all_wide, far_at, word_next, word_end, word_here, word_to, word_on}
use Rattle.read_model.specs.Fits.{CommandIn}
use Rattle.read_environment.specs.Bounds.{Fits}
use Rattle.read_word.specs.Bounds.{Tracked, WordFits, Goes}
use Rattle.read_word.specs.Parts.{step_to, next_word}

-- ---- all bytes have widths

module _ (s ws : List ℕ) (block i w : ℕ) (e : w ≡ entry_at ws block (get_or s i 0)) where
  pub wide_on : (n m : ℕ) → n ≡ suc m → (w ≡ 0 → ⊥) → all_wide n s ws block i ≡ all_wide m s ws block (i + 1)
  unfolding all_wide
  wide_on n m q z = rw (q, ← e, lt-ltb 0 w (omega arith))

  pub wide_off : (n m : ℕ) → n ≡ suc m → w ≡ 0 → all_wide n s ws block i ≡ false
  unfolding all_wide
  wide_off n m q z = rw (q, ← e, z)

pub wide_none : (s ws : List ℕ) (block i n : ℕ) → n ≡ 0 → all_wide n s ws block i ≡ true
unfolding all_wide
wide_none s ws block i n q = rw q

-- ---- where a word ends

-- from d on it ends where it ends from w on
pub record Ending (s ws : List ℕ) (w d : Word) : Type 0 where
  pub same : word_end w.left s ws w ≡ word_end d.left s ws d
  pub fits : WordFits d

end_on : (s ws : List ℕ) (k : ℕ) (d : Word) → may_move d.h (far_at s ws d) ≡ true → word_end (suc k) s ws d ≡ word_end k s ws (word_next s ws d)
unfolding word_end
end_on s ws k d t = rw t

end_off : (s ws : List ℕ) (k : ℕ) (d : Word) → may_move d.h (far_at s ws d) ≡ false → word_end (suc k) s ws d ≡ None
unfolding word_end
end_off s ws k d t = rw t

end_none : (s ws : List ℕ) (k : ℕ) (d : Word) → k ≡ 0 → word_end k s ws d ≡ Some d.h
unfolding word_end
end_none s ws k d q = rw q

next_fits : (d : Word) (h : ℕ) → 0 < d.left → h < 2 * origin → WordFits d → WordFits (next_word d h)
next_fits d h l m f = record { h = m; v = f.v; number = f.number; size = f.size; track = f.track; unit_some = f.unit_some; unit_most = f.unit_most; quantum_some = f.quantum_some; quantum_most = f.quantum_most; block = f.block; end = omega (arith, f.end) }

pub goes-fits : (s ws : List ℕ) (d : Word) → WordFits d → Goes s ws d → WordFits (word_next s ws d)
goes-fits s ws d f g =
    let a : origin < d.h + far_at s ws d = ltb-true origin (d.h + far_at s ws d) (and_left (ltb origin (d.h + far_at s ws d)) (ltb (d.h + far_at s ws d) (3 * origin)) g.near) in
    let b : d.h + far_at s ws d < 3 * origin = ltb-true (d.h + far_at s ws d) (3 * origin) (and_right (ltb origin (d.h + far_at s ws d)) (ltb (d.h + far_at s ws d) (3 * origin)) g.near) in
    next_fits d (d.h + far_at s ws d - origin) g.some (omega arith) f

-- one byte further, or not
abbrev Stepped : List ℕ → List ℕ → Word → Option ℕ → Type 0
Stepped s ws d None = may_move d.h (far_at s ws d) ≡ false
Stepped s ws d (Some h) = (may_move d.h (far_at s ws d) ≡ true) × (h ≡ d.h + far_at s ws d - origin)

stepped : (s ws : List ℕ) (d : Word) → Stepped s ws d (step_to s ws d)
stepped s ws d = on (may_move d.h (far_at s ws d)) (λ t. rw t (t, refl)) (λ t. rw t t)

module _ (s ws : List ℕ) (w d : Word) (v : Ending s ws w d) where
  pub ending_done : d.left ≤ 0 → Some d.h ≡ word_end w.left s ws w
  ending_done h = sym (v.same ∙ end_none s ws d.left d (omega arith))

  module _ (l : 0 < d.left) where
    some : word_end d.left s ws d ≡ word_end (suc (d.left - 1)) s ws d
    some = ap (λ (k : ℕ). word_end k s ws d) (omega arith)

    pub ending_off : None ≡ step_to s ws d → None ≡ word_end w.left s ws w
    ending_off p = sym (v.same ∙ some ∙ end_off s ws (d.left - 1) d (subst (Stepped s ws d) (sym p) (stepped s ws d)))

    pub ending_next : (h : ℕ) → Some h ≡ step_to s ws d → Ending s ws w (next_word d h)
    ending_next h p =
        let z : (may_move d.h (far_at s ws d) ≡ true) × (h ≡ d.h + far_at s ws d - origin) = subst (Stepped s ws d) (sym p) (stepped s ws d) in
        let g : Goes s ws d = record { some = l; near = z.0 } in
        rw z.1 (record { same = v.same ∙ some ∙ end_on s ws (d.left - 1) d z.0; fits = goes-fits s ws d v.fits g })

-- ---- for whoever fills a row with a word

pub here_fits : (e : Environment) (u track n at block : ℕ) → Fits e → 1 ≤ u → u ≤ 100000 → track < 2 * origin → at + n ≤ 16777216 → block ≤ 100001 → WordFits (word_here e u track n at block)
here_fits e u track n at block f a b t l k = record { h = f.h_most; v = f.v_most; number = f.number; size = f.size; track = t; unit_some = a; unit_most = b; quantum_some = f.quantum_some; quantum_most = f.quantum_most; block = k; end = l }

-- a word that is done ends within the limit
pub done_ends : (s ws : List ℕ) (e : Environment) (at u track n place block : ℕ) → IsOk (word_on s ws e at u track n place block) → IsSome (word_end n s ws (word_here e u track n place block))
done_ends s ws e at u track n place block h =
    on (is_set e)
    (λ a. on (all_wide n s ws block place) (λ b. go (word_end n s ws (word_here e u track n place block)) (rw (a, b) at h)) (λ b. no (rw (a, b) at h)))
    (λ a. no (rw a at h))
  where
    go : (o : Option ℕ) → IsOk (word_to e at (word_here e u track n place block) o) → IsSome o
    go None h = no h
    go (Some x) h = refl

-- a word that ends within the limit goes on so, byte by byte
pub goes_on : (s ws : List ℕ) (d : Word) → 0 < d.left → IsSome (word_end d.left s ws d) → Goes s ws d × IsSome (word_end (d.left - 1) s ws (word_next s ws d))
goes_on s ws d l h =
    let k : IsSome (word_end (suc (d.left - 1)) s ws d) = subst (λ (n : ℕ). IsSome (word_end n s ws d)) (omega arith) h in
    on (may_move d.h (far_at s ws d))
    (λ t. (record { some = l; near = t }, rw (end_on s ws (d.left - 1) d t) at k))
    (λ t. no (rw (end_off s ws (d.left - 1) d t) at k))

-- ---- a word's command

pub word_place : (at n : ℕ) (c : Command) → CommandIn at n c → n ≤ 16777216 → (t p r q : ℕ) → c ≡ C.Word t p r q → Tracked t p r
word_place at n c i m t p r q g =
    let j : CommandIn at n (C.Word t p r q) = subst (CommandIn at n) g i in
    record { near = j.1; from = omega (arith, j.3); most = omega (arith, j.0, j.4) }
