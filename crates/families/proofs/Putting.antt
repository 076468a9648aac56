-- The table and the marks with one name more.
use Rattle.std.specs.Prelude.{if◌then◌else◌}
use Prim.Native.Nat.{ℕ, zero, suc, ◌+◌, ◌*◌, ◌-◌, ◌≤◌, ◌<◌}
use native.Mathlib.Omega.{arith}
use mathlib.Core.Bool.{Bool, true, false}
use mathlib.Core.List.{List, [], ◌∷◌}
use mathlib.Core.Option.{Option, some}
use mathlib.Core.Path.{◌≡◌, refl, sym, ap, ◌∙◌}
use lib.Dec.{ltb, eqb}
use lib.ListN.{length, get_or, set}
use lib.Seq.{get_or-set_same, get_or-set_other}
use borrow.Author.Tests.{ltb-true, ltb-false, eqb-true, eqb-false}
use Rattle.rules.specs.Bytes.{same}
use Rattle.rules.specs.Families.{Family, names_in, is_in, family_of, is_none}
use Rattle.laws.proofs.Cases.{on, no}
use Rattle.laws.proofs.Same.{same_eq}
use Rattle.name.specs.Part.{part_of}
use Rattle.families_line.specs.Line.{mark_of}
use Rattle.families_table.specs.Table.{no_name, entry_at, names_at, size_at, family_at, families_at, SizeGood, Sized}
use Rattle.families_table.specs.declared.FamilyName.{FamilyName}
use Rattle.families_table.specs.declared.Table.{Table}
use Rattle.families.specs.Loading.{Marked, put_at, newest_size}

-- ---- the name at i, with the size of the family j

module _ (tab : Table) (i j : ℕ) (x : FamilyName) (size : ℕ) (l : length tab.names ≡ 2048) (m : length tab.sizes ≡ 256) (p : i < 2048) (q : j < 256) where
  abbrev more : Table
  more = record { names = set tab.names i x; sizes = set tab.sizes j size }

  new_entry : entry_at more i ≡ x
  new_entry = get_or-set_same tab.names i x no_name (omega arith)

  kept_entry : (k : ℕ) → (k ≡ i → ⊥) → entry_at more k ≡ entry_at tab k
  kept_entry k n = get_or-set_other tab.names i k x no_name n

  new_size : size_at more j ≡ size
  new_size = get_or-set_same tab.sizes j size 0 (omega arith)

  kept_size : (k : ℕ) → (k ≡ j → ⊥) → size_at more k ≡ size_at tab k
  kept_size k n = get_or-set_other tab.sizes j k size 0 n

  module _ (fl : List ℕ) where
    kept_names : (from k : ℕ) → from + k ≤ i → names_at fl more from k ≡ names_at fl tab from k
    unfolding names_at
    kept_names from zero h = refl
    kept_names from (suc k) h = rw (kept_entry (from + k) (λ e. omega arith), kept_names from k (omega arith))

    kept_family : (k : ℕ) → k < j → j * 8 ≤ i → SizeGood tab k → family_at fl more k ≡ family_at fl tab k
    kept_family k h o g =
        rw (
          kept_size k (λ e. omega arith),
          kept_entry (k * 8) (λ e. omega arith),
          kept_names (k * 8 + 1) (size_at tab k - 1) (omega (arith, g.few, g.some)),
        )

    kept_families : (n : ℕ) → n ≤ j → j * 8 ≤ i → Sized tab n → families_at fl more n ≡ families_at fl tab n
    unfolding families_at
    kept_families zero h o g = refl
    kept_families (suc n) h o g =
        rw (kept_family n (omega arith) o (g.each n (omega arith)), kept_families n (omega arith) o (record { few_families = omega (arith, g.few_families); each = λ k z. g.each k (omega arith) }))

  more_sized : 1 ≤ size → size ≤ 8 → Sized tab j → Sized more (suc j)
  more_sized a b g = record {
    few_families = omega arith;
    each = λ k h.
        on (ltb k j)
        (λ e.
        let o : k < j = ltb-true k j e in
        let z : size_at more k ≡ size_at tab k = kept_size k (λ y. omega arith) in
        record { some = rw z (g.each k o).some; few = rw z (g.each k o).few })
        (λ e.
        let z : k ≡ j = omega (arith, ltb-false k j e) in
        rw z (record { some = rw new_size a; few = rw new_size b }));
  }

-- ---- a family begun, and the newest family grown

pub sized_less : (tab : Table) (n : ℕ) → Sized tab (suc n) → Sized tab n
sized_less tab n g = record { few_families = omega (arith, g.few_families); each = λ k h. g.each k (omega arith) }

-- what a name line and a `same=` line make of the families
abbrev pub begun : ℕ → List ℕ → List Family → List Family
begun at n fs = record { place = at; first = n; others = [] } ∷ fs

abbrev pub grown : List ℕ → List Family → List Family
grown n [] = []
grown n (f ∷ fs) = record { place = f.place; first = f.first; others = n ∷ f.others } ∷ fs

-- the newest family's size, in the table
names_count : (fl : List ℕ) (tab : Table) (from k : ℕ) → length (names_at fl tab from k) ≡ k
unfolding names_at
names_count fl tab from zero = refl
names_count fl tab from (suc k) = ap suc (names_count fl tab from k)

newest_is : (fl : List ℕ) (tab : Table) (n : ℕ) → Sized tab (suc n) → newest_size (families_at fl tab (suc n)) ≡ size_at tab n
unfolding families_at
newest_is fl tab n g = omega (arith, names_count fl tab (n * 8 + 1) (size_at tab n - 1), (g.each n (omega arith)).some)

module _ (fl : List ℕ) (tab : Table) (x : FamilyName) (l : length tab.names ≡ 2048) (m : length tab.sizes ≡ 256) where
  pub put_begun : (n : ℕ) → n < 256 → Sized tab n → families_at fl (put_at tab n 1 x) (suc n) ≡ begun x.place (part_of fl x.place x.len) (families_at fl tab n)
  unfolding families_at names_at
  put_begun n h g =
      let z : n * 8 + 1 - 1 ≡ n * 8 = omega arith in
      let t : families_at fl (more tab (n * 8) n x 1 l m (omega arith) h) (suc n) ≡ begun x.place (part_of fl x.place x.len) (families_at fl tab n) =
      rw (
        new_size tab (n * 8) n x 1 l m (omega arith) h,
        new_entry tab (n * 8) n x 1 l m (omega arith) h,
        kept_families tab (n * 8) n x 1 l m (omega arith) h fl n (omega arith) (omega arith) g,
      )
      in
      ap (λ (i : ℕ). families_at fl (record { names = set tab.names i x; sizes = set tab.sizes n 1 }) (suc n)) z ∙ t

  pub put_grown : (n size : ℕ) → n < 256 → size < 8 → Sized tab (suc n) → newest_size (families_at fl tab (suc n)) ≡ size
      → families_at fl (put_at tab n (size + 1) x) (suc n) ≡ grown (part_of fl x.place x.len) (families_at fl tab (suc n))
  unfolding families_at names_at
  put_grown n size h o g v =
      let t : size_at tab n ≡ size = sym (newest_is fl tab n g) ∙ v in
      let a : 1 ≤ size = omega (arith, (g.each n (omega arith)).some, t) in
      let z : n * 8 + (size + 1) - 1 ≡ n * 8 + size = omega arith in
      let w : size + 1 - 1 ≡ suc (size - 1) = omega arith in
      let y : n * 8 + 1 + (size - 1) ≡ n * 8 + size = omega arith in
      let i : ℕ = n * 8 + size in
      let more' : families_at fl (more tab i n x (size + 1) l m (omega arith) h) (suc n) ≡ grown (part_of fl x.place x.len) (families_at fl tab (suc n)) =
      rw (
        new_size tab i n x (size + 1) l m (omega arith) h,
        w,
        y,
        new_entry tab i n x (size + 1) l m (omega arith) h,
        kept_entry tab i n x (size + 1) l m (omega arith) h (n * 8) (λ e. omega arith),
        kept_names tab i n x (size + 1) l m (omega arith) h fl (n * 8 + 1) (size - 1) (omega arith),
        kept_families tab i n x (size + 1) l m (omega arith) h fl n (omega arith) (omega arith) (sized_less tab n g),
        t,
      )
      in
      ap (λ (k : ℕ). families_at fl (record { names = set tab.names k x; sizes = set tab.sizes n (size + 1) }) (suc n)) z ∙ more'

module _ (tab : Table) (n size : ℕ) (x : FamilyName) (l : length tab.names ≡ 2048) (m : length tab.sizes ≡ 256) where
  pub put_sized : n < 256 → 1 ≤ size → size ≤ 8 → Sized tab n → Sized (put_at tab n size x) (suc n)
  put_sized h a b g = more_sized tab (n * 8 + size - 1) n x size l m (omega arith) h a b g

-- ---- marks

module _ (seen : List Bool) (fs gs : List Family) (name : List ℕ) (m : ℕ) where
  pub marked_more : length seen ≡ 16384 → Marked seen fs → m ≡ mark_of name → m < 16384
      → ((n : List ℕ) → same n name ≡ false → is_none (family_of n fs) ≡ true → is_none (family_of n gs) ≡ true) → Marked (set seen m true) gs
  marked_more l k e b f = record {
    each = λ n h.
        on (eqb (mark_of n) m)
        (λ y.
        let z : get_or (set seen m true) m false ≡ false = ap (λ (x : ℕ). get_or (set seen m true) x false) (sym (eqb-true (mark_of n) m y)) ∙ h in
        no (sym z ∙ get_or-set_same seen m true false (omega arith)))
        (λ y.
        let d = eqb-false (mark_of n) m y in
        f n
        (on (same n name) (λ w. absurd (d (ap mark_of (same_eq n name w) ∙ sym e))) (λ w. w))
        (k.each n (sym (get_or-set_other seen m (mark_of n) true false d) ∙ h)));
  }

none_if : (b : Bool) (f : Family) (o : Option Family) → is_none (if b then some f else o) ≡ true → (b ≡ false) × (is_none o ≡ true)
none_if true f o h = no h
none_if false f o h = (refl, h)

pub begun_none : (at : ℕ) (name : List ℕ) (fs : List Family) (n : List ℕ) → same n name ≡ false → is_none (family_of n fs) ≡ true
    → is_none (family_of n (begun at name fs)) ≡ true
unfolding family_of is_in
begun_none at name fs n d h = rw d h

pub grown_none : (name : List ℕ) (fs : List Family) (n : List ℕ) → same n name ≡ false → is_none (family_of n fs) ≡ true
    → is_none (family_of n (grown name fs)) ≡ true
unfolding family_of is_in
grown_none name [] n d h = h
grown_none name (f ∷ fs) n d h =
    let p = none_if (is_in n (names_in f)) f (family_of n fs) h in
    rw (d, p.0) p.1
