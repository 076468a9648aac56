-- The families of the table: the names of each, and the family of a name.
use Rattle.std.specs.Prelude.{Some, None, if◌then◌else◌}
use Rattle.std.specs.Prelude as P
use Rattle.std.specs.List.{list_any}
use Rattle.std.proofs.lemmas.List.Folds.{list_any-append}
use Prim.Native.Nat.{ℕ, zero, suc, ◌+◌, ◌*◌, ◌-◌, ◌≤◌, ◌<◌}
use native.Mathlib.Omega.{arith}
use native.Mathlib.Nat.{add-zero}
use mathlib.Core.Bool.{Bool, true, false, ◌||◌}
use mathlib.Core.List.{List, [], ◌∷◌, ◌++◌}
use mathlib.Core.Option.{none, some}
use mathlib.Core.Path.{◌≡◌, refl, ap, ◌∙◌}
use lib.ListN.{length, take, drop, length-drop}
use lib.Seq.{take-suc, get_or-drop}
use borrow.Author.Tests.{lt-ltb, le-leb}
use Rattle.rules.specs.Bytes.{same}
use Rattle.rules.specs.Families.{names_in, is_in, family_of, names_of}
use Rattle.laws.proofs.Cases.{on}
use Rattle.name.specs.Part.{part_of}
use Rattle.families_table.specs.Table.{no_name, name_at, names_at, size_at, kin_of, kin_in, family_at, families_at, SizeGood, Sized, owner_of}
use Rattle.families_table.specs.declared.FamilyName.{FamilyName}
use Rattle.families_table.specs.declared.Table.{Table}

-- ---- a name among those of the table

or_turn : (a b : Bool) → (a || (b || false)) ≡ (b || a)
or_turn true true = refl
or_turn true false = refl
or_turn false true = refl
or_turn false false = refl

-- the test that the code makes of each
abbrev pub is_here : List ℕ → List ℕ → FamilyName → Bool
is_here fl name n = same name (part_of fl n.place n.len)

in_any : (fl : List ℕ) (tab : Table) (name : List ℕ) (from k : ℕ) → from + k ≤ length tab.names
    → list_any (is_here fl name) (take k (drop from tab.names)) ≡ is_in name (names_at fl tab from k)
unfolding names_at is_in
in_any fl tab name from zero h = refl
in_any fl tab name from (suc k) h =
    let l : k < length (drop from tab.names) = omega (arith, length-drop from tab.names) in
    rw (take-suc (drop from tab.names) k no_name l, list_any-append, in_any fl tab name from k (omega arith), get_or-drop)
    (or_turn (is_in name (names_at fl tab from k)) (same name (name_at fl tab (from + k))))

pub in_part : (fl : List ℕ) (tab : Table) (name : List ℕ) (from k : ℕ) → from + k ≤ length tab.names
    → list_any (is_here fl name) (take (from + k - from) (drop from tab.names)) ≡ is_in name (names_at fl tab from k)
in_part fl tab name from k h = let e : from + k - from ≡ k = omega arith in rw e (in_any fl tab name from k h)

module _ (fl : List ℕ) (tab : Table) where
  pub families_count : (n : ℕ) → length (families_at fl tab n) ≡ n
  unfolding families_at
  families_count zero = refl
  families_count (suc n) = ap suc (families_count n)

  -- the first name is the last of the names
  names_last : (from k : ℕ) → names_at fl tab from (suc k) ≡ names_at fl tab (from + 1) k ++ (name_at fl tab from ∷ [])
  unfolding names_at
  names_last from zero = rw (add-zero)
  names_last from (suc k) =
      let e : from + suc k ≡ from + 1 + k = omega arith in
      rw e (ap (◌∷◌ (name_at fl tab (from + 1 + k))) (names_last from k))

  -- what the table holds of a family are the family's names
  pub kin_names : (j : ℕ) → j < 256 → SizeGood tab j → kin_of fl tab j ≡ names_in (family_at fl tab j)
  kin_names j l g =
      let e : size_at tab j ≡ suc (size_at tab j - 1) = omega (arith, g.some) in
      rw (lt-ltb j 256 l, le-leb (size_at tab j) 8 g.few) (ap (names_at fl tab (j * 8)) e ∙ names_last (j * 8) (size_at tab j - 1))

-- ---- the family of a name, by its number

module _ (fl : List ℕ) (tab : Table) (name : List ℕ) where
  pub owner_step : (n : ℕ) → Sized tab (suc n)
      → owner_of name (families_at fl tab (suc n)) ≡ (if is_in name (kin_of fl tab n) then Some n else owner_of name (families_at fl tab n))
  unfolding families_at owner_of
  owner_step n g = rw (families_count fl tab n, kin_names fl tab n (omega (arith, g.few_families)) (g.each n (omega arith)))

  pub owner_first : (n j : ℕ) → owner_of name (families_at fl tab n) ≡ Some j → family_of name (families_at fl tab n) ≡ some (family_at fl tab j)
  unfolding families_at owner_of family_of
  owner_first zero j h = cc
  owner_first (suc n) j h =
      on (is_in name (names_in (family_at fl tab n)))
      (λ e. let z : n ≡ j = cc (rw e at h, families_count fl tab n) in rw (e, z))
      (λ e. rw e (owner_first n j (rw e at h)))

  pub owner_none : (n : ℕ) → owner_of name (families_at fl tab n) ≡ None → family_of name (families_at fl tab n) ≡ none
  unfolding families_at owner_of family_of
  owner_none zero h = refl
  owner_none (suc n) h =
      on (is_in name (names_in (family_at fl tab n)))
      (λ e. cc (rw e at h))
      (λ e. rw e (owner_none n (rw e at h)))

  pub owner_small : (n j : ℕ) → owner_of name (families_at fl tab n) ≡ Some j → j < n
  unfolding families_at owner_of
  owner_small zero j h = cc
  owner_small (suc n) j h =
      on (is_in name (names_in (family_at fl tab n)))
      (λ e. let z : n ≡ j = cc (rw e at h, families_count fl tab n) in omega arith)
      (λ e. omega (arith, owner_small n j (rw e at h)))

  pub owner_kin : (n : ℕ) (k : P.Option ℕ) → Sized tab n → owner_of name (families_at fl tab n) ≡ k → kin_in fl tab k ≡ names_of (family_of name (families_at fl tab n))
  owner_kin n None s h = rw (owner_none n h)
  owner_kin n (Some j) s h = let l : j < n = owner_small n j h in rw (owner_first n j h) (kin_names fl tab j (omega (arith, s.few_families)) (s.each j l))
