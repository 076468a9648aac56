-- Names looked for in the table: the answer of each return, in the form in which the check applies it.
use Rattle.std.specs.Prelude.{Some, None, if◌then◌else◌}
use Prim.Native.Nat.{ℕ, suc, ◌*◌, ◌-◌, ◌≤◌, ◌<◌}
use native.Mathlib.Omega.{arith}
use mathlib.Core.Bool.{Bool, true, false}
use mathlib.Core.List.{List}
use mathlib.Core.Path.{◌≡◌, sym, ap, ◌∙◌}
use borrow.Author.Tests.{lt-ltb, le-ltb}
use lib.Dec.{leb}
use Rattle.rules.specs.Families.{is_in}
use Rattle.families_table.specs.Table.{names_at, size_at, kin_of, families_at, Sized, owner_of}
use Rattle.families_table.specs.declared.Table.{Table}
use Rattle.families_table.proofs.Owners.{owner_step}

-- ---- in a family

module _ (fl : List ℕ) (tab : Table) (name : List ℕ) (j : ℕ) where
  pub kin_past : 256 ≤ j → false ≡ is_in name (kin_of fl tab j)
  unfolding is_in
  kin_past h = rw (le-ltb j 256 h)

  module _ (l : j < 256) where
    pub kin_large : leb (size_at tab j) 8 ≡ false → leb (size_at tab j) 8 ≡ is_in name (kin_of fl tab j)
    unfolding is_in
    kin_large h = rw (lt-ltb j 256 l, h)

    pub kin_among : leb (size_at tab j) 8 ≡ true → (r : Bool) → r ≡ is_in name (names_at fl tab (j * 8) (size_at tab j)) → r ≡ is_in name (kin_of fl tab j)
    kin_among h r q = rw (lt-ltb j 256 l, h) q

-- ---- the family that a name is in

module _ (fl : List ℕ) (tab : Table) (name : List ℕ) (families k : ℕ) (g : Sized tab families) (l : k ≤ families)
    (v : owner_of name (families_at fl tab families) ≡ owner_of name (families_at fl tab k)) where
  owner_at : 0 < k → owner_of name (families_at fl tab families) ≡ (if is_in name (kin_of fl tab (k - 1)) then Some (k - 1) else owner_of name (families_at fl tab (k - 1)))
  owner_at h =
      let e : k ≡ suc (k - 1) = omega arith in
      v ∙ ap (λ (x : ℕ). owner_of name (families_at fl tab x)) e
      ∙ owner_step fl tab name (k - 1) (record { few_families = omega (arith, g.few_families); each = λ j i. g.each j (omega arith) })

  module _ (h : 0 < k) (r : Bool) (q : r ≡ is_in name (kin_of fl tab (k - 1))) where
    pub owner_here : r ≡ true → Some (k - 1) ≡ owner_of name (families_at fl tab families)
    owner_here f = sym (owner_at h ∙ rw (sym q ∙ f))

    pub owner_more : r ≡ false → owner_of name (families_at fl tab families) ≡ owner_of name (families_at fl tab (k - 1))
    owner_more f = owner_at h ∙ rw (sym q ∙ f)

  pub owner_over : k ≤ 0 → None ≡ owner_of name (families_at fl tab families)
  unfolding families_at owner_of
  owner_over h = let z : k ≡ 0 = omega arith in sym (v ∙ ap (λ (x : ℕ). owner_of name (families_at fl tab x)) z)

pub ruleset steps = (kin_past, kin_large, kin_among, owner_here, owner_more, owner_over)
