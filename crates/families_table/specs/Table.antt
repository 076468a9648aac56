-- The family table as the code holds it: the families that its names and sizes say.
use Rattle.std.specs.Prelude.{ℕ, zero, suc, ◌+◌, ◌*◌, ◌-◌, ◌<◌, ◌≤◌, ◌&&◌, List, [], ◌∷◌, Option, Some, None, ltb, leb, length, get_or, if◌then◌else◌}
use Rattle.rules.specs.Families.{Family, names_in, is_in}
use Rattle.name.specs.Part.{part_of}
use Rattle.families_table.specs.declared.FamilyName.{FamilyName}
use Rattle.families_table.specs.declared.Table.{Table}

-- a name of the table, by its number, and what stands where there is none
abbrev pub no_name : FamilyName
no_name = record { place = 0; len = 0 }

abbrev pub entry_at : Table → ℕ → FamilyName
entry_at tab i = get_or tab.names i no_name

abbrev pub name_at : List ℕ → Table → ℕ → List ℕ
name_at fl tab i = part_of fl (entry_at tab i).place (entry_at tab i).len

-- so many names from a place on, the last one first
unfoldable pub names_at : List ℕ → Table → ℕ → ℕ → List (List ℕ)
names_at fl tab from zero = []
names_at fl tab from (suc k) = name_at fl tab (from + k) ∷ names_at fl tab from k

-- how many names a family has
abbrev pub size_at : Table → ℕ → ℕ
size_at tab j = get_or tab.sizes j 0

-- the names of a family, counted from 0; or of none
abbrev pub kin_of : List ℕ → Table → ℕ → List (List ℕ)
kin_of fl tab j = if ltb j 256 && leb (size_at tab j) 8 then names_at fl tab (j * 8) (size_at tab j) else []

abbrev pub kin_in : List ℕ → Table → Option ℕ → List (List ℕ)
kin_in fl tab None = []
kin_in fl tab (Some j) = kin_of fl tab j

-- the families, the newest first
abbrev pub family_at : List ℕ → Table → ℕ → Family
family_at fl tab j = record { place = (entry_at tab (j * 8)).place; first = name_at fl tab (j * 8); others = names_at fl tab (j * 8 + 1) (size_at tab j - 1) }

unfoldable pub families_at : List ℕ → Table → ℕ → List Family
families_at fl tab zero = []
families_at fl tab (suc k) = family_at fl tab k ∷ families_at fl tab k

-- each of so many families has 1 to 8 names
pub record SizeGood (tab : Table) (j : ℕ) : Type 0 where
  pub some : 1 ≤ size_at tab j
  pub few : size_at tab j ≤ 8

pub record Sized (tab : Table) (n : ℕ) : Type 0 where
  pub few_families : n ≤ 256
  pub each : (j : ℕ) → j < n → SizeGood tab j

-- the family that a name is in, the oldest being number 0
unfoldable pub owner_of : List ℕ → List Family → Option ℕ
owner_of n [] = None
owner_of n (f ∷ fs) = let more = owner_of n fs in if is_in n (names_in f) then Some (length fs) else more
