-- Request 2026-01, "Letters under all their names": the family list, and the family of a name.
use Rattle.std.specs.Prelude.{ℕ, ◌+◌, Bool, true, false, ◌&&◌, ◌||◌, List, [], ◌∷◌, ◌++◌, ltb, length, if◌then◌else◌}
use Rattle.std.proofs.Math.Option.{Option, none, some}
use Rattle.rules.specs.Bytes.{bytes, same}
use Rattle.rules.specs.Widths.{Line, lines_from, behind, is_list_name}

-- ---- families

-- "`name=N` .. followed by one or more `same=N`": where the first name stands in the list, that name, and the others, the newest first
pub record Family : Type 0 where
  pub place : ℕ
  pub first : List ℕ
  pub others : List (List ℕ)

abbrev pub names_in : Family → List (List ℕ)
names_in f = f.others ++ (f.first ∷ [])

-- a name is one of these
unfoldable pub is_in : List ℕ → List (List ℕ) → Bool
is_in n [] = false
is_in n (m ∷ ms) = let more = is_in n ms in same n m || more

-- the family that a name is in; the newest family stands first
unfoldable pub family_of : List ℕ → List Family → Option Family
family_of n [] = none
family_of n (f ∷ fs) = let more = family_of n fs in if is_in n (names_in f) then some f else more

abbrev pub names_of : Option Family → List (List ℕ)
names_of none = []
names_of (some f) = names_in f

-- ---- the list: "lines, each ended by a newline: `name=N` (N a string of 1 to 64 bytes) each followed by one or more `same=N`"

abbrev pub is_none : Option Family → Bool
is_none none = true
is_none (some f) = false

-- "N a string of 1 to 64 bytes"; "no name in two families or twice in one"
abbrev pub is_new_name : List ℕ → List Family → Bool
is_new_name n fs = is_list_name n && is_none (family_of n fs)

-- "each followed by one or more `same=N`"
abbrev pub is_whole : List Family → Bool
is_whole [] = true
is_whole (f ∷ fs) = ltb 0 (length f.others)

-- "at most 256 families of at most 8 names": so 7 others
abbrev pub families_most : ℕ
families_most = 256

abbrev pub others_most : ℕ
others_most = 7

-- a line is wrong where it stands, or these are the families behind it
abbrev pub name_line : List Family → ℕ → List ℕ → Option (List Family)
name_line fs at n =
    if is_whole fs && (ltb (length fs) families_most && is_new_name n fs)
    then some (record { place = at; first = n; others = [] } ∷ fs)
    else none

abbrev pub same_line : List Family → Option (List ℕ) → Option (List Family)
same_line fs none = none
same_line [] (some n) = none
same_line (f ∷ fs) (some n) =
    if ltb (length f.others) others_most && is_new_name n (f ∷ fs)
    then some (record { place = f.place; first = f.first; others = n ∷ f.others } ∷ fs)
    else none

-- a line with the text t: behind `name=`, which has 5 bytes, or where that is not its key
abbrev pub family_line : List Family → ℕ → List ℕ → Option (List ℕ) → Option (List Family)
family_line fs at t (some n) = name_line fs (at + 5) n
family_line fs at t none = same_line fs (behind (bytes "same=") t)

-- a line without a newline is wrong
abbrev pub family_read : List Family → Line → Option (List Family)
family_read fs l = if l.ended then family_line fs l.place l.text (behind (bytes "name=") l.text) else none

-- a list that is wrong at an offset, or its families
pub data FamilyList : Type 0 where
  ill_grouped : ℕ → FamilyList
  grouped : List Family → FamilyList

-- "or its length where a line is missing at the end"
abbrev pub families_end : ℕ → List Family → FamilyList
families_end n fs = if is_whole fs then grouped fs else ill_grouped n

-- "offset of its first wrong line"
abbrev pub families_on : ℕ → (List Family → FamilyList) → Option (List Family) → FamilyList
families_on at go none = ill_grouped at
families_on at go (some fs) = go fs

-- n is the length of the list
unfoldable pub family_lines : ℕ → List Family → List Line → FamilyList
family_lines n fs [] = families_end n fs
family_lines n fs (l ∷ ls) = families_on l.place (λ gs. family_lines n gs ls) (family_read fs l)

unfoldable pub family_list : List ℕ → FamilyList
family_list t = family_lines (length t) [] (lines_from 0 t)
