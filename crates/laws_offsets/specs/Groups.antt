-- Request 2026-01, which family lists are sound: "lines, each ended by a newline: `name=N` (N a string of 1 to 64 bytes) each followed by one
-- or more `same=N`, at most 256 families of at most 8 names, no name in two families or twice in one". The text of a list as a function of
-- its families, and which lines a sound list may go on with; the proofs stand in `proofs/Families.antt` and `proofs/FamilyLines.antt`.
use Rattle.std.specs.Prelude.{ℕ, ◌+◌, ◌<◌, ◌≤◌, List, [], ◌∷◌, ◌++◌, ◌≡◌, length}
use Rattle.rules.specs.Bytes.{bytes}
use Rattle.rules.specs.Families.{Family, ill_grouped, grouped, family_list}
use Rattle.laws_find.specs.Occurs.{Among}
use Rattle.laws_find.specs.Written.{GoodName}

-- the text of one line
abbrev pub NoNewline : List ℕ → Type 0
NoNewline [] = Unit {0}
NoNewline (b ∷ t) = (b ≡ 10 → ⊥) × NoNewline t

-- "lines, each ended by a newline: `name=N` .. followed by one or more `same=N`"
abbrev pub name_text : List ℕ → List ℕ
name_text n = bytes "name=" ++ (n ++ bytes "\n")

abbrev pub same_text : List ℕ → List ℕ
same_text n = bytes "same=" ++ (n ++ bytes "\n")

-- The newest of the other names stands first in a family, and the newest family first among the families: the text has them from the back.
unfoldable pub others_text : List (List ℕ) → List ℕ
others_text [] = []
others_text (n ∷ ns) = others_text ns ++ same_text n

unfoldable pub family_text : List Family → List ℕ
family_text [] = []
family_text (f ∷ fs) = family_text fs ++ (name_text f.first ++ others_text f.others)

-- every name of every family
abbrev pub all_names : List Family → List (List ℕ)
all_names [] = []
all_names (f ∷ fs) = f.others ++ (f.first ∷ all_names fs)

-- "N a string of 1 to 64 bytes"; by 2026-06 none of them is barred
abbrev pub EachGood : List (List ℕ) → Type 0
EachGood [] = Unit {0}
EachGood (n ∷ ns) = GoodName n × EachGood ns

-- "no name in two families or twice in one"
abbrev pub Different : List (List ℕ) → Type 0
Different [] = Unit {0}
Different (n ∷ ns) = (Among n ns → ⊥) × Different ns

-- "one or more `same=N`", "of at most 8 names", the first one counted
abbrev pub OneToSeven : List Family → Type 0
OneToSeven [] = Unit {0}
OneToSeven (f ∷ fs) = (1 ≤ length f.others) × (length f.others ≤ 7) × OneToSeven fs

-- the place of a family is that of its first name: behind the older families and the 5 bytes `name=`
abbrev pub AtNames : List Family → Type 0
AtNames [] = Unit {0}
AtNames (f ∷ fs) = (f.place ≡ length (family_text fs) + 5) × AtNames fs

pub record GoodFamilies (fs : List Family) : Type 0 where
  -- "at most 256 families"
  pub few : length fs ≤ 256
  pub others : OneToSeven fs
  pub names : EachGood (all_names fs)
  pub differ : Different (all_names fs)
  pub places : AtNames fs

-- What is written for good families is a sound list of these families, and nothing else is sound.
pub record FamilyTexts : Type 0 where
  pub given : (fs : List Family) → GoodFamilies fs → family_list (family_text fs) ≡ grouped fs
  pub only : (t : List ℕ) (fs : List Family) → family_list t ≡ grouped fs → (t ≡ family_text fs) × GoodFamilies fs

-- ---- line by line: "a wrong list is refused as 14, offset of its first wrong line or its length where a line is missing at the end"

-- what a further family asks of its first name: "a string of 1 to 64 bytes" (by 2026-06 none of them barred), "at most 256 families", "no
-- name in two families"
pub record MayBegin (n : List ℕ) (fs : List Family) : Type 0 where
  pub good : GoodName n
  pub few : length fs < 256
  pub new : Among n (all_names fs) → ⊥

-- what a further name asks of the newest family: there is one, "of at most 8 names", the first one counted
abbrev pub RoomIn : List Family → Type 0
RoomIn [] = ⊥
RoomIn (f ∷ fs) = length f.others < 7

-- and of the name: the same, "no name in two families or twice in one"
pub record MayJoin (n : List ℕ) (fs : List Family) : Type 0 where
  pub good : GoodName n
  pub room : RoomIn fs
  pub new : Among n (all_names fs) → ⊥

abbrev pub with_family : ℕ → List ℕ → List (List ℕ) → List Family → List Family
with_family at n ns fs = record { place = at; first = n; others = ns } ∷ fs

abbrev pub with_name : List ℕ → Family → Family
with_name n f = record { place = f.place; first = f.first; others = n ∷ f.others }

-- the text of a line does not start with a key
abbrev pub NoKey : List ℕ → List ℕ → Type 0
NoKey key t = (n : List ℕ) → t ≡ key ++ n → ⊥

-- Behind a sound list fl the line of such a name is right; that of any other name, and a line with neither key, is the first wrong line,
-- whatever stands behind it (m).
pub record FamilyLines : Type 0 where
  -- "`name=N` .. followed by one or more `same=N`": with one, the list is sound again
  pub name_given : (fl : List ℕ) (fs : List Family) (n k : List ℕ) → family_list fl ≡ grouped fs → MayBegin n fs → GoodName k → (Among k (n ∷ all_names fs) → ⊥)
      → family_list (fl ++ (name_text n ++ same_text k)) ≡ grouped (with_family (length fl + 5) n (k ∷ []) fs)
  pub name_only : (fl : List ℕ) (fs : List Family) (n m : List ℕ) → family_list fl ≡ grouped fs → NoNewline n → (MayBegin n fs → ⊥)
      → family_list (fl ++ (name_text n ++ m)) ≡ ill_grouped (length fl)
  -- "or its length where a line is missing at the end"
  pub name_alone : (fl : List ℕ) (fs : List Family) (n : List ℕ) → family_list fl ≡ grouped fs → MayBegin n fs → family_list (fl ++ name_text n) ≡ ill_grouped (length (fl ++ name_text n))
  -- behind a right `name` line every other line than that `same` line is the first wrong one: such as a second `name` line
  pub name_behind_name : (fl : List ℕ) (fs : List Family) (n k m : List ℕ) → family_list fl ≡ grouped fs → MayBegin n fs → NoNewline k
      → family_list (fl ++ (name_text n ++ (name_text k ++ m))) ≡ ill_grouped (length (fl ++ name_text n))
  pub else_behind_name : (fl : List ℕ) (fs : List Family) (n t m : List ℕ) → family_list fl ≡ grouped fs → MayBegin n fs → NoNewline t
      → ((k : List ℕ) → t ≡ bytes "same=" ++ k → GoodName k → (Among k (n ∷ all_names fs) → ⊥) → ⊥)
      → family_list (fl ++ (name_text n ++ (t ++ (bytes "\n" ++ m)))) ≡ ill_grouped (length (fl ++ name_text n))
  pub same_given : (fl : List ℕ) (f : Family) (fs : List Family) (n : List ℕ) → family_list fl ≡ grouped (f ∷ fs) → MayJoin n (f ∷ fs)
      → family_list (fl ++ same_text n) ≡ grouped (with_name n f ∷ fs)
  pub same_only : (fl : List ℕ) (fs : List Family) (n m : List ℕ) → family_list fl ≡ grouped fs → NoNewline n → (MayJoin n fs → ⊥)
      → family_list (fl ++ (same_text n ++ m)) ≡ ill_grouped (length fl)
  pub other_line : (fl : List ℕ) (fs : List Family) (t m : List ℕ) → family_list fl ≡ grouped fs → NoNewline t → NoKey (bytes "name=") t → NoKey (bytes "same=") t
      → family_list (fl ++ (t ++ (bytes "\n" ++ m))) ≡ ill_grouped (length fl)
