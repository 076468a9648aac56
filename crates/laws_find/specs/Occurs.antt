-- Document 01, "Finding", once more, as a statement about record numbers, with the families of request 2026-01: what the theorems say the
-- list of hits is.
use Rattle.std.specs.Prelude.{ℕ, ◌+◌, ◌<◌, ◌≤◌, List, [], ◌∷◌, ◌⊎◌, ◌≡◌, length, get_or}
use Rattle.rules.specs.Families.{Family}
use Rattle.rules.specs.Find.{Gap, any_gap, no_gap, some_gap, Wanted, Key}

-- what stands where there is no record, and no glyph of the query
abbrev pub no_key : Key
no_key = record { name = []; gap = 0; ordinal = 0 }

abbrev pub no_wanted : Wanted
no_wanted = record { gap = any_gap; name = [] }

abbrev pub key_at : List Key → ℕ → Key
key_at ks i = get_or ks i no_key

abbrev pub wanted_at : List Wanted → ℕ → Wanted
wanted_at qs j = get_or qs j no_wanted

-- "has its gap mark set exactly where a gap line precedes"; nothing is asked of the first glyph's
abbrev pub GapAsAsked : Gap → ℕ → Type 0
GapAsAsked any_gap g = Unit {0}
GapAsAsked no_gap g = g ≡ 0
GapAsAsked some_gap g = 0 < g

-- 2026-01: "Two names match if they are equal or in one family."
abbrev pub Among : List ℕ → List (List ℕ) → Type 0
Among n [] = ⊥
Among n (m ∷ ms) = (n ≡ m) ⊎ Among n ms

abbrev pub Has : Family → List ℕ → Type 0
Has f n = (n ≡ f.first) ⊎ Among n f.others

abbrev pub InOne : List Family → List ℕ → List ℕ → Type 0
InOne [] n m = ⊥
InOne (f ∷ fs) n m = (Has f n × Has f m) ⊎ InOne fs n m

abbrev pub Match : List Family → List ℕ → List ℕ → Type 0
Match fs n m = (n ≡ m) ⊎ InOne fs n m

-- "It occurs at record i if records i, i+1, ... exist for all its glyphs, share one page ordinal, have the same name bytes in
-- order, and each after the first has its gap mark set exactly where a gap line precedes." 2026-01: "The rule for finding in 01 .. read so
-- from now on": names that match.
pub record OccursAt (fs : List Family) (qs : List Wanted) (ks : List Key) (i : ℕ) : Type 0 where
  pub exist : i + length qs ≤ length ks
  pub page : (j : ℕ) → j < length qs → (key_at ks (i + j)).ordinal ≡ (key_at ks i).ordinal
  pub name : (j : ℕ) → j < length qs → Match fs (key_at ks (i + j)).name (wanted_at qs j).name
  pub gap : (j : ℕ) → j < length qs → GapAsAsked (wanted_at qs j).gap (key_at ks (i + j)).gap

-- The glyphs of a query: there is one; of the first one's gap mark nothing is asked, of each other one's that it is not set, or
-- that it is.
abbrev pub IsAsked : Gap → Type 0
IsAsked any_gap = ⊥
IsAsked no_gap = Unit {0}
IsAsked some_gap = Unit {0}

abbrev pub AllAsked : List Wanted → Type 0
AllAsked [] = Unit {0}
AllAsked (q ∷ qs) = IsAsked q.gap × AllAsked qs

abbrev pub QueryShape : List Wanted → Type 0
QueryShape [] = ⊥
QueryShape (q ∷ qs) = (q.gap ≡ any_gap) × AllAsked qs

-- a number stands in a list
abbrev pub Elem : ℕ → List ℕ → Type 0
Elem n [] = ⊥
Elem n (m ∷ ms) = (n ≡ m) ⊎ Elem n ms

-- each number is above the one before it: earliest first, each once
abbrev pub Above : ℕ → List ℕ → Type 0
Above n [] = Unit {0}
Above n (m ∷ ms) = (n ≤ m) × Above (m + 1) ms

abbrev pub Rising : List ℕ → Type 0
Rising ms = Above 0 ms
