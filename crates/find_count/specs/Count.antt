-- Records found one by one, and how many are left.
use Rattle.std.specs.Prelude.{ℕ, ◌<◌, List, [], ◌∷◌, map, length, Option, Some, None}
use Rattle.rules.specs.Find.{Key as RulesKey}
use Rattle.find_match.specs.Match.{key_in}
use Rattle.find_outline.specs.declared.Outline.{Outline}
use Rattle.find_keys.specs.Keys.{moves_left, keys_at, Fair}
use Rattle.find_count.specs.declared.Found.{Found}

-- the records from the one that was found on
abbrev pub seen_from : List ℕ → Option Found → List RulesKey
seen_from s (Some r) = key_in s r.key ∷ map (key_in s) (keys_at s r.on)
seen_from s None = []

-- where the outline goes on behind the record that was found
abbrev pub GoesOn : List ℕ → Option Found → Type 0
GoesOn s (Some r) = Fair (length s) r.on
GoesOn s None = Unit {0}

-- and it comes nearer to the end
abbrev pub Nearer : List ℕ → Outline → Option Found → Type 0
Nearer s o (Some r) = moves_left s r.on < moves_left s o
Nearer s o None = Unit {0}
