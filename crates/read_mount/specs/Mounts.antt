-- Where the names of the width list stand in the scratch row.
use Rattle.std.specs.Prelude.{ℕ, List, take, drop}
use Rattle.widths_table.specs.Slots.{slot_in}

-- The scratch row has 8768 places: the mounts, the 32 blocks of widths, an empty block for fonts that the list has not, from 8704
-- on the places of the 32 names in the list, and from 8736 on their lengths.
abbrev pub find_in : List ℕ → ℕ → List ℕ → List ℕ → ℕ
find_in list fonts ws n = slot_in list (take 32 (drop 8704 ws)) (take 32 (drop 8736 ws)) fonts n
