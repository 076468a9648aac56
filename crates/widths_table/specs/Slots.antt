-- What the reader looks at in place of the rules' fonts, in its scratch row: the names' places and lengths in the list.
use Rattle.std.specs.Prelude.{ℕ, zero, suc, List, get_or, if◌then◌else◌}
use Rattle.rules.specs.Bytes.{same}
use Rattle.name.specs.Part.{part_of}

abbrev pub name_at : List ℕ → List ℕ → List ℕ → ℕ → List ℕ
name_at list places lens i = part_of list (get_or places i 0) (get_or lens i 0)

-- the slot of a name among the first k, the newest first; 32 where there is none
unfoldable pub slot_in : List ℕ → List ℕ → List ℕ → ℕ → List ℕ → ℕ
slot_in list places lens zero n = 32
slot_in list places lens (suc k) n = let more = slot_in list places lens k n in if same (name_at list places lens k) n then k else more
