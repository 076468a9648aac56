-- The family list line by line, as the code goes over it.
use Rattle.std.specs.Prelude.{ℕ, ◌+◌, ◌-◌, ◌*◌, ◌≤◌, ◌<◌, Bool, true, false, ◌&&◌, List, [], ◌∷◌, ◌≡◌, length, take, drop, get_or, set, suc, Option, None, Result, Ok, Err, if◌then◌else◌}
use Rattle.rules.specs.declared.Refusal.{Refusal}
use Rattle.rules.specs.Answers.{refusal}
use Rattle.rules.specs.Widths.{lines_from}
use Rattle.rules.specs.Families.{Family, is_none, family_of, is_new_name, FamilyList, ill_grouped, grouped, family_lines, family_list}
use Rattle.families_table.specs.Table.{families_at, Sized}
use Rattle.families_table.specs.declared.FamilyName.{FamilyName}
use Rattle.families_table.specs.declared.Table.{Table}
use Rattle.families_line.specs.Line.{key_of, may_stand, mark_of}
use Rattle.families_line.specs.declared.Key.{Key}
use Rattle.families_line.specs.declared.Key.TheVariants.{Name, Same}
use Rattle.families.specs.declared.FamilyState.{FamilyState}

-- where the mark of a name is not set, it is in none of the families
pub record Marked (seen : List Bool) (fs : List Family) : Type 0 where
  pub each : (n : List ℕ) → get_or seen (mark_of n) false ≡ false → is_none (family_of n fs) ≡ true

-- a line's key, where a line with it may stand and its name is new
abbrev pub key_if : Option Key → ℕ → ℕ → Bool → Option Key
key_if key families size new = if may_stand key families size && new then key else None

-- the key of the line from the state's place to e, none where the line is wrong
unfoldable pub line_key : List ℕ → Table → FamilyState → ℕ → Option Key
line_key fl tab st e =
    let key = key_of (take (e - st.at) (drop st.at fl)) in
    let name = take (e - (st.at + 5)) (drop (st.at + 5) fl) in
    key_if key st.families st.size (is_new_name name (families_at fl tab st.families))

-- the state behind a line with a key
abbrev pub next_of : Key → ℕ → FamilyState → FamilyState
next_of Name at st = record { at = at; families = st.families + 1; size = 1 }
next_of Same at st = record { at = at; families = st.families; size = st.size + 1 }

-- a place for the newest name of a family
pub record Slot (j size : ℕ) : Type 0 where
  pub family : j < 256
  pub some : 1 ≤ size
  pub few : size ≤ 8

-- the table with that name in it
abbrev pub put_at : Table → ℕ → ℕ → FamilyName → Table
put_at tab j size name = record { names = set tab.names (j * 8 + size - 1) name; sizes = set tab.sizes j size }

-- the table behind `put`; its rows are as long as their types say
pub record Put (old : Table) (j size : ℕ) (name : FamilyName) (tab : Table) : Type 0 where
  pub table : tab ≡ put_at old j size name
  pub names_room : length old.names ≡ 2048
  pub sizes_room : length old.sizes ≡ 256

-- how many names the newest family has
abbrev pub newest_size : List Family → ℕ
newest_size [] = 0
newest_size (f ∷ fs) = suc (length f.others)

-- Between two lines: what the lines still to come say, put behind the families so far, which the table holds, is what the whole list says.
pub record Going (fl : List ℕ) (st : FamilyState) (tab : Table) (seen : List Bool) : Type 0 where
  pub rest : family_list fl ≡ family_lines (length fl) (families_at fl tab st.families) (lines_from st.at (drop st.at fl))
  pub sized : Sized tab st.families
  pub marked : Marked seen (families_at fl tab st.families)
  pub size_is : newest_size (families_at fl tab st.families) ≡ st.size
  pub few_names : st.size ≤ 8
  pub within : st.at ≤ length fl
  pub short : length fl ≤ 65536
  pub seen_room : length seen ≡ 16384

-- the next state, or the line at the state's place is the first wrong one
abbrev pub Turned : List ℕ → FamilyState → Result FamilyState Refusal → Table → List Bool → Type 0
Turned fl st (Ok u) tab seen = Going fl u tab seen × (st.at < u.at)
Turned fl st (Err r) tab seen = (family_list fl ≡ ill_grouped st.at) × (r ≡ refusal 14 st.at)

-- refusal 14 with its offset, or how many families there are
abbrev pub answer_of : FamilyList → Result ℕ Refusal
answer_of (ill_grouped at) = Err (refusal 14 at)
answer_of (grouped fs) = Ok (length fs)

-- the table holds the families
pub record Holds (fl : List ℕ) (tab : Table) (fs : List Family) : Type 0 where
  pub families : families_at fl tab (length fs) ≡ fs
  pub sized : Sized tab (length fs)
  pub few : length fs ≤ 256

abbrev pub Loaded : List ℕ → Table → FamilyList → Type 0
Loaded fl tab (ill_grouped at) = Unit {0}
Loaded fl tab (grouped fs) = Holds fl tab fs
