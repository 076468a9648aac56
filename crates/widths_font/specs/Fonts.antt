-- What a line asks of the state, and what a font's line does.
use Rattle.std.specs.Prelude.{ℕ, ◌≤◌, Bool, List, length, Result}
use Rattle.std.specs.List.{list_any}
use Rattle.rules.specs.declared.Refusal.{Refusal}
use Rattle.rules.specs.Bytes.{same}
use Rattle.rules.specs.Widths.{Widths, Due, LineRead, font_line}
use Rattle.name.specs.Part.{part_of}
use Rattle.widths_table.specs.declared.Block.{Block}
use Rattle.widths_line.specs.declared.State.{State}
use Rattle.widths_line.specs.Reading.{Holds, After}

-- one of these fonts has the name
abbrev pub is_taken : List ℕ → List Block → List ℕ → Bool
is_taken list fonts n = list_any (λ (b : Block). same (part_of list b.name.place b.name.len) n) fonts

-- behind a line that may change the table, whatever the rules have reached in front of it
pub record Told (list : List ℕ) (table table' : List Block) (st : State) (next : ℕ) (r : Result State Refusal) (says : Widths → Due → LineRead) : Type 0 where
  pub told : (w : Widths) (d : Due) → Holds list table w d st → After list table' st.at next r (says w d)

abbrev pub font_says : List ℕ → Widths → Due → LineRead
font_says n w d = font_line w n

-- what keeps every index and sum within its bounds
pub record Good (list : List ℕ) (st : State) : Type 0 where
  pub short : length list ≤ 65536
  pub within : st.at ≤ length list
  pub few : st.fonts ≤ 32
