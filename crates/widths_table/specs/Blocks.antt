-- The width list as the table holds it.
use Rattle.std.specs.Prelude.{ℕ, ◌+◌, ◌<◌, ◌≤◌, List, [], ◌≡◌, length, get_or}
use Rattle.rules.specs.Widths.{Font, width_in}
use Rattle.name.specs.Part.{part_of}
use Rattle.widths_table.specs.Table.{font_at, entry_for}
use Rattle.widths_table.specs.declared.Block.{Block}

-- a font: its name stands in the list, and of each byte there is the width
pub record BlockOf (list : List ℕ) (f : Font) (b : Block) : Type 0 where
  pub within : b.name.place + b.name.len ≤ length list
  pub name : part_of list b.name.place b.name.len ≡ f.name
  pub long : length b.widths ≡ 256
  pub widths : (c : ℕ) → c < 256 → get_or b.widths c 0 ≡ entry_for (width_in c f.widths)

abbrev pub no_block : Block
no_block = record { name = record { place = 0; len = 0 }; widths = [] }

-- each font stands in its slot
abbrev pub BlocksOf : List ℕ → List Font → List Block → Type 0
BlocksOf list fs table = (i : ℕ) → i < length fs → BlockOf list (font_at i fs) (get_or table i no_block)
