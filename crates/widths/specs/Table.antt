-- What loading a width list answers, and what it leaves in the table.
use Rattle.std.specs.Prelude.{List, ℕ, length, Result, Ok, Err}
use Rattle.rules.specs.declared.Refusal.{Refusal}
use Rattle.rules.specs.Answers.{refusal}
use Rattle.rules.specs.Widths.{WidthList, unsound, sound}
use Rattle.widths_table.specs.declared.Block.{Block}
use Rattle.widths_table.specs.Blocks.{BlocksOf}
use Rattle.widths.specs.declared.Sound.{Sound}

-- refusal 2, or the unitwidth and how many fonts there are
abbrev pub list_of : WidthList → Result Sound Refusal
list_of (unsound at) = Err (refusal 2 at)
list_of (sound w) = Ok (record { unitwidth = w.unitwidth; fonts = length w.fonts })

abbrev pub Loaded : List ℕ → List Block → WidthList → Type 0
Loaded list table (unsound at) = Unit {0}
Loaded list table (sound w) = BlocksOf list w.fonts table
