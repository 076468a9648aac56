-- What the scanner of drawings answers by the letter behind `D`.
use Rattle.std.specs.Prelude.{ℕ, List, Result, Err}
use Rattle.rules.specs.declared.Refusal.{Refusal}
use Rattle.rules.specs.Answers.{refusal}
use Rattle.rules.specs.Bytes.{is_space}
use Rattle.scan_command.specs.declared.Command.{Command}
use Rattle.scan_letters.specs.Selected.{drawing_of}
use Rattle.scan_letters.specs.declared.Drawing.{Drawing}
use Rattle.scan_letters.specs.declared.Drawing.TheVariants as W
use Rattle.scan_lex.specs.At.{run_end}
use Rattle.scan_colours.specs.Parts.{fill_set}
use Rattle.scan_shapes.specs.Parts.{one_drawn, dummied_drawn, two_drawn, four_drawn, pairs_drawn, gray_set}

-- by what the letter b selects: the command at a place, its arguments due from i on
abbrev pub drawn_by : ℕ → List ℕ → ℕ → ℕ → Drawing → Result Command Refusal
drawn_by b s at i (W.One m) = one_drawn b m s at i
drawn_by b s at i (W.Dummied m) = dummied_drawn b m s at i
drawn_by b s at i (W.Two m) = two_drawn b m s at i
drawn_by b s at i W.Four = four_drawn b s at i
drawn_by b s at i W.Pairs = pairs_drawn b s at i
drawn_by b s at i W.Gray = gray_set s at i
drawn_by b s at i W.Scheme = fill_set s at (run_end is_space s i)
drawn_by b s at i W.Unknown = Err (refusal 3 at)

unfoldable pub drawn_at : ℕ → List ℕ → ℕ → ℕ → Result Command Refusal
drawn_at b s at i = drawn_by b s at i (drawing_of b)
