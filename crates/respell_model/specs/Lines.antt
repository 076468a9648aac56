-- The line of one command in the house spelling, as the code makes it from the command and the stream. In the code's own steps.
use Rattle.std.specs.Prelude.{ℕ, zero, suc, ◌+◌, ◌*◌, ◌-◌, ◌&&◌, not, List, [], ◌∷◌, ◌++◌, ltb, eqb, take, drop, get_or, Option, Some, None, if◌then◌else◌}
use Rattle.rules.specs.Bytes.{bytes, is, is_space, is_not_white}
use Rattle.rules.specs.House.{decimal}
use Rattle.scan_command.specs.declared.Command.{Command}
use Rattle.scan_command.specs.declared.Command.TheVariants as C
use Rattle.scan_letters.specs.Selected.{byte_of, drawing_of, parts_of, control_of}
use Rattle.scan_letters.specs.declared.Drawing.{Drawing}
use Rattle.scan_letters.specs.declared.Drawing.TheVariants as D
use Rattle.scan_letters.specs.declared.Parts.{Parts}
use Rattle.scan_letters.specs.declared.Parts.TheVariants as P
use Rattle.scan_letters.specs.declared.Control.{Control}
use Rattle.scan_letters.specs.declared.Control.TheVariants as X
use Rattle.scan_arguments.specs.declared.Argument.{Argument}
use Rattle.scan_lex.specs.At.{run_end}
use Rattle.scan_arguments.specs.At.{one_at}
use Rattle.respell_model.specs.Sheet.{small, signed_small}

-- ---- arguments: "one space before each argument, integers shortest"

-- of a number that is moved up
abbrev pub signed_arg : ℕ → List ℕ
signed_arg n = 32 ∷ signed_small n

-- of one that is not
abbrev pub plain_arg : ℕ → List ℕ
plain_arg n = 32 ∷ decimal (small n)

-- a part of the stream
abbrev pub name_arg : List ℕ → ℕ → ℕ → List ℕ
name_arg s p l = 32 ∷ take l (drop p s)

-- n integers that stand in the stream from a place on
abbrev pub arg_then : (ℕ → List ℕ) → Option Argument → List ℕ
arg_then go None = []
arg_then go (Some a) = signed_arg a.number ++ go a.next

unfoldable pub args_from : ℕ → List ℕ → ℕ → List ℕ
args_from zero s p = []
args_from (suc n) s p = arg_then (λ q. args_from n s q) (one_at s p)

-- as many of the four components as a scheme has
abbrev pub three_args : ℕ → ℕ → ℕ → List ℕ
three_args a b c = plain_arg a ++ (plain_arg b ++ plain_arg c)

abbrev pub part_args : Parts → ℕ → ℕ → ℕ → ℕ → List ℕ
part_args P.Zero a b c d = []
part_args P.One a b c d = plain_arg a
part_args P.Three a b c d = three_args a b c
part_args P.Four a b c d = plain_arg a ++ three_args b c d
part_args P.Unknown a b c d = []

-- how many integers a drawing keeps: the dummy goes; k is how many pairs it moves by
abbrev pub draw_count : Drawing → ℕ → ℕ
draw_count (D.One m) k = 1
draw_count (D.Dummied m) k = 1
draw_count (D.Two m) k = 2
draw_count D.Four k = 4
draw_count D.Pairs k = 2 * k
draw_count D.Gray k = 1
draw_count D.Scheme k = 0
draw_count D.Unknown k = 0

-- how many integers alone stand behind the word of a control
abbrev pub control_count : Control → ℕ
control_count X.Device = 0
control_count X.Resolution = 3
control_count X.Init = 0
control_count X.File = 0
control_count X.Mount = 0
control_count X.Bare = 0
control_count (X.Number lo hi) = 1
control_count X.Stop = 0
control_count X.Text = 0
control_count X.Unknown = 0

-- ---- places in a command that begins at a place

-- behind the letter of a `D`
abbrev pub behind_letter : List ℕ → ℕ → ℕ
behind_letter s at = run_end is_space s (at + 1) + 1

-- behind the word of an `x`
abbrev pub behind_word : List ℕ → ℕ → ℕ
behind_word s at = run_end is_not_white s (run_end is_space s (at + 1))

-- the text of an `x X`
abbrev pub text_at : List ℕ → ℕ → ℕ
text_at s at = run_end is_space s (behind_word s at)

-- "`x X` has a space and the first line, or neither where that is empty; then `+` lines": from p to e it stands in the stream as it
-- is written
abbrev pub raw_arg : List ℕ → ℕ → ℕ → List ℕ
raw_arg s p e = (if ltb p e && not (is "\n" (get_or s p 0)) then 32 ∷ [] else []) ++ take (e - p) (drop p s)

-- ---- the line of a command at a place of s, its newline aside; motions have none, words are written glyph by glyph

abbrev pub glyph_letter_of : ℕ → ℕ
glyph_letter_of l = if eqb l 1 then 99 else 67

abbrev pub line_of : List ℕ → ℕ → Command → List ℕ
line_of s at (C.Glyph p l n) = glyph_letter_of l ∷ name_arg s p l
line_of s at (C.Index i n) = 78 ∷ signed_arg i
line_of s at (C.Word t p q n) = []
line_of s at (C.Pair i p n) = 99 ∷ name_arg s p 1
line_of s at (C.To x i n) = []
line_of s at (C.By x i n) = []
line_of s at (C.Page i n) = 112 ∷ signed_arg i
line_of s at (C.Font i n) = 102 ∷ plain_arg i
line_of s at (C.Size i n) = 115 ∷ plain_arg i
line_of s at (C.Colour k a b c d n) = 109 ∷ byte_of k ∷ part_args (parts_of (byte_of k)) a b c d
line_of s at (C.Break n) = bytes "n 0 0"
line_of s at (C.Space n) = bytes "w"
line_of s at (C.Draw b h v k n) = 68 ∷ byte_of b ∷ args_from (draw_count (drawing_of (byte_of b)) k) s (behind_letter s at)
line_of s at (C.Gray i n) = 68 ∷ 102 ∷ signed_arg i
line_of s at (C.Fill k a b c d n) = 68 ∷ 70 ∷ byte_of k ∷ part_args (parts_of (byte_of k)) a b c d
line_of s at (C.Device p l n) = bytes "x T" ++ name_arg s p l
line_of s at (C.Resolution q n) = bytes "x r" ++ args_from 3 s (behind_word s at)
line_of s at (C.Init n) = bytes "x i"
line_of s at (C.File p l n) = bytes "x F" ++ name_arg s p l
line_of s at (C.Mount i p l n) = bytes "x f" ++ (plain_arg i ++ name_arg s p l)
line_of s at (C.Plain b n) = 120 ∷ 32 ∷ byte_of b ∷ args_from (control_count (control_of (byte_of b))) s (behind_word s at)
line_of s at (C.Raw n) = bytes "x X" ++ raw_arg s (text_at s at) n
line_of s at (C.Stop n) = bytes "x s"
