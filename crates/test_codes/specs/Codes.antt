-- What was scanned as numbers, for tests: which case, and its values in their order.
use Rattle.std.specs.Prelude.{ℕ, Result, Ok, Err}
use Rattle.rules.specs.declared.Refusal.{Refusal}
use Rattle.scan_command.specs.declared.Axis.{Axis}
use Rattle.scan_command.specs.declared.Axis.TheVariants.{Across, Down}
use Rattle.scan_command.specs.declared.Command.{Command}
use Rattle.scan_command.specs.declared.Command.TheVariants as C
use Rattle.test_codes.specs.declared.Code.{Code}

abbrev pub code : ℕ → ℕ → ℕ → ℕ → ℕ → ℕ → ℕ → Code
code t a b c d e f = record { tag = t; a = a; b = b; c = c; d = d; e = e; f = f }

abbrev pub axis_number : Axis → ℕ
axis_number Across = 0
axis_number Down = 1

-- the cases of a command, counted from 1; the last number is the place behind it
abbrev pub code_of : Command → Code
code_of (C.Glyph p l n) = code 1 p l 0 0 0 n
code_of (C.Index i n) = code 2 i 0 0 0 0 n
code_of (C.Word t p q n) = code 3 t p q 0 0 n
code_of (C.Pair i p n) = code 4 i p 0 0 0 n
code_of (C.To x i n) = code 5 (axis_number x) i 0 0 0 n
code_of (C.By x i n) = code 6 (axis_number x) i 0 0 0 n
code_of (C.Page i n) = code 7 i 0 0 0 0 n
code_of (C.Font i n) = code 8 i 0 0 0 0 n
code_of (C.Size i n) = code 9 i 0 0 0 0 n
code_of (C.Colour s a b c d n) = code 10 s a b c d n
code_of (C.Break n) = code 11 0 0 0 0 0 n
code_of (C.Space n) = code 12 0 0 0 0 0 n
code_of (C.Draw b h v k n) = code 13 b h v k 0 n
code_of (C.Gray i n) = code 14 i 0 0 0 0 n
code_of (C.Fill s a b c d n) = code 15 s a b c d n
code_of (C.Device p l n) = code 16 p l 0 0 0 n
code_of (C.Resolution q n) = code 17 q 0 0 0 0 n
code_of (C.Init n) = code 18 0 0 0 0 0 n
code_of (C.File p l n) = code 19 p l 0 0 0 n
code_of (C.Mount i p l n) = code 20 i p l 0 0 n
code_of (C.Plain b n) = code 21 b 0 0 0 0 n
code_of (C.Raw n) = code 22 0 0 0 0 0 n
code_of (C.Stop n) = code 23 0 0 0 0 0 n

-- a refusal is the case behind those of the commands: its number and its place
abbrev pub scanned_code : Result Command Refusal → Code
scanned_code (Ok q) = code_of q
scanned_code (Err r) = code 24 r.number r.offset 0 0 0 0
