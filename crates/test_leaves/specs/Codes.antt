-- The answers of the leaves as numbers, for tests: which case, and its values in their order.
use Rattle.std.specs.Prelude.{ℕ, List, ltb, length, if◌then◌else◌}
use Rattle.rules.specs.Widths.{WidthList, unsound, sound, width_list}
use Rattle.rules.specs.Find.{Query, ill_formed, well_formed, query}
use Rattle.scan_command.specs.View.{command_at}
use Rattle.test_codes.specs.declared.Code.{Code}
use Rattle.test_codes.specs.Codes.{code, scanned_code}

-- 0 where there is no byte at the place
abbrev pub code_at : List ℕ → ℕ → Code
code_at s at = if ltb at (length s) then scanned_code (command_at s at) else code 0 0 0 0 0 0 0

-- 1: the offset of a wrong list; 2: unitwidth and number of fonts; 0 where it is too long
abbrev pub list_is : WidthList → Code
list_is (unsound at) = code 1 at 0 0 0 0 0
list_is (sound w) = code 2 w.unitwidth (length w.fonts) 0 0 0 0

abbrev pub list_code : List ℕ → Code
list_code t = if ltb 65_536 (length t) then code 0 0 0 0 0 0 0 else list_is (width_list t)

-- 1: the offset of a wrong query; 2: the number of its glyphs; 0 where it is too long
abbrev pub query_is : Query → Code
query_is (ill_formed at) = code 1 at 0 0 0 0 0
query_is (well_formed qs) = code 2 (length qs) 0 0 0 0 0

abbrev pub query_code : List ℕ → Code
query_code t = if ltb 8_192 (length t) then code 0 0 0 0 0 0 0 else query_is (query t)
