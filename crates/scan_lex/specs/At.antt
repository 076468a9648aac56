-- The runs of bytes of document 01 ("Bytes, spaces, numbers") at a place of a list, as the scanners answer them: places are those of
-- the list.
use Rattle.std.specs.Prelude.{ℕ, ◌+◌, Bool, not, ◌&&◌, List, drop, get_or, if◌then◌else◌}
use Rattle.rules.specs.Bytes.{is, is_white, is_not_white, is_barred, span, one_line}
use Rattle.rules.specs.Drawing.{line_ends}

unfoldable pub run_end : (ℕ → Bool) → List ℕ → ℕ → ℕ
run_end p s at = at + span p (drop at s)

-- a byte that may stand in a name: it is neither whitespace nor barred (2026-06)
abbrev pub is_name_byte : ℕ → Bool
is_name_byte b = is_not_white b && not (is_barred b)

-- the place behind what stands between commands at a place: a byte of whitespace, or a comment up to its newline; where neither
-- stands it is the place itself
unfoldable pub blank_at : List ℕ → ℕ → ℕ
blank_at s at =
    if is_white (get_or s at 0) then at + 1 else
    if is "#" (get_or s at 0) then at + 1 + one_line (drop (at + 1) s) else
    at

-- the line breaks at a place, perhaps behind a spacer and a comment
unfoldable pub breaks_at : List ℕ → ℕ → Bool
breaks_at s at = line_ends (drop at s)
