-- The width list as the reader's scratch row holds it: the blocks of widths, and the names of the fonts, a row of places and one of lengths.
use Rattle.std.specs.Prelude.{ℕ, ◌+◌, ◌*◌, ◌<◌, ◌≤◌, List, [], ◌∷◌, ◌≡◌, eqb, length, take, drop, get_or, if◌then◌else◌}
use Rattle.std.proofs.Math.Option.{Option, none, some}
use Rattle.rules.specs.Bytes.{same}
use Rattle.rules.specs.Widths.{Font, width_in}

-- The slot of a font is its number in the list, counted from 0. The rules keep the newest font first, so the slot of a font is how
-- many stand behind it.
abbrev pub no_font : Font
no_font = record { name = []; widths = [] }

unfoldable pub font_at : ℕ → List Font → Font
font_at i [] = no_font
font_at i (f ∷ fs) = let more = font_at i fs in if eqb (length fs) i then f else more

-- the slot of the font of a name, 32 where there is none
unfoldable pub slot_of : List ℕ → List Font → ℕ
slot_of n [] = 32
slot_of n (f ∷ fs) = let more = slot_of n fs in if same f.name n then length fs else more

-- a width as the table holds it: 0 for none, else the width + 1
abbrev pub entry_for : Option ℕ → ℕ
entry_for none = 0
entry_for (some w) = w + 1

-- the table: 256 places for each font
abbrev pub TableOf : List Font → List ℕ → Type 0
TableOf fs table = (i b : ℕ) → i < length fs → b < 256 → get_or table (i * 256 + b) 0 ≡ entry_for (width_in b (font_at i fs).widths)

-- the names: of each font its name's place and length in the list
abbrev pub NamesOf : List ℕ → List Font → List ℕ → List ℕ → Type 0
NamesOf list fs places lens =
    (i : ℕ) → i < length fs → (get_or places i 0 + get_or lens i 0 ≤ length list) × (take (get_or lens i 0) (drop (get_or places i 0) list) ≡ (font_at i fs).name)
