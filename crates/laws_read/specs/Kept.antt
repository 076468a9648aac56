-- The acts of a list of commands that are no motions, in order: what the house spelling keeps.
use Rattle.std.specs.Prelude.{ℕ, List, [], ◌∷◌, ◌++◌, map}
use Rattle.rules.specs.Act.{Act, glyph, index, to, by, page, font, size, colour, break, space, draw, device, resolution, init, file, mount, plain, raw, stop, Cmd, just, word, pair}

abbrev pub unmoved : Act → List Act
unmoved (glyph n) = glyph n ∷ []
unmoved (index n) = index n ∷ []
unmoved (to x n) = []
unmoved (by x n) = []
unmoved (page n) = page n ∷ []
unmoved (font n) = font n ∷ []
unmoved (size n) = size n ∷ []
unmoved (colour c ns) = colour c ns ∷ []
unmoved break = break ∷ []
unmoved space = space ∷ []
unmoved (draw s ns) = draw s ns ∷ []
unmoved (device n) = device n ∷ []
unmoved (resolution n h v) = resolution n h v ∷ []
unmoved init = init ∷ []
unmoved (file n) = file n ∷ []
unmoved (mount n m) = mount n m ∷ []
unmoved (plain c ns) = plain c ns ∷ []
unmoved (raw t) = raw t ∷ []
unmoved stop = stop ∷ []

unfoldable pub unmotioned : List Act → List Act
unmotioned [] = []
unmotioned (a ∷ xs) = unmoved a ++ unmotioned xs

-- the same of commands: "`t`, `u` and two-digit commands become single glyphs"
abbrev pub single_glyph : ℕ → Act
single_glyph b = glyph (b ∷ [])

abbrev pub kept_of : Cmd → List Act
kept_of (just a) = unmoved a
kept_of (word n bs) = map single_glyph bs
kept_of (pair n b) = single_glyph b ∷ []

unfoldable pub all_kept : List Cmd → List Act
all_kept [] = []
all_kept (c ∷ cs) = kept_of c ++ all_kept cs
