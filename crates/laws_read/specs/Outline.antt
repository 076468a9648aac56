-- The outline of a stream: what of its commands finding goes by, whatever the commands by which it was set. Definitions that the
-- theorems of demand 3 name.
use Rattle.std.specs.Prelude.{ℕ, ◌+◌, ◌-◌, List, [], ◌∷◌, ◌++◌, map, ltb, if◌then◌else◌}
use Rattle.rules.specs.Bytes.{origin}
use Rattle.rules.specs.Act.{Act, glyph, index, to, by, page, font, size, colour, break, space, draw, device, resolution, init, file, mount, plain, raw, stop, Cmd, just, word, pair}
use Rattle.rules.specs.Find.{Key}

-- a glyph with its name, a glyph by its index, a gap, a page
pub data Sign : Type 0 where
  named_sign : List ℕ → Sign
  index_sign : ℕ → Sign
  gap_sign : Sign
  page_sign : Sign

abbrev pub signs : Act → List Sign
signs (glyph n) = named_sign n ∷ []
signs (index n) = if ltb n origin then gap_sign ∷ [] else index_sign (n - origin) ∷ []
signs (to x n) = []
signs (by x n) = []
signs (page n) = page_sign ∷ []
signs (font n) = []
signs (size n) = []
signs (colour c ns) = []
signs break = gap_sign ∷ []
signs space = gap_sign ∷ []
signs (draw s ns) = []
signs (device n) = []
signs (resolution n h v) = []
signs init = []
signs (file n) = []
signs (mount n m) = []
signs (plain c ns) = []
signs (raw t) = []
signs stop = []

abbrev pub byte_sign : ℕ → Sign
byte_sign b = named_sign (b ∷ [])

abbrev pub signs_of : Cmd → List Sign
signs_of (just a) = signs a
signs_of (word n bs) = map byte_sign bs
signs_of (pair n b) = byte_sign b ∷ []

unfoldable pub outline : List Cmd → List Sign
outline [] = []
outline (c ∷ cs) = signs_of c ++ outline cs

unfoldable pub outline_acts : List Act → List Sign
outline_acts [] = []
outline_acts (a ∷ xs) = signs a ++ outline_acts xs

-- what finding sees of an outline, from a page's ordinal and a gap mark on
unfoldable pub keys_from : ℕ → ℕ → List Sign → List Key
keys_from o g [] = []
keys_from o g (named_sign n ∷ ms) = record { name = n; gap = g; ordinal = o } ∷ keys_from o 0 ms
keys_from o g (index_sign i ∷ ms) = record { name = []; gap = g; ordinal = o } ∷ keys_from o 0 ms
keys_from o g (gap_sign ∷ ms) = keys_from o 1 ms
keys_from o g (page_sign ∷ ms) = keys_from (o + 1) 1 ms
