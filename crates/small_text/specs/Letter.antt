-- Letters by their bytes.
use Rattle.std.specs.Prelude.{ℕ, Bool, ◌&&◌, List, [], ◌∷◌, ltb, leb, if◌then◌else◌}

-- 0 is none, and so is what is no byte
abbrev pub is_letter : ℕ → Bool
is_letter b = ltb 0 b && leb b 255

-- the letter, where it is one
abbrev pub letter_of : ℕ → List ℕ
letter_of b = if is_letter b then b ∷ [] else []
