-- Where a reader of commands is before each act that `H` and `V` are written before: what the house spelling keeps of the motions.
use Rattle.std.specs.Prelude.{List, [], ◌∷◌, ◌++◌}
use Rattle.rules.specs.Act.{Act, glyph, index, to, by, page, font, size, colour, break, space, draw, device, resolution, init, file, mount, plain, raw, stop, Cmd}
use Rattle.rules.specs.Widths.{Widths}
use Rattle.rules.specs.State.{Spot, Env, Step, refused, went, act, Acts, no_acts, these, acts, perform}

-- "Before a glyph, `N`, any `D`, `x X` or `x s`"
abbrev pub spot_before : Spot → Act → List Spot
spot_before p (glyph n) = p ∷ []
spot_before p (index n) = p ∷ []
spot_before p (to x n) = []
spot_before p (by x n) = []
spot_before p (page n) = []
spot_before p (font n) = []
spot_before p (size n) = []
spot_before p (colour c ns) = []
spot_before p break = []
spot_before p space = []
spot_before p (draw s ns) = p ∷ []
spot_before p (device n) = []
spot_before p (resolution n h v) = []
spot_before p init = []
spot_before p (file n) = []
spot_before p (mount n m) = []
spot_before p (plain c ns) = []
spot_before p (raw t) = p ∷ []
spot_before p stop = p ∷ []

abbrev pub spots_on : (Env → List Spot) → Step → List Spot
spots_on go (refused n) = []
spots_on go (went e gs xs) = go e

unfoldable pub spots_from : Env → List Act → List Spot
spots_from e [] = []
spots_from e (a ∷ xs) = spot_before e.spot a ++ spots_on (λ e'. spots_from e' xs) (act e a)

-- of the single acts that a command comes to, and of all commands
abbrev pub spots_in : Env → Acts → List Spot
spots_in e (no_acts n) = []
spots_in e (these xs) = spots_from e xs

unfoldable pub spots_of : Widths → Env → List Cmd → List Spot
spots_of w e [] = []
spots_of w e (c ∷ cs) = spots_in e (acts w e c) ++ spots_on (λ e'. spots_of w e' cs) (perform e (acts w e c))
