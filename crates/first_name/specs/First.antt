-- The first name of a family, as the code holds it.
use Rattle.std.specs.Prelude.{ℕ, ◌+◌, Bool, ◌&&◌, ltb, leb, length, Option, Some, None}
use Rattle.std.proofs.Math.Option as M
use Rattle.rules.specs.declared.NamePart.{NamePart}
use Rattle.rules.specs.declared.NamePart.TheVariants.{InFamilies}
use Rattle.rules.specs.Families.{Family}

-- where it stands in the list
abbrev pub first_of : M.Option Family → Option NamePart
first_of M.none = None
first_of (M.some f) = Some (InFamilies f.place (length f.first))

-- a name lies in a stream of n bytes
abbrev pub lies_in : ℕ → ℕ → ℕ → Bool
lies_in n place len = ltb 0 len && leb (place + len) n
