-- Document 02, request 2026-06: "any byte 0 to 8, 11 to 31 or 127", said by the numbers themselves, apart from the rules' test.
use Rattle.std.specs.Prelude.{ℕ, ◌≤◌, List, [], ◌∷◌, ◌⊎◌, ◌≡◌}

abbrev pub Barred : ℕ → Type 0
Barred b = (b ≤ 8) ⊎ (((11 ≤ b) × (b ≤ 31)) ⊎ (b ≡ 127))

-- none of these bytes is barred; one of them is
abbrev pub NoBarred : List ℕ → Type 0
NoBarred [] = Unit {0}
NoBarred (b ∷ n) = (Barred b → ⊥) × NoBarred n

abbrev pub SomeBarred : List ℕ → Type 0
SomeBarred [] = ⊥
SomeBarred (b ∷ n) = Barred b ⊎ SomeBarred n
