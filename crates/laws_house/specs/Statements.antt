-- Document 01, "House spelling": every line of a spelling is a house line, and its integers are shortest.
use Rattle.std.specs.Prelude.{ℕ, ◌≤◌, List, ◌≡◌, length}
use Rattle.rules.specs.Bytes.{Num, int, integer, most, moved}
use Rattle.rules.specs.House.{signed_decimal}
use Rattle.rules.specs.Answers.{spelled, respell}
use Rattle.laws_house.specs.Lines.{Shortest, HouseText}

-- "One command a line, one space before each argument, integers shortest", as the grammar of bytes has it
abbrev pub SpeltInLines : Type 0
SpeltInLines = (s list t : List ℕ) → respell s list ≡ spelled t → HouseText t

-- ---- "integers shortest", by their lengths

-- All bytes of x are one integer, and any bytes at the front of any text that say the same integer are no fewer. (Beyond the limit of
-- all numbers `moved` does not tell one from another.)
pub record Least (x : List ℕ) : Type 0 where
  pub number : Num
  pub reads : integer x ≡ int number (length x)
  pub fewest : (r : List ℕ) (m : Num) (l : ℕ) → integer r ≡ int m l → moved m ≡ moved number → number.mag ≤ most → length x ≤ l

-- so it is of the integers of the grammar
abbrev pub ShortestIsLeast : Type 0
ShortestIsLeast = (x : List ℕ) → Shortest x → Least x

-- and of every number as the rules spell it
abbrev pub ShortestNumber : Type 0
ShortestNumber = (n : ℕ) (r : List ℕ) (m : Num) (l : ℕ) → integer r ≡ int m l → moved m ≡ n → length (signed_decimal n) ≤ l
