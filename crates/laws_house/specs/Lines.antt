-- Document 01, "House spelling": what a text in the house spelling looks like, byte by byte. A grammar of its own, to be held
-- against 01 without the definitions that write a spelling.
use Rattle.std.specs.Prelude.{ℕ, suc, ◌*◌, ◌≤◌, Bool, true, List, [], ◌∷◌, ◌++◌, ◌≡◌}
use Rattle.rules.specs.Bytes.{bytes, is_not_white, is_not_newline, is_digit}
use Rattle.laws.specs.Barred.{NoBarred}

-- each byte passes a test
abbrev pub Each : (ℕ → Bool) → List ℕ → Type 0
Each p [] = Unit {0}
Each p (b ∷ r) = (p b ≡ true) × Each p r

-- ---- "one space before each argument, integers shortest"

-- a digit 1 to 9, and digits behind it
pub record Leading (d : ℕ) (ds : List ℕ) : Type 0 where
  pub least : 49 ≤ d
  pub most : d ≤ 57
  pub rest : Each is_digit ds

-- "An integer is an optional `-` and at least one digit": no zero leads, no sign stands before `0`
pub data Shortest : List ℕ → Type 0 where
  nought : Shortest (bytes "0")
  positive : (d : ℕ) (ds : List ℕ) → Leading d ds → Shortest (d ∷ ds)
  negative : (d : ℕ) (ds : List ℕ) → Leading d ds → Shortest (bytes "-" ++ d ∷ ds)

-- so many integers
pub data Arguments : ℕ → List ℕ → Type 0 where
  none : Arguments 0 []
  argument : (k : ℕ) (n r : List ℕ) → Shortest n → Arguments k r → Arguments (suc k) (bytes " " ++ (n ++ r))

-- ---- "`x` words one letter and parted from `x` by one space; `m`, `D`, `DF` letters together"

-- the letters of a command, and how many integers stand behind them: "dummies .. go". No `h`, `v`, `t`, `u` and no digits: "Every
-- command but motions is kept"; "`t`, `u` and two-digit commands become single glyphs"
pub data Counted : List ℕ → ℕ → Type 0 where
  count_N : Counted (bytes "N") 1
  count_H : Counted (bytes "H") 1
  count_V : Counted (bytes "V") 1
  count_p : Counted (bytes "p") 1
  count_f : Counted (bytes "f") 1
  count_s : Counted (bytes "s") 1
  count_w : Counted (bytes "w") 0
  count_mc : Counted (bytes "mc") 3
  count_md : Counted (bytes "md") 0
  count_mg : Counted (bytes "mg") 1
  count_mk : Counted (bytes "mk") 4
  count_mr : Counted (bytes "mr") 3
  count_Dl : Counted (bytes "Dl") 2
  count_Da : Counted (bytes "Da") 4
  count_Dc : Counted (bytes "Dc") 1
  count_DC : Counted (bytes "DC") 1
  count_De : Counted (bytes "De") 2
  count_DE : Counted (bytes "DE") 2
  count_Dt : Counted (bytes "Dt") 1
  count_Df : Counted (bytes "Df") 1
  count_DFc : Counted (bytes "DFc") 3
  count_DFd : Counted (bytes "DFd") 0
  count_DFg : Counted (bytes "DFg") 1
  count_DFk : Counted (bytes "DFk") 4
  count_DFr : Counted (bytes "DFr") 3
  count_xr : Counted (bytes "x r") 3
  count_xi : Counted (bytes "x i") 0
  count_xH : Counted (bytes "x H") 1
  count_xS : Counted (bytes "x S") 1
  count_xp : Counted (bytes "x p") 0
  count_xt : Counted (bytes "x t") 0
  count_xu : Counted (bytes "x u") 1
  count_xs : Counted (bytes "x s") 0

-- "2 to 64 integers, an even number"
pub data Paired : List ℕ → Type 0 where
  pairs_Dp : Paired (bytes "Dp")
  pairs_DP : Paired (bytes "DP")
  pairs_D~ : Paired (bytes "D~")

-- "A string is one or more non-whitespace bytes"; by 2026-06 none of them is barred in a name or a glyph
pub data Name : List ℕ → Type 0 where
  name : (b : ℕ) (n : List ℕ) → Each is_not_white (b ∷ n) → NoBarred (b ∷ n) → Name (b ∷ n)

-- ---- "`x X` has a space and the first line, or neither where that is empty; then `+` lines"

-- "after a spacer, the rest of the line raw": the first line begins with no space
pub data FirstLine : List ℕ → Type 0 where
  neither : FirstLine []
  spaced : (b : ℕ) (l : List ℕ) → is_not_white b ≡ true → Each is_not_newline l → FirstLine (bytes " " ++ b ∷ l)

pub data PlusLines : List ℕ → Type 0 where
  no_more : PlusLines []
  plus_line : (l r : List ℕ) → Each is_not_newline l → PlusLines r → PlusLines (bytes "\n+" ++ (l ++ r))

-- ---- "One command a line"

-- a command, without the newline that ends it
pub data HouseLine : List ℕ → Type 0 where
  -- "`c` for a one-byte name, else `C`"
  glyph : (b : ℕ) → Name (b ∷ []) → HouseLine (bytes "c " ++ b ∷ [])
  named-glyph : (b c : ℕ) (n : List ℕ) → Name (b ∷ c ∷ n) → HouseLine (bytes "C " ++ b ∷ c ∷ n)
  -- "`n` becomes `n 0 0`"
  break : HouseLine (bytes "n 0 0")
  counted : (l : List ℕ) (k : ℕ) (r : List ℕ) → Counted l k → Arguments k r → HouseLine (l ++ r)
  paired : (l : List ℕ) (k : ℕ) (r : List ℕ) → Paired l → 1 ≤ k → k ≤ 32 → Arguments (2 * k) r → HouseLine (l ++ r)
  -- "`T` name", "`F` name", "`f` n name", "`X` text"
  device : (n : List ℕ) → Name n → HouseLine (bytes "x T " ++ n)
  file : (n : List ℕ) → Name n → HouseLine (bytes "x F " ++ n)
  mount : (r n : List ℕ) → Arguments 1 r → Name n → HouseLine (bytes "x f" ++ (r ++ (bytes " " ++ n)))
  text : (l r : List ℕ) → FirstLine l → PlusLines r → HouseLine (bytes "x X" ++ (l ++ r))

-- none or more commands, each ended by a newline
pub data HouseText : List ℕ → Type 0 where
  empty : HouseText []
  line : (l r : List ℕ) → HouseLine l → HouseText r → HouseText (l ++ (bytes "\n" ++ r))
