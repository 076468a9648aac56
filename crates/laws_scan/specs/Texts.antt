-- Document 01, "Bytes, spaces, numbers", "Drawing" and "Controls": what stands in the bytes where an integer was read, and behind a `D` or
-- `x` command, said by the bytes themselves, apart from the rules that scan them (`missing-D` alone names one of these). Proofs: `Written`,
-- `LineBreaks` and `Ignored`.
use Rattle.std.specs.Prelude.{ℕ, suc, ◌+◌, ◌*◌, ◌-◌, ◌^◌, ◌≤◌, Bool, true, false, List, [], ◌∷◌, ◌++◌, ◌⊎◌, ◌≡◌, length, take, drop}
use Rattle.rules.specs.Bytes.{Num, no_int, int, integer, spacer, unspaced, origin}
use Rattle.rules.specs.Act.{Act, glyph, index, to, by, page, font, size, colour, break, space, draw, device, resolution, init, file, mount, plain, raw, stop, Cmd, just, word}
use Rattle.rules.specs.Letters.{draft}
use Rattle.rules.specs.Drawing.{drawing}
use Rattle.rules.specs.Scan.{got, bad, command}

-- ---- "Space, tab and newline are whitespace.": 32, 9 and 10

-- "A spacer is any run, perhaps empty, of spaces and tabs."
abbrev pub Spacer : List ℕ → Type 0
Spacer [] = Unit {0}
Spacer (b ∷ t) = ((b ≡ 32) ⊎ (b ≡ 9)) × Spacer t

-- no byte is whitespace
abbrev pub NoWhite : List ℕ → Type 0
NoWhite [] = Unit {0}
NoWhite (b ∷ t) = (b ≡ 32 → ⊥) × (b ≡ 9 → ⊥) × (b ≡ 10 → ⊥) × NoWhite t

-- whitespace or the end follows
abbrev pub WhiteOrEnd : List ℕ → Type 0
WhiteOrEnd [] = Unit {0}
WhiteOrEnd (b ∷ r) = (b ≡ 32) ⊎ ((b ≡ 9) ⊎ (b ≡ 10))

-- ---- "An integer is an optional `-` and at least one digit, leading zeros allowed; it ends at the next non-digit."

-- a byte from `0` to `9`
abbrev pub Digit : ℕ → Type 0
Digit b = (48 ≤ b) × (b ≤ 57)

abbrev pub AllDigits : List ℕ → Type 0
AllDigits [] = Unit {0}
AllDigits (b ∷ t) = Digit b × AllDigits t

-- what digits say: the sum of all of them, each times ten to the power of how many stand behind it
abbrev pub worth : List ℕ → ℕ
worth [] = 0
worth (b ∷ t) = (b - 48) * 10 ^ length t + worth t

pub record Digits (mag : ℕ) (t : List ℕ) : Type 0 where
  pub some : 1 ≤ length t
  pub each : AllDigits t
  pub says : mag ≡ worth t

-- t is an integer of this sign and magnitude; `-` is byte 45
abbrev pub Written : Bool → ℕ → List ℕ → Type 0
Written false mag t = Digits mag t
Written true mag [] = ⊥
Written true mag (b ∷ t) = (b ≡ 45) × Digits mag t

-- the next byte, where there is one, is no digit
abbrev pub NoDigit : List ℕ → Type 0
NoDigit [] = Unit {0}
NoDigit (b ∷ r) = Digit b → ⊥

pub record IntegersAsWritten : Type 0 where
  -- what is read is so written, and ends at the next non-digit
  pub read : (r : List ℕ) (n : Num) (l : ℕ) → integer r ≡ int n l → (l ≤ length r) × Written n.neg n.mag (take l r) × NoDigit (drop l r)
  -- what is so written is read
  pub written : (neg : Bool) (mag : ℕ) (t r : List ℕ) → Written neg mag t → NoDigit r → integer (t ++ r) ≡ int (record { neg = neg; mag = mag }) (length t)
  -- "A `+` is no sign."
  pub plus : (r : List ℕ) → integer (43 ∷ r) ≡ no_int

-- ---- "`D` and its letter need a line break, perhaps after a comment, behind the last argument."

-- spaces and tabs (32, 9), and then the end, a newline (10) or a `#` (35)
pub data LineEnds : List ℕ → Type 0 where
  at_end : LineEnds []
  at_newline : (r : List ℕ) → LineEnds (10 ∷ r)
  at_comment : (r : List ℕ) → LineEnds (35 ∷ r)
  behind-space : (r : List ℕ) → LineEnds r → LineEnds (32 ∷ r)
  behind_tab : (r : List ℕ) → LineEnds r → LineEnds (9 ∷ r)

-- every `D`, and of controls: "The line-break rule of `D` holds, except for `X`."
abbrev pub ends_its_line : Act → Bool
ends_its_line (glyph n) = false
ends_its_line (index n) = false
ends_its_line (to x n) = false
ends_its_line (by x n) = false
ends_its_line (page n) = false
ends_its_line (font n) = false
ends_its_line (size n) = false
ends_its_line (colour c ns) = false
ends_its_line break = false
ends_its_line space = false
ends_its_line (draw s ns) = true
ends_its_line (device n) = true
ends_its_line (resolution n h v) = true
ends_its_line init = true
ends_its_line (file n) = true
ends_its_line (mount n m) = true
ends_its_line (plain c ns) = true
ends_its_line (raw t) = false
ends_its_line stop = true

-- Of a command as it is scanned, c or a, with r behind its first byte; `D` is 68, `x` is 120.
pub record LineBreaks : Type 0 where
  pub behind_D : (r : List ℕ) (c : Cmd) (name len : ℕ) → command 68 r ≡ got c name len → LineEnds (drop (len - 1) r)
  pub behind_x : (r : List ℕ) (c : Cmd) (name len : ℕ) → command 120 r ≡ got c name len → LineEnds (drop (len - 1) r) ⊎ ((t : List ℕ) × (c ≡ just (raw t)))
  pub behind : (b : ℕ) (r : List ℕ) (a : Act) (name len : ℕ) → command b r ≡ got (just a) name len → ends_its_line a ≡ true → LineEnds (drop (len - 1) r)
  -- "other bytes before the line break of `D` or `x`" is 5: of a drawing that is complete, t being behind it, whatever its numbers (so `Df 40000
  -- x` is 5); and of the controls without arguments, `i`, `p`, `s` and `t` with the rest of a word
  pub missing_D : (r : List ℕ) (c : Cmd) (ignored : List Num) (places : List ℕ) (name len : ℕ) (t : List ℕ)
      → drawing (1 + spacer r) (unspaced r) ≡ draft c ignored places name len t → (LineEnds t → ⊥) → command 68 r ≡ bad 5 0
  pub missing_x : (s : List ℕ) (b : ℕ) (w t : List ℕ) → Spacer s → (b ≡ 105) ⊎ ((b ≡ 112) ⊎ ((b ≡ 115) ⊎ (b ≡ 116))) → NoWhite w → WhiteOrEnd t → (LineEnds t → ⊥)
      → command 120 (s ++ (b ∷ (w ++ t))) ≡ bad 5 0

-- ---- numbers that are ignored: "Its magnitude is at most 99,999,999" holds for them too

-- that many integers, each within the limit; "a spacer may precede each"
pub data Integers : ℕ → List ℕ → Type 0 where
  no_more : Integers 0 []
  one_more : (n : ℕ) (neg : Bool) (mag : ℕ) (s w t : List ℕ) → Spacer s → Written neg mag w → mag ≤ 99_999_999 → Integers n t → Integers (suc n) (s ++ (w ++ t))

-- an integer, or nothing
abbrev pub Dummy : List ℕ → Type 0
Dummy t = Integers 0 t ⊎ Integers 1 t

-- Of what stands behind the letter, up to the command's end. `n`, `t`, `u` and `D` are 110, 116, 117 and 68.
pub record IgnoredInLimit : Type 0 where
  -- "`n` b a .. numbers ignored"
  pub behind_n : (r : List ℕ) (c : Cmd) (name len : ℕ) → command 110 r ≡ got c name len → Integers 2 (take (len - 1) r)
  -- "After a `t` or `u` word, a spacer and then a digit or `-` is a dummy integer. It is ignored, and must be followed by whitespace or end"
  pub behind_t : (r : List ℕ) (c : Cmd) (name len : ℕ) → command 116 r ≡ got c name len
      → (s : List ℕ) × (bs : List ℕ) × (d : List ℕ) × (take (len - 1) r ≡ s ++ (bs ++ d)) × (c ≡ word origin bs) × Spacer s × Dummy d × WhiteOrEnd (drop (len - 1) r)
  pub behind_u : (r : List ℕ) (c : Cmd) (name len : ℕ) → command 117 r ≡ got c name len
      → (i : List ℕ) × (s : List ℕ) × (bs : List ℕ) × (d : List ℕ) × (n : ℕ) × (take (len - 1) r ≡ i ++ (s ++ (bs ++ d))) × (c ≡ word n bs) × Integers 1 i × Spacer s × Dummy d × WhiteOrEnd (drop (len - 1) r)
  -- "`Dc` `DC` | d, optional dummy"; a spacer may stand before the letter x, which is 99 or 67
  pub behind_Dc : (s : List ℕ) (x : ℕ) (r : List ℕ) (c : Cmd) (name len : ℕ) → Spacer s → (x ≡ 99) ⊎ (x ≡ 67) → command 68 (s ++ (x ∷ r)) ≡ got c name len
      → (i : List ℕ) × (d : List ℕ) × (take (len - 1) (s ++ (x ∷ r)) ≡ s ++ (x ∷ (i ++ d))) × Integers 1 i × Dummy d
