-- Document 02, request 2026-06 ("Refuse control bytes in names"): which bytes of a command are "a name or a glyph", or "a `t` or `u` word",
-- said a second time, by its arguments; and refusal 16, given exactly where one of them is barred. Proofs: `proofs/Names.antt`.
use Rattle.std.specs.Prelude.{ℕ, List, [], ◌∷◌, ◌++◌, ◌⊎◌, ◌≡◌, length, take, drop}
use Rattle.rules.specs.Bytes.{Num}
use Rattle.rules.specs.Act.{Cmd, just, word, pair}
use Rattle.rules.specs.Letters.{draft}
use Rattle.rules.specs.Scan.{got, bad, letter, command}
use Rattle.laws.specs.Barred.{NoBarred, SomeBarred}
use Rattle.laws_arguments.specs.Arguments.{Argument, a_number, a_dummy, one_too_many, a_name, a_word, a_text, AllWithin, arguments_of, written_by, CommandLetters, Laid}

-- "`x X` text is exempt"
abbrev pub argument_name : Argument → List ℕ
argument_name (a_number lo hi n) = []
argument_name (a_dummy n) = []
argument_name (one_too_many n) = []
argument_name (a_name n) = n
argument_name (a_word bs) = bs
argument_name (a_text t) = []

abbrev pub argument_names : List Argument → List ℕ
argument_names [] = []
argument_names (x ∷ xs) = argument_name x ++ argument_names xs

-- the glyph of two digits, which has no limit and is none of the arguments
abbrev pub pair_glyph : Cmd → List ℕ
pair_glyph (just a) = []
pair_glyph (word n bs) = []
pair_glyph (pair n b) = b ∷ []

abbrev pub named_bytes : Cmd → List Num → List ℕ
named_bytes c ds = pair_glyph c ++ argument_names (arguments_of c ds)

-- The arguments of the command of the byte b, with r behind it, as they stand in the bytes: behind the letters, each behind a spacer; a name
-- or a word goes up to whitespace or the end (`ArgumentIs`), so no byte of it is left out.
pub record LaidDown (b : ℕ) (r : List ℕ) (xs : List Argument) : Type 0 where
  pub letters : List ℕ
  pub arguments : List ℕ
  pub bytes : b ∷ r ≡ letters ++ arguments
  pub are_letters : CommandLetters letters arguments
  pub end : ℕ
  pub behind : List ℕ
  pub laid : Laid (length letters) arguments (written_by b xs) end behind

-- The command of the byte b, with r behind it, is complete, all its arguments are in their limits, and a byte of a name is barred.
pub record BarredIn (b : ℕ) (r : List ℕ) : Type 0 where
  -- the command as the rules put it together
  pub cmd : Cmd
  pub dummies : List Num
  pub places : List ℕ
  pub name : ℕ
  pub len : ℕ
  pub rest : List ℕ
  pub complete : letter b r ≡ draft cmd dummies places name len rest
  pub within : AllWithin (arguments_of cmd dummies)
  pub barred : SomeBarred (named_bytes cmd dummies)

pub record RefusesBarred : Type 0 where
  -- at the command's first byte
  pub points : (b : ℕ) (r : List ℕ) (k : ℕ) → command b r ≡ bad 16 k → (k ≡ 0) × BarredIn b r
  pub given : (b : ℕ) (r : List ℕ) → BarredIn b r → command b r ≡ bad 16 0
  -- a command that is complete is accepted where all arguments are in their limits and no byte of a name is barred, and nowhere else
  pub accepted : (b : ℕ) (r : List ℕ) (c : Cmd) (ds : List Num) (ks : List ℕ) (a l : ℕ) (t : List ℕ)
      → letter b r ≡ draft c ds ks a l t → AllWithin (arguments_of c ds) → NoBarred (named_bytes c ds) → command b r ≡ got c a l
  pub only : (b : ℕ) (r : List ℕ) (c : Cmd) (ds : List Num) (ks : List ℕ) (a l : ℕ) (t : List ℕ)
      → letter b r ≡ draft c ds ks a l t → command b r ≡ got c a l → AllWithin (arguments_of c ds) × NoBarred (named_bytes c ds)
  -- these bytes stand in the command, one behind the other, from the place of its name on
  pub stands : (b : ℕ) (r : List ℕ) (c : Cmd) (ds : List Num) (ks : List ℕ) (a l : ℕ) (t : List ℕ)
      → letter b r ≡ draft c ds ks a l t → take (length (named_bytes c ds)) (drop a (b ∷ r)) ≡ named_bytes c ds
  -- and whole, with all other arguments, but for the one byte of `c` (99), and of two digits, which have none
  pub laid : (b : ℕ) (r : List ℕ) (c : Cmd) (ds : List Num) (ks : List ℕ) (a l : ℕ) (t : List ℕ)
      → letter b r ≡ draft c ds ks a l t → (arguments_of c ds ≡ []) ⊎ ((b ≡ 99) ⊎ LaidDown b r (arguments_of c ds))
