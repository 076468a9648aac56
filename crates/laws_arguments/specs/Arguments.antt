-- Document 02, request 2026-12 ("Point at the argument"): how many arguments each command has and their limits, said a second time, and
-- where each of them stands, said by the bytes themselves. What a command is and whether it is complete, limits aside, is the rules' `letter`.
-- Proofs: `proofs/Arguments.antt`.
use Rattle.std.specs.Prelude.{ℕ, ◌+◌, ◌≤◌, List, [], ◌∷◌, ◌++◌, map, ◌≡◌, length, take, drop, if◌then◌else◌}
use Rattle.rules.specs.Bytes.{is, Num, moved}
use Rattle.rules.specs.Act.{Scheme, cmy, default, gray, cmyk, rgb, Shape, line, arc, circle, solid_circle, ellipse, solid_ellipse, polygon, solid_polygon, spline, thickness, gray_fill, colour_fill, Plain, pause, trailer, height, slant, underline, Act, glyph, index, to, by, page, font, size, colour, break, space, draw, device, resolution, init, file, mount, plain, raw, stop, Cmd, just, word, pair}
use Rattle.rules.specs.Letters.{draft}
use Rattle.rules.specs.Scan.{bad, letter, command}
use Rattle.laws_scan.specs.Texts.{Spacer, NoWhite, WhiteOrEnd, Written, NoDigit}

-- ---- the arguments of a command, and their limits

-- An integer from lo to hi, all three moved up by origin, 100,000,000, so that -99,999,999 is 1; an integer that is ignored; one over the
-- allowed count; a name; a word; a text.
pub data Argument : Type 0 where
  a_number : (lo hi n : ℕ) → Argument
  a_dummy : Num → Argument
  one_too_many : ℕ → Argument
  a_name : List ℕ → Argument
  a_word : List ℕ → Argument
  a_text : List ℕ → Argument

abbrev pub ArgumentWithin : Argument → Type 0
ArgumentWithin (a_number lo hi n) = (lo ≤ n) × (n ≤ hi)
ArgumentWithin (a_dummy n) = n.mag ≤ 99_999_999
ArgumentWithin (one_too_many n) = ⊥
ArgumentWithin (a_name n) = length n ≤ 64
ArgumentWithin (a_word bs) = Unit {0}
ArgumentWithin (a_text t) = length t ≤ 4_096

abbrev pub AllWithin : List Argument → Type 0
AllWithin [] = Unit {0}
AllWithin (x ∷ xs) = ArgumentWithin x × AllWithin xs

-- "Its magnitude is at most 99,999,999."
abbrev pub any_number : ℕ → Argument
any_number n = a_number 1 199_999_999 n

-- "font position 0..255", "mount at 0..255"
abbrev pub position : ℕ → Argument
position n = a_number 100_000_000 100_000_255 n

-- "size 1..99,999,999"; "(each at least 1)"
abbrev pub positive : ℕ → Argument
positive n = a_number 100_000_001 199_999_999 n

-- "components 0..65536"
abbrev pub component : ℕ → Argument
component n = a_number 100_000_000 100_065_536 n

-- "`Df` n, -32767..32767"
abbrev pub gray_level : ℕ → Argument
gray_level n = a_number 99_967_233 100_032_767 n

-- "`u` n (0 or 1)"
abbrev pub switch : ℕ → Argument
switch n = a_number 100_000_000 100_000_001 n

-- "2 to 64 integers"; 2026-12: "arguments over the allowed count are outside it"
abbrev pub up_to64 : List ℕ → List Argument
up_to64 ns = map any_number (take 64 ns) ++ map one_too_many (drop 64 ns)

abbrev pub shape_arguments : Shape → List ℕ → List Argument
shape_arguments line ns = map any_number ns
shape_arguments arc ns = map any_number ns
shape_arguments circle ns = map any_number ns
shape_arguments solid_circle ns = map any_number ns
shape_arguments ellipse ns = map any_number ns
shape_arguments solid_ellipse ns = map any_number ns
shape_arguments polygon ns = up_to64 ns
shape_arguments solid_polygon ns = up_to64 ns
shape_arguments spline ns = up_to64 ns
shape_arguments thickness ns = map any_number ns
shape_arguments gray_fill ns = map gray_level ns
shape_arguments (colour_fill c) ns = map component ns

abbrev pub plain_arguments : Plain → List ℕ → List Argument
plain_arguments pause ns = map any_number ns
plain_arguments trailer ns = map any_number ns
plain_arguments height ns = map any_number ns
plain_arguments slant ns = map any_number ns
plain_arguments underline ns = map switch ns

-- (the one byte of `c` is a name, too, which is never outside its limit)
abbrev pub act_arguments : Act → List Argument
act_arguments (glyph n) = a_name n ∷ []
act_arguments (index n) = any_number n ∷ []
act_arguments (to x n) = any_number n ∷ []
act_arguments (by x n) = any_number n ∷ []
act_arguments (page n) = any_number n ∷ []
act_arguments (font n) = position n ∷ []
act_arguments (size n) = positive n ∷ []
act_arguments (colour c ns) = map component ns
act_arguments break = []
act_arguments space = []
act_arguments (draw s ns) = shape_arguments s ns
act_arguments (device n) = a_name n ∷ []
act_arguments (resolution n h v) = positive n ∷ positive h ∷ positive v ∷ []
act_arguments init = []
act_arguments (file n) = a_name n ∷ []
act_arguments (mount n m) = position n ∷ a_name m ∷ []
act_arguments (plain c ns) = plain_arguments c ns
act_arguments (raw t) = a_text t ∷ []
act_arguments stop = []

abbrev pub cmd_arguments : Cmd → List Argument
cmd_arguments (just a) = act_arguments a
cmd_arguments (word n bs) = any_number n ∷ a_word bs ∷ []
cmd_arguments (pair n b) = []

-- "a dummy too": the numbers that are ignored stand behind the others, and `n` has no others
abbrev pub arguments_of : Cmd → List Num → List Argument
arguments_of c ds = cmd_arguments c ++ map a_dummy ds

-- ---- how many there are

-- "`mc` 3, `md` 0, `mg` 1, `mk` 4, `mr` 3"
abbrev pub scheme_count : Scheme → ℕ
scheme_count cmy = 3
scheme_count default = 0
scheme_count gray = 1
scheme_count cmyk = 4
scheme_count rgb = 3

-- "none or an odd number for `Dp` `DP` `D~`" is 4
abbrev pub SomePairs : List ℕ → Type 0
SomePairs [] = ⊥
SomePairs (x ∷ []) = ⊥
SomePairs (x ∷ y ∷ []) = Unit {0}
SomePairs (x ∷ y ∷ z ∷ r) = SomePairs (z ∷ r)

abbrev pub ShapeCount : Shape → List ℕ → Type 0
ShapeCount line ns = length ns ≡ 2
ShapeCount arc ns = length ns ≡ 4
ShapeCount circle ns = length ns ≡ 1
ShapeCount solid_circle ns = length ns ≡ 1
ShapeCount ellipse ns = length ns ≡ 2
ShapeCount solid_ellipse ns = length ns ≡ 2
ShapeCount polygon ns = SomePairs ns
ShapeCount solid_polygon ns = SomePairs ns
ShapeCount spline ns = SomePairs ns
ShapeCount thickness ns = length ns ≡ 1
ShapeCount gray_fill ns = length ns ≡ 1
ShapeCount (colour_fill c) ns = length ns ≡ scheme_count c

abbrev pub PlainCount : Plain → List ℕ → Type 0
PlainCount pause ns = length ns ≡ 0
PlainCount trailer ns = length ns ≡ 0
PlainCount height ns = length ns ≡ 1
PlainCount slant ns = length ns ≡ 1
PlainCount underline ns = length ns ≡ 1

-- its numbers, and ds, those that are ignored: "`n` b a .. numbers ignored", "`Dc` `DC`: d, optional dummy", "After a `t` or `u` word .. a dummy
-- integer"; no other command has one
abbrev pub ShapeDummies : Shape → List Num → Type 0
ShapeDummies line ds = length ds ≡ 0
ShapeDummies arc ds = length ds ≡ 0
ShapeDummies circle ds = length ds ≤ 1
ShapeDummies solid_circle ds = length ds ≤ 1
ShapeDummies ellipse ds = length ds ≡ 0
ShapeDummies solid_ellipse ds = length ds ≡ 0
ShapeDummies polygon ds = length ds ≡ 0
ShapeDummies solid_polygon ds = length ds ≡ 0
ShapeDummies spline ds = length ds ≡ 0
ShapeDummies thickness ds = length ds ≡ 0
ShapeDummies gray_fill ds = length ds ≡ 0
ShapeDummies (colour_fill c) ds = length ds ≡ 0

abbrev pub ActCount : Act → List Num → Type 0
ActCount (glyph n) ds = length ds ≡ 0
ActCount (index n) ds = length ds ≡ 0
ActCount (to x n) ds = length ds ≡ 0
ActCount (by x n) ds = length ds ≡ 0
ActCount (page n) ds = length ds ≡ 0
ActCount (font n) ds = length ds ≡ 0
ActCount (size n) ds = length ds ≡ 0
ActCount (colour c ns) ds = (length ns ≡ scheme_count c) × (length ds ≡ 0)
ActCount break ds = length ds ≡ 2
ActCount space ds = length ds ≡ 0
ActCount (draw s ns) ds = ShapeCount s ns × ShapeDummies s ds
ActCount (device n) ds = length ds ≡ 0
ActCount (resolution n h v) ds = length ds ≡ 0
ActCount init ds = length ds ≡ 0
ActCount (file n) ds = length ds ≡ 0
ActCount (mount n m) ds = length ds ≡ 0
ActCount (plain c ns) ds = PlainCount c ns × (length ds ≡ 0)
ActCount (raw t) ds = length ds ≡ 0
ActCount stop ds = length ds ≡ 0

abbrev pub CmdCount : Cmd → List Num → Type 0
CmdCount (just a) ds = ActCount a ds
CmdCount (word n bs) ds = length ds ≤ 1
CmdCount (pair n b) ds = length ds ≡ 0

-- those that are written: `t` (116) is read as `u` with the number 0, which stands nowhere
abbrev pub written_by : ℕ → List Argument → List Argument
written_by b xs = if is "t" b then drop 1 xs else xs

-- ---- how they are written: the command's letters, then each argument behind a spacer

-- no space or tab follows
abbrev pub NoSpace : List ℕ → Type 0
NoSpace [] = Unit {0}
NoSpace (b ∷ r) = (b ≡ 32 → ⊥) × (b ≡ 9 → ⊥)

-- The letters of a command, and what stands behind them: one letter; `m` (109) or `D` (68) and one more; `DF` (70) and one more; `x` (120)
-- and a word. A spacer "may stand between command letters"; "`x`, a spacer, then a word of any length".
pub data CommandLetters : List ℕ → List ℕ → Type 0 where
  one_letter : (b : ℕ) (t : List ℕ) → (b ≡ 109 → ⊥) → (b ≡ 68 → ⊥) → (b ≡ 120 → ⊥) → CommandLetters (b ∷ []) t
  of_m : (s : List ℕ) (c : ℕ) (t : List ℕ) → Spacer s → NoWhite (c ∷ []) → CommandLetters (109 ∷ (s ++ c ∷ [])) t
  of_D : (s : List ℕ) (c : ℕ) (t : List ℕ) → Spacer s → NoWhite (c ∷ []) → (c ≡ 70 → ⊥) → CommandLetters (68 ∷ (s ++ c ∷ [])) t
  of_DF : (s s₂ : List ℕ) (c : ℕ) (t : List ℕ) → Spacer s → Spacer s₂ → NoWhite (c ∷ []) → CommandLetters (68 ∷ (s ++ 70 ∷ (s₂ ++ c ∷ []))) t
  of_x : (s w t : List ℕ) → Spacer s → 1 ≤ length w → NoWhite w → WhiteOrEnd t → CommandLetters (120 ∷ (s ++ w)) t

-- w is the argument, with t behind it: "it ends at the next non-digit"; "A string is one or more non-whitespace bytes up to whitespace or
-- end"; "A text begins right after its spacer, even with an empty line."
abbrev pub NumberIs : Num → List ℕ → List ℕ → Type 0
NumberIs m w t = Written m.neg m.mag w × NoDigit t

abbrev pub StringIs : List ℕ → List ℕ → List ℕ → Type 0
StringIs n w t = (w ≡ n) × (1 ≤ length w) × NoWhite w × WhiteOrEnd t

-- x is the text of the bytes w: "the rest of the line raw, without comments; each next line that starts with `+` (43) adds a newline and its
-- rest"
abbrev pub TextEnds : List ℕ → Type 0
TextEnds [] = Unit {0}
TextEnds (b ∷ []) = b ≡ 10
TextEnds (b ∷ c ∷ t) = (b ≡ 10) × (c ≡ 43 → ⊥)

pub data TextIs : List ℕ → List ℕ → List ℕ → Type 0 where
  text_ends : (t : List ℕ) → TextEnds t → TextIs [] [] t
  text_byte : (b : ℕ) (x w t : List ℕ) → (b ≡ 10 → ⊥) → TextIs x w t → TextIs (b ∷ x) (b ∷ w) t
  next_line : (x w t : List ℕ) → TextIs x w t → TextIs (10 ∷ x) (10 ∷ 43 ∷ w) t

abbrev pub ArgumentIs : Argument → List ℕ → List ℕ → Type 0
ArgumentIs (a_number lo hi n) w t = (m : Num) × (moved m ≡ n) × NumberIs m w t
ArgumentIs (a_dummy m) w t = NumberIs m w t
ArgumentIs (one_too_many n) w t = (m : Num) × (moved m ≡ n) × NumberIs m w t
ArgumentIs (a_name n) w t = StringIs n w t
ArgumentIs (a_word n) w t = StringIs n w t
ArgumentIs (a_text x) w t = NoSpace (w ++ t) × TextIs x w t

-- these arguments stand one behind the other, each behind a spacer, from the first place and its bytes up to the second
pub data Laid : ℕ → List ℕ → List Argument → ℕ → List ℕ → Type 0 where
  none : (k : ℕ) (t : List ℕ) → Laid k t [] k t
  next : (k : ℕ) (gap w t : List ℕ) (x : Argument) (xs : List Argument) (l : ℕ) (u : List ℕ) → Spacer gap → ArgumentIs x w t
      → Laid (k + length gap + length w) t xs l u → Laid k (gap ++ (w ++ t)) (x ∷ xs) l u

-- ---- refusal 6

-- The command of the byte b, with r behind it, is complete, its limits aside, and k bytes behind its first stands "the first byte of the
-- argument outside its limit, a dummy too; .. where several are, the first of them": behind the command's letters, all arguments that are
-- written before it, and a spacer.
pub record OutsideAt (b : ℕ) (r : List ℕ) (k : ℕ) : Type 0 where
  -- the command as the rules put it together (the last four they say of it play no part here)
  pub cmd : Cmd
  pub dummies : List Num
  pub places : List ℕ
  pub name : ℕ
  pub len : ℕ
  pub rest : List ℕ
  pub complete : letter b r ≡ draft cmd dummies places name len rest
  pub count : CmdCount cmd dummies
  -- its arguments: those before the one at fault, that one, and those after it
  pub before : List Argument
  pub argument : Argument
  pub after : List Argument
  pub order : written_by b (arguments_of cmd dummies) ≡ before ++ argument ∷ after
  pub within : AllWithin before
  pub outside : ArgumentWithin argument → ⊥
  -- its bytes: the letters; the arguments before, which end at a place; a spacer, and the text of the one at fault
  pub letters : List ℕ
  pub arguments : List ℕ
  pub bytes : b ∷ r ≡ letters ++ arguments
  pub are_letters : CommandLetters letters arguments
  pub at : ℕ
  pub gap : List ℕ
  pub text : List ℕ
  pub behind : List ℕ
  pub laid : Laid (length letters) arguments before at (gap ++ (text ++ behind))
  pub spaced : Spacer gap
  pub written : ArgumentIs argument text behind
  pub place : k ≡ at + length gap

pub record PointsAtArgument : Type 0 where
  pub points : (b : ℕ) (r : List ℕ) (k : ℕ) → command b r ≡ bad 6 k → OutsideAt b r k
  -- "Each is given exactly for its reason": the other way, so no second place has what is said of it
  pub given : (b : ℕ) (r : List ℕ) (k : ℕ) → OutsideAt b r k → command b r ≡ bad 6 k
  -- "Other offsets in 01 stay": 3, 4 and 5 are about the command, and so is 16 (`Names`)
  pub others : (b : ℕ) (r : List ℕ) (n k : ℕ) → command b r ≡ bad n k → (n ≡ 6 → ⊥) → k ≡ 0
  -- how many arguments a command that is complete has
  pub count : (b : ℕ) (r : List ℕ) (c : Cmd) (ds : List Num) (ks : List ℕ) (a l : ℕ) (t : List ℕ) → letter b r ≡ draft c ds ks a l t → CmdCount c ds
