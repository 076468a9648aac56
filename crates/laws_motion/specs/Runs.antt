-- What the laws of `Motions` and `Records` ask for holds of every command of every stream, of the environment before it, and of every
-- sound width list. The limits of refusal 6 are said here once more, over the integers. Proofs: `proofs/Runs.antt`.
use Rattle.std.specs.Prelude.{ℕ, ◌≤◌, List, [], ◌∷◌, ◌++◌, ◌≡◌, nat_abs, length}
use Rattle.rules.specs.Act.{Scheme, cmy, default, gray, cmyk, rgb, Shape, line, arc, circle, solid_circle, ellipse, solid_ellipse, polygon, solid_polygon, spline, thickness, gray_fill, colour_fill, Plain, pause, trailer, height, slant, underline, Act, glyph, index, to, by, page, font, size, colour, break, space, draw, device, resolution, init, file, mount, plain, raw, stop, Cmd, just, word, pair}
use Rattle.rules.specs.Scan.{commands, bare}
use Rattle.rules.specs.Widths.{Font, Widths, sound, width_list}
use Rattle.rules.specs.State.{Env, start, Glyph, Item, went, steps}
use Rattle.rules.specs.Record.{shown}
use Rattle.laws_find.specs.Written.{GoodName}
use Rattle.laws_motion.specs.Motions.{InLimit, FromTo, AsWritten, Inside}

-- ---- what holds of a command: its arguments, each within its limit

abbrev pub Each : (ℕ → Type 0) → List ℕ → Type 0
Each P [] = Unit {0}
Each P (n ∷ ns) = P n × Each P ns

-- so many numbers, each within this limit
abbrev pub Numbers : ℕ → (ℕ → Type 0) → List ℕ → Type 0
Numbers k P ns = (length ns ≡ k) × Each P ns

-- "Its magnitude is at most 99,999,999."
abbrev pub Any : ℕ → Type 0
Any n = InLimit (shown n)

-- "`mc` 3, `md` 0, `mg` 1, `mk` 4, `mr` 3 .. that many components 0..65536"
abbrev pub Components : Scheme → List ℕ → Type 0
Components cmy ns = Numbers 3 (FromTo 0 65_536) ns
Components default ns = Numbers 0 (FromTo 0 65_536) ns
Components gray ns = Numbers 1 (FromTo 0 65_536) ns
Components cmyk ns = Numbers 4 (FromTo 0 65_536) ns
Components rgb ns = Numbers 3 (FromTo 0 65_536) ns

-- "2 to 64 integers"
abbrev pub UpTo64 : List ℕ → Type 0
UpTo64 ns = (2 ≤ length ns) × (length ns ≤ 64) × Each Any ns

abbrev pub DrawingLimits : Shape → List ℕ → Type 0
DrawingLimits line ns = Numbers 2 Any ns
DrawingLimits arc ns = Numbers 4 Any ns
DrawingLimits circle ns = Numbers 1 Any ns
DrawingLimits solid_circle ns = Numbers 1 Any ns
DrawingLimits ellipse ns = Numbers 2 Any ns
DrawingLimits solid_ellipse ns = Numbers 2 Any ns
DrawingLimits polygon ns = UpTo64 ns
DrawingLimits solid_polygon ns = UpTo64 ns
DrawingLimits spline ns = UpTo64 ns
DrawingLimits thickness ns = Numbers 1 Any ns
DrawingLimits gray_fill ns = Numbers 1 (λ n. nat_abs (shown n) ≤ 32_767) ns  -- "-32767..32767"
DrawingLimits (colour_fill c) ns = Components c ns

abbrev pub PlainLimits : Plain → List ℕ → Type 0
PlainLimits pause ns = Numbers 0 Any ns
PlainLimits trailer ns = Numbers 0 Any ns
PlainLimits height ns = Numbers 1 Any ns
PlainLimits slant ns = Numbers 1 Any ns
PlainLimits underline ns = Numbers 1 (FromTo 0 1) ns  -- "`u` n (0 or 1)"

-- "A string is one or more non-whitespace bytes", "Names have at most 64 bytes"
abbrev pub IsName : List ℕ → Type 0
IsName n = (1 ≤ length n) × (length n ≤ 64)

abbrev pub InLimits : Act → Type 0
InLimits (glyph n) = IsName n
InLimits (index n) = Any n
InLimits (to x n) = Any n
InLimits (by x n) = Any n
InLimits (page n) = Any n
InLimits (font n) = FromTo 0 255 n  -- "font position 0..255"
InLimits (size n) = FromTo 1 99_999_999 n  -- "size 1..99,999,999"
InLimits (colour c ns) = Components c ns
InLimits break = Unit {0}
InLimits space = Unit {0}
InLimits (draw s ns) = DrawingLimits s ns
InLimits (device n) = IsName n
InLimits (resolution n h v) = FromTo 1 99_999_999 n × FromTo 1 99_999_999 h × FromTo 1 99_999_999 v  -- "each at least 1"
InLimits init = Unit {0}
InLimits (file n) = IsName n
InLimits (mount n m) = FromTo 0 255 n × IsName m  -- "mount at 0..255"
InLimits (plain c ns) = PlainLimits c ns
InLimits (raw t) = length t ≤ 4_096  -- "The text has at most 4,096 bytes"
InLimits stop = Unit {0}

-- "a t or u word has no such limit"
abbrev pub CmdWritten : Cmd → Type 0
CmdWritten (just a) = AsWritten a × InLimits a
CmdWritten (word n bs) = Any n × (1 ≤ length bs)
CmdWritten (pair n b) = Unit {0}

-- ---- what holds in every run

-- of a command c and the environment e before it
pub record RunHolds (e : Env) (c : Cmd) : Type 0 where
  pub written : CmdWritten c
  pub inside : Inside e
  -- "`x r` second number m .. at least 1"
  pub quantum : 1 ≤ e.quantum
  -- "mount at 0..255"
  pub positions : length e.mounts ≡ 256

-- cs are the commands before it
abbrev pub InEveryRun : Type 0
InEveryRun = (w : Widths) (s : List ℕ) (cs ds : List Cmd) (c : Cmd) (e : Env) (gs : List Glyph) (xs : List Item)
    → bare (commands 0 0 s) ≡ cs ++ c ∷ ds → steps w start cs ≡ went e gs xs → RunHolds e c

-- "Font names are strings of 1 to 64 bytes", by 2026-06 without a barred byte
abbrev pub FontNames : List Font → Type 0
FontNames [] = Unit {0}
FontNames (f ∷ fs) = GoodName f.name × FontNames fs

-- "`unitwidth=N` (1..100000)"
abbrev pub InEveryList : Type 0
InEveryList = (list : List ℕ) (w : Widths) → width_list list ≡ sound w → (1 ≤ w.unitwidth) × (w.unitwidth ≤ 100_000) × FontNames w.fonts
