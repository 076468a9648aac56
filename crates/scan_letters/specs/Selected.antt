-- What a letter selects, for the acts of the rules. Whether it is what the rules say of their arguments, limits and motions is shown
-- where commands are scanned (`scan_drawings`, `scan_colours`, `scan_controls`) and spelt (`respell_model`).
use Rattle.std.specs.Prelude.{ℕ, ◌+◌, ◌-◌, ltb, if◌then◌else◌}
use Rattle.std.proofs.Math.Option.{Option, none, some}
use Rattle.rules.specs.Bytes.{is, most, origin}
use Rattle.rules.specs.Act.{Scheme, cmy, default, gray, cmyk, rgb, Shape, line, arc, circle, solid_circle, ellipse, solid_ellipse, polygon, solid_polygon, spline, thickness, gray_fill, colour_fill}
use Rattle.rules.specs.Letters.{scheme_of}
use Rattle.rules.specs.Drawing.{shape_of}
use Rattle.scan_letters.specs.declared.Motion.TheVariants as M
use Rattle.scan_letters.specs.declared.Drawing.{Drawing}
use Rattle.scan_letters.specs.declared.Drawing.TheVariants as D
use Rattle.scan_letters.specs.declared.Parts.{Parts}
use Rattle.scan_letters.specs.declared.Parts.TheVariants as P
use Rattle.scan_letters.specs.declared.Control.{Control}
use Rattle.scan_letters.specs.declared.Control.TheVariants as C

-- a letter that is held as a number, as a byte; what is no byte is 0, which is no letter
abbrev pub byte_of : ℕ → ℕ
byte_of k = if ltb k 256 then k else 0

-- ---- the letters of `D`: the columns "arguments" and "motion"

abbrev pub drawing_in : Shape → Drawing
drawing_in line = D.Two M.Both
drawing_in arc = D.Four
drawing_in circle = D.Dummied M.Across
drawing_in solid_circle = D.Dummied M.Across
drawing_in ellipse = D.Two M.Across
drawing_in solid_ellipse = D.Two M.Across
drawing_in polygon = D.Pairs
drawing_in solid_polygon = D.Pairs
drawing_in spline = D.Pairs
drawing_in thickness = D.One M.Across
drawing_in gray_fill = D.Gray
drawing_in (colour_fill c) = D.Scheme

abbrev pub drawing_by : Option Shape → Drawing
drawing_by none = D.Unknown
drawing_by (some s) = drawing_in s

-- `DF` has a scheme's letter
abbrev pub drawing_of : ℕ → Drawing
drawing_of b = if is "F" b then D.Scheme else drawing_by (shape_of b)

-- ---- the letters of a scheme: "`mc` 3, `md` 0, `mg` 1, `mk` 4, `mr` 3"

abbrev pub parts_in : Scheme → Parts
parts_in cmy = P.Three
parts_in default = P.Zero
parts_in gray = P.One
parts_in cmyk = P.Four
parts_in rgb = P.Three

abbrev pub parts_by : Option Scheme → Parts
parts_by none = P.Unknown
parts_by (some c) = parts_in c

abbrev pub parts_of : ℕ → Parts
parts_of b = parts_by (scheme_of b)

-- ---- the letters of `x`: "`T` name; `r` n h v (each at least 1); `i`; `F` name; `f` n name (mount at 0..255, again allowed); `H` n; `S` n;
-- `p`; `t`; `u` n (0 or 1); `s`; `X` text"

abbrev pub control_of : ℕ → Control
control_of b =
    if is "T" b then C.Device else
    if is "r" b then C.Resolution else
    if is "i" b then C.Init else
    if is "F" b then C.File else
    if is "f" b then C.Mount else
    if is "H" b then C.Number (origin - most) (origin + most) else
    if is "S" b then C.Number (origin - most) (origin + most) else
    if is "p" b then C.Bare else
    if is "t" b then C.Bare else
    if is "u" b then C.Number origin (origin + 1) else
    if is "s" b then C.Stop else
    if is "X" b then C.Text else
    C.Unknown
