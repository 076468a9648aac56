-- A command of the rules, as the code answers it: the values of each case, and the number and place of a refusal.
use Rattle.std.specs.Prelude.{ℕ, ◌+◌, ◌-◌, List, length, drop, get_or, Result, Ok, Err}
use Rattle.rules.specs.declared.Refusal.{Refusal}
use Rattle.rules.specs.Bytes.{origin}
use Rattle.rules.specs.Act.{Axis as Direction, across, down, Shape, line, arc, circle, solid_circle, ellipse, solid_ellipse, polygon, solid_polygon, spline, thickness, gray_fill, colour_fill, Act, glyph, index, to, by, page, font, size, colour, break, space, draw, device, resolution, init, file, mount, plain, raw, stop, Cmd, just, word, pair}
use Rattle.rules.specs.Drawing.{Way, way_of}
use Rattle.rules.specs.Letters.{Draft}
use Rattle.rules.specs.Scan.{Scan, got, bad, judged, letter, command}
use Rattle.rules.specs.State.{padded}
use Rattle.rules.specs.Answers.{refusal}
use Rattle.rules.specs.Record.{scheme_letter, shape_letter, plain_letter}
use Rattle.scan_command.specs.declared.Axis.{Axis}
use Rattle.scan_command.specs.declared.Axis.TheVariants.{Across, Down}
use Rattle.scan_command.specs.declared.Command.{Command}
use Rattle.scan_command.specs.declared.Command.TheVariants as C

abbrev pub axis_of : Direction → Axis
axis_of across = Across
axis_of down = Down

-- a drawing that moves by a way and ends at e
abbrev pub drawn : Shape → Way → ℕ → Command
drawn s d e = C.Draw (shape_letter s) d.dh d.dv d.terms e

abbrev pub first : List ℕ → ℕ
first ns = get_or ns 0 origin

-- component i, 0 where it is not used
abbrev pub part : ℕ → List ℕ → ℕ
part i ns = get_or (padded 4 ns) i 0

abbrev pub draw_of : Shape → List ℕ → ℕ → Command
draw_of line ns e = drawn line (way_of line ns) e
draw_of arc ns e = drawn arc (way_of arc ns) e
draw_of circle ns e = drawn circle (way_of circle ns) e
draw_of solid_circle ns e = drawn solid_circle (way_of solid_circle ns) e
draw_of ellipse ns e = drawn ellipse (way_of ellipse ns) e
draw_of solid_ellipse ns e = drawn solid_ellipse (way_of solid_ellipse ns) e
draw_of polygon ns e = drawn polygon (way_of polygon ns) e
draw_of solid_polygon ns e = drawn solid_polygon (way_of solid_polygon ns) e
draw_of spline ns e = drawn spline (way_of spline ns) e
draw_of thickness ns e = drawn thickness (way_of thickness ns) e
draw_of gray_fill ns e = C.Gray (first ns) e
draw_of (colour_fill c) ns e = C.Fill (scheme_letter c) (part 0 ns) (part 1 ns) (part 2 ns) (part 3 ns) e

-- an act whose name begins at p, and whose command ends at e
abbrev pub act_of : ℕ → ℕ → Act → Command
act_of p e (glyph n) = C.Glyph p (length n) e
act_of p e (index n) = C.Index n e
act_of p e (to x n) = C.To (axis_of x) n e
act_of p e (by x n) = C.By (axis_of x) n e
act_of p e (page n) = C.Page n e
act_of p e (font n) = C.Font (n - origin) e
act_of p e (size n) = C.Size (n - origin) e
act_of p e (colour c ns) = C.Colour (scheme_letter c) (part 0 ns) (part 1 ns) (part 2 ns) (part 3 ns) e
act_of p e break = C.Break e
act_of p e space = C.Space e
act_of p e (draw s ns) = draw_of s ns e
act_of p e (device n) = C.Device p (length n) e
act_of p e (resolution n h v) = C.Resolution (h - origin) e
act_of p e init = C.Init e
act_of p e (file n) = C.File p (length n) e
act_of p e (mount n m) = C.Mount (n - origin) p (length m) e
act_of p e (plain c ns) = C.Plain (plain_letter c) e
act_of p e (raw t) = C.Raw e
act_of p e stop = C.Stop e

abbrev pub cmd_of : ℕ → ℕ → Cmd → Command
cmd_of p e (just a) = act_of p e a
cmd_of p e (word n bs) = C.Word n p (p + length bs) e
cmd_of p e (pair n b) = C.Pair n p e

-- what was scanned at a place
abbrev pub command_of : ℕ → Scan → Result Command Refusal
command_of at (got c a l) = Ok (cmd_of (at + a) (at + l) c)
command_of at (bad n k) = Err (refusal n (at + k))

-- a draft at a place, its limits judged
abbrev pub draft_of : ℕ → Draft → Result Command Refusal
draft_of at d = command_of at (judged d)

-- the command of a letter b at a place
unfoldable pub letter_at : ℕ → List ℕ → ℕ → Result Command Refusal
letter_at b s at = draft_of at (letter b (drop (at + 1) s))

-- the command at a place
unfoldable pub command_at : List ℕ → ℕ → Result Command Refusal
command_at s at = command_of at (command (get_or s at 0) (drop (at + 1) s))
