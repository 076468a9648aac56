-- The environment as the code holds it, and what each command does to it. In the code's own steps; the laws that this is what the rules
-- say stand in proofs/.
use Rattle.std.specs.Prelude.{ℕ, zero, suc, ◌+◌, ◌*◌, ◌-◌, ◌/◌, Bool, ◌&&◌, List, [], ◌∷◌, ltb, eqb, Option, Some, None, Result, Ok, Err, ok_or, if◌then◌else◌}
use Rattle.std.proofs.Math.Option.{Option as Maybe, none, some}
use Rattle.rules.specs.declared.Colour.{Colour}
use Rattle.rules.specs.declared.Record.{Record}
use Rattle.rules.specs.declared.Entry.{Entry}
use Rattle.rules.specs.declared.Refusal.{Refusal}
use Rattle.rules.specs.Bytes.{is, origin, within}
use Rattle.rules.specs.Act.{Scheme, cmy, default, gray, cmyk, rgb}
use Rattle.rules.specs.State.{Paint, Env}
use Rattle.rules.specs.Record.{shown}
use Rattle.rules.specs.Answers.{refusal, asked, and_then}
use Rattle.scan_command.specs.declared.Axis.{Axis}
use Rattle.scan_command.specs.declared.Axis.TheVariants.{Across, Down}
use Rattle.scan_command.specs.declared.Command.{Command}
use Rattle.scan_command.specs.declared.Command.TheVariants as C
use Rattle.read_model.specs.declared.Environment.{Environment}
use Rattle.read_model.specs.declared.Emitted.{Emitted}
use Rattle.read_model.specs.declared.Emitted.TheVariants as E
use Rattle.read_model.specs.declared.Did.{Did}

-- ---- the rules' environment, mounted names aside

abbrev pub font_of : ℕ → Maybe ℕ
font_of zero = none
font_of (suc n) = some n

abbrev pub scheme_at : ℕ → Scheme
scheme_at b =
    if is "c" b then cmy else
    if is "g" b then gray else
    if is "k" b then cmyk else
    if is "r" b then rgb else
    default

abbrev pub paint_of : Colour → Paint
paint_of c = record { scheme = scheme_at c.scheme; parts = c.parts }

abbrev pub env_of : Environment → List (List ℕ) → Env
env_of e ms = record { phase = e.phase; quantum = e.quantum; ordinal = e.ordinal; number = e.number; spot = record { h = e.h; v = e.v }; font = font_of e.font; size = e.size; gap = e.gap; glyph_paint = paint_of e.ink; fill_paint = paint_of e.paint; mounts = ms }

-- ---- parts of the environment set anew

abbrev pub with_phase : Environment → ℕ → ℕ → Environment
with_phase e n q = record { phase = n; quantum = q; ordinal = e.ordinal; number = e.number; h = e.h; v = e.v; font = e.font; size = e.size; gap = e.gap; ink = e.ink; paint = e.paint }

abbrev pub with_page : Environment → ℕ → ℕ → Environment
with_page e o n = record { phase = e.phase; quantum = e.quantum; ordinal = o; number = n; h = e.h; v = origin; font = e.font; size = e.size; gap = 1; ink = e.ink; paint = e.paint }

abbrev pub with_spot : Environment → ℕ → ℕ → Environment
with_spot e h v = record { phase = e.phase; quantum = e.quantum; ordinal = e.ordinal; number = e.number; h = h; v = v; font = e.font; size = e.size; gap = e.gap; ink = e.ink; paint = e.paint }

abbrev pub with_font : Environment → ℕ → Environment
with_font e n = record { phase = e.phase; quantum = e.quantum; ordinal = e.ordinal; number = e.number; h = e.h; v = e.v; font = n; size = e.size; gap = e.gap; ink = e.ink; paint = e.paint }

abbrev pub with_size : Environment → ℕ → Environment
with_size e n = record { phase = e.phase; quantum = e.quantum; ordinal = e.ordinal; number = e.number; h = e.h; v = e.v; font = e.font; size = n; gap = e.gap; ink = e.ink; paint = e.paint }

abbrev pub with_gap : Environment → ℕ → Environment
with_gap e g = record { phase = e.phase; quantum = e.quantum; ordinal = e.ordinal; number = e.number; h = e.h; v = e.v; font = e.font; size = e.size; gap = g; ink = e.ink; paint = e.paint }

abbrev pub with_ink : Environment → Colour → Environment
with_ink e c = record { phase = e.phase; quantum = e.quantum; ordinal = e.ordinal; number = e.number; h = e.h; v = e.v; font = e.font; size = e.size; gap = e.gap; ink = c; paint = e.paint }

abbrev pub with_paint : Environment → Colour → Environment
with_paint e c = record { phase = e.phase; quantum = e.quantum; ordinal = e.ordinal; number = e.number; h = e.h; v = e.v; font = e.font; size = e.size; gap = e.gap; ink = e.ink; paint = c }

-- ---- what was done

abbrev pub refusing : ℕ → ℕ → Result Did Refusal
refusing n at = Err (refusal n at)

abbrev pub doing : Environment → Emitted → Result Did Refusal
doing e x = Ok (record { env = e; emitted = x })

abbrev pub in_body : Environment → Bool
in_body e = eqb e.phase 3

abbrev pub on_page : Environment → Bool
on_page e = eqb e.phase 3 && ltb 0 e.ordinal

-- a font and a size are there
abbrev pub is_set : Environment → Bool
is_set e = ltb 0 e.font && ltb 0 e.size

-- refusal 7 of a command at a place comes first
abbrev pub phase_or : Environment → ℕ → ℕ → Result Did Refusal → Result Did Refusal
phase_or e at n x = and_then (asked (eqb e.phase n) 7 at) (λ z. x)

abbrev pub in_body_or : Environment → ℕ → Result Did Refusal → Result Did Refusal
in_body_or e at x = and_then (asked (in_body e) 7 at) (λ z. x)

abbrev pub on_page_or : Environment → ℕ → Result Did Refusal → Result Did Refusal
on_page_or e at x = and_then (asked (on_page e) 7 at) (λ z. x)

-- then 8, of one that needs a font and a size
abbrev pub set_or : Environment → ℕ → Result Did Refusal → Result Did Refusal
set_or e at x = and_then (asked (is_set e) 8 at) (λ z. x)

-- x and a number, both moved up: whether their sum is within the limit
abbrev pub may_move : ℕ → ℕ → Bool
may_move x n = ltb origin (x + n) && ltb (x + n) (3 * origin)

-- how far a sum lies behind base: a position, where it is within the limit
abbrev pub gone : ℕ → ℕ → Option ℕ
gone base sum = if ltb base sum && ltb sum (base + 2 * origin) then Some (sum - base) else None

-- or refusal 10 of the command at a place
abbrev pub placed_or : Option ℕ → ℕ → Result ℕ Refusal
placed_or o at = ok_or o (refusal 10 at)

-- a record at the environment's place
abbrev pub record_here : Environment → ℕ → ℕ → ℕ → Record
record_here e place len index = record { ordinal = e.ordinal; page = shown e.number; h = shown e.h; v = shown e.v; font = e.font - 1; size = e.size; place = place; len = len; index = index; gap = e.gap }

-- the entry of a drawing from at to e, and of a control; `x X` stands where the environment is, other controls at 0, 0
abbrev pub drawing_here : Environment → ℕ → ℕ → ℕ → ℕ → Entry
drawing_here e letter scheme at end = record { command = 68; letter = letter; scheme = scheme; ordinal = e.ordinal; place = at; len = end - at; h = shown e.h; v = shown e.v }

abbrev pub raw_here : Environment → ℕ → ℕ → Entry
raw_here e at end = record { command = 120; letter = 88; scheme = 0; ordinal = e.ordinal; place = at; len = end - at; h = shown e.h; v = shown e.v }

abbrev pub control_here : Environment → ℕ → ℕ → ℕ → Entry
control_here e letter at end = record { command = 120; letter = letter; scheme = 0; ordinal = e.ordinal; place = at; len = end - at; h = shown origin; v = shown origin }

-- ---- glyphs

-- a record, and no gap behind it
abbrev pub record_on : Environment → ℕ → ℕ → ℕ → Result Did Refusal
record_on e place len index = doing (with_gap e 0) (E.Record (record_here e place len index))

abbrev pub glyph_on : Environment → ℕ → ℕ → ℕ → Result Did Refusal
glyph_on e at place len = set_or e at (record_on e place len 0)

abbrev pub index_on : Environment → ℕ → ℕ → Result Did Refusal
index_on e at n = set_or e at (if ltb n origin then doing (with_gap e 1) E.Nothing else record_on e 0 0 (n - origin))

-- h moved by a number that is moved up
abbrev pub pair_on : Environment → ℕ → ℕ → ℕ → Result Did Refusal
pair_on e at n place = set_or e at (and_then (placed_or (gone origin (e.h + n)) at) (λ h. record_on (with_spot e h e.v) place 1 0))

-- ---- motions and settings

abbrev pub along : Environment → Axis → ℕ
along e Across = e.h
along e Down = e.v

abbrev pub with_along : Environment → Axis → ℕ → Environment
with_along e Across n = with_spot e n e.v
with_along e Down n = with_spot e e.h n

abbrev pub to_on : Environment → Axis → ℕ → Result Did Refusal
to_on e x n = doing (with_along e x n) E.Nothing

abbrev pub by_on : Environment → ℕ → Axis → ℕ → Result Did Refusal
by_on e at x n = and_then (placed_or (gone origin (along e x + n)) at) (λ i. doing (with_along e x i) E.Nothing)

abbrev pub page_on : Environment → ℕ → Result Did Refusal
page_on e n = doing (with_page e (e.ordinal + 1) n) E.Nothing

-- m is what the mounts hold at the position: 0 for none
abbrev pub font_on : Environment → ℕ → ℕ → ℕ → Result Did Refusal
font_on e at n m = and_then (asked (ltb 0 m) 8 at) (λ z. doing (with_font e (n + 1)) E.Nothing)

abbrev pub colour_here : ℕ → ℕ → ℕ → ℕ → ℕ → Colour
colour_here scheme a b c d = record { scheme = scheme; parts = a ∷ b ∷ c ∷ d ∷ [] }

-- ---- drawings

abbrev pub draw_on : Environment → ℕ → ℕ → ℕ → ℕ → ℕ → ℕ → Result Did Refusal
draw_on e letter dh dv terms at end =
    and_then (placed_or (gone (terms * origin) (e.h + dh)) at) (λ h.
    and_then (placed_or (gone (terms * origin) (e.v + dv)) at) (λ v.
    doing (with_spot e h v) (E.Entry (drawing_here e letter 0 at end))))

abbrev pub gray_colour : Colour → ℕ → Colour
gray_colour g n = if within origin (origin + 1000) n then colour_here 103 ((1000 - (n - origin)) * 65536 / 1000) 0 0 0 else g

abbrev pub gray_on : Environment → ℕ → ℕ → ℕ → Result Did Refusal
gray_on e n at end = doing (with_paint e (gray_colour e.ink n)) (E.Entry (drawing_here e 102 0 at end))

abbrev pub fill_on : Environment → ℕ → Colour → ℕ → ℕ → Result Did Refusal
fill_on e scheme c at end = doing (with_paint e c) (E.Entry (drawing_here e 70 scheme at end))

-- ---- controls

abbrev pub control_on : Environment → ℕ → ℕ → ℕ → Result Did Refusal
control_on e letter at end = doing e (E.Entry (control_here e letter at end))

-- from one phase to the next
abbrev pub onwards : Environment → ℕ → ℕ → ℕ → ℕ → ℕ → ℕ → Result Did Refusal
onwards e from to quantum letter at end = phase_or e at from (doing (with_phase e to quantum) (E.Entry (control_here e letter at end)))

-- ---- one command from at on, words aside; m is what the mounts hold at the position of an `f`

abbrev pub did_of : Environment → ℕ → ℕ → Result Did Refusal → Command → Result Did Refusal
did_of e at m word (C.Glyph p l next) = on_page_or e at (glyph_on e at p l)
did_of e at m word (C.Index n next) = on_page_or e at (index_on e at n)
did_of e at m word (C.Word n p end next) = on_page_or e at word
did_of e at m word (C.Pair n p next) = on_page_or e at (pair_on e at n p)
did_of e at m word (C.To x n next) = on_page_or e at (to_on e x n)
did_of e at m word (C.By x n next) = on_page_or e at (by_on e at x n)
did_of e at m word (C.Page n next) = in_body_or e at (page_on e n)
did_of e at m word (C.Font n next) = in_body_or e at (font_on e at n m)
did_of e at m word (C.Size n next) = in_body_or e at (doing (with_size e n) E.Nothing)
did_of e at m word (C.Colour s a b c d next) = in_body_or e at (doing (with_ink e (colour_here s a b c d)) E.Nothing)
did_of e at m word (C.Break next) = in_body_or e at (doing (with_gap e 1) E.Nothing)
did_of e at m word (C.Space next) = in_body_or e at (doing (with_gap e 1) E.Nothing)
did_of e at m word (C.Draw b dh dv k next) = on_page_or e at (draw_on e b dh dv k at next)
did_of e at m word (C.Gray n next) = on_page_or e at (gray_on e n at next)
did_of e at m word (C.Fill s a b c d next) = on_page_or e at (fill_on e s (colour_here s a b c d) at next)
did_of e at m word (C.Device p l next) = onwards e 0 1 e.quantum 84 at next
did_of e at m word (C.Resolution q next) = onwards e 1 2 q 114 at next
did_of e at m word (C.Init next) = onwards e 2 3 e.quantum 105 at next
did_of e at m word (C.File p l next) = in_body_or e at (control_on e 70 at next)
did_of e at m word (C.Mount n p l next) = in_body_or e at (control_on e 102 at next)
did_of e at m word (C.Plain b next) = in_body_or e at (control_on e b at next)
did_of e at m word (C.Raw next) = in_body_or e at (doing e (E.Entry (raw_here e at next)))
did_of e at m word (C.Stop next) = onwards e 3 4 e.quantum 115 at next
