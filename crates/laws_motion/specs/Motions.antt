-- Document 01, motions over the integers: of every command that moves, the place afterwards is the place before plus the numbers that the
-- command has, each as the integer that its text says, so that nobody has to believe the numbers that are moved up. `h_behind` and
-- `v_behind` are 01's tables again, as 02 has changed them, apart from those of the rules (`way_of`, `plus`, `plus_all`). Proofs: `Moved` and
-- `Worded`. That what they ask for holds in every run: `Runs`.
use Rattle.std.specs.Prelude.{ℕ, ◌+◌, ◌*◌, ◌-◌, ◌<◌, ◌≤◌, true, List, [], ◌∷◌, map, ◌⊎◌, ◌≡◌, ℤ, pos, neg_ℤ, nat_abs, ◌+ℤ◌, length, get_or, if◌then◌else◌}
use Rattle.std.proofs.Math.Option.{some}
use Rattle.rules.specs.Bytes.{origin, Num, moved, near}
use Rattle.rules.specs.Act.{across, down, Shape, line, arc, circle, solid_circle, ellipse, solid_ellipse, polygon, solid_polygon, spline, thickness, gray_fill, colour_fill, Act, glyph, index, to, by, page, font, size, colour, break, space, draw, device, resolution, init, file, mount, plain, raw, stop, just, word, pair}
use Rattle.rules.specs.Widths.{Width, Font, Widths, advance}
use Rattle.rules.specs.State.{Env, Glyph, Item, mounted_at, due, refused, went, act, these, acts, perform}
use Rattle.rules.specs.Record.{shown}

-- ---- "Its magnitude is at most 99,999,999"; "h or v beyond 99,999,999 either way"

abbrev pub InLimit : ℤ → Type 0
InLimit z = nat_abs z ≤ 99_999_999

abbrev pub Beyond : ℤ → Type 0
Beyond z = 99_999_999 < nat_abs z

-- a number from lo to hi, none of them below 0
abbrev pub FromTo : ℕ → ℕ → ℕ → Type 0
FromTo lo hi n = (i : ℕ) × (shown n ≡ pos i) × (lo ≤ i) × (i ≤ hi)

-- what a sign and a magnitude say
abbrev pub text_says : Num → ℤ
text_says n = if n.neg then neg_ℤ (pos n.mag) else pos n.mag

pub record NumberTexts : Type 0 where
  -- a number within its limit stands for what its text says
  pub stands_for : (n : Num) → n.mag ≤ 99_999_999 → shown (moved n) ≡ text_says n
  -- "`-0` is 0."
  pub minus_0 : (n : Num) → n.mag ≡ 0 → shown (moved n) ≡ pos 0
  -- the rules' test is the limit, of a text and of any number that is moved up
  pub limit : (n : Num) → near (moved n) ≡ true → n.mag ≤ 99_999_999
  pub limit_met : (n : Num) → n.mag ≤ 99_999_999 → near (moved n) ≡ true
  pub near_is : (n : ℕ) → near n ≡ true → InLimit (shown n)
  pub near_of : (n : ℕ) → InLimit (shown n) → near n ≡ true

-- ---- "Drawing": the columns "arguments" and "motion"

-- the k-th argument, counted from 1
abbrev pub nth : ℕ → List ℤ → ℤ
nth k zs = get_or zs (k - 1) (pos 0)

abbrev pub odd_placed : List ℤ → List ℤ
odd_placed [] = []
odd_placed (x ∷ []) = x ∷ []
odd_placed (x ∷ y ∷ r) = x ∷ odd_placed r

abbrev pub even_placed : List ℤ → List ℤ
even_placed [] = []
even_placed (x ∷ []) = []
even_placed (x ∷ y ∷ r) = y ∷ even_placed r

abbrev pub sum : List ℤ → ℤ
sum [] = pos 0
sum (z ∷ zs) = z +ℤ sum zs

abbrev pub EvenCount : List ℕ → Type 0
EvenCount [] = Unit {0}
EvenCount (x ∷ []) = ⊥
EvenCount (x ∷ y ∷ r) = EvenCount r

-- "arguments"; a dummy is none of them
abbrev pub Arguments : Shape → List ℕ → Type 0
Arguments line ns = length ns ≡ 2  -- "h v"
Arguments arc ns = length ns ≡ 4  -- "h1 v1 h2 v2"
Arguments circle ns = length ns ≡ 1  -- "d, optional dummy"
Arguments solid_circle ns = length ns ≡ 1
Arguments ellipse ns = length ns ≡ 2  -- "h v"
Arguments solid_ellipse ns = length ns ≡ 2
Arguments polygon ns = EvenCount ns  -- "2 to 64 integers, an even number"
Arguments solid_polygon ns = EvenCount ns
Arguments spline ns = EvenCount ns
Arguments thickness ns = length ns ≡ 1  -- "n"
Arguments gray_fill ns = Unit {0}
Arguments (colour_fill c) ns = Unit {0}

-- "motion", across
abbrev pub drawn_across : Shape → List ℤ → ℤ
drawn_across line zs = nth 1 zs  -- "+h, +v"
drawn_across arc zs = nth 1 zs +ℤ nth 3 zs  -- "+h1+h2, +v1+v2"
drawn_across circle zs = nth 1 zs  -- "+d, 0"
drawn_across solid_circle zs = nth 1 zs
drawn_across ellipse zs = nth 1 zs  -- "+h, 0"
drawn_across solid_ellipse zs = nth 1 zs
drawn_across polygon zs = sum (odd_placed zs)  -- "+ sum of the odd-placed, + sum of the even-placed"
drawn_across solid_polygon zs = sum (odd_placed zs)
drawn_across spline zs = sum (odd_placed zs)
drawn_across thickness zs = nth 1 zs  -- 2026-02: "its argument is added to the horizontal position and the vertical one stays"
drawn_across gray_fill zs = pos 0  -- "none"
drawn_across (colour_fill c) zs = pos 0

-- and down
abbrev pub drawn_down : Shape → List ℤ → ℤ
drawn_down line zs = nth 2 zs
drawn_down arc zs = nth 2 zs +ℤ nth 4 zs
drawn_down circle zs = pos 0
drawn_down solid_circle zs = pos 0
drawn_down ellipse zs = pos 0
drawn_down solid_ellipse zs = pos 0
drawn_down polygon zs = sum (even_placed zs)
drawn_down solid_polygon zs = sum (even_placed zs)
drawn_down spline zs = sum (even_placed zs)
drawn_down thickness zs = pos 0
drawn_down gray_fill zs = pos 0
drawn_down (colour_fill c) zs = pos 0

-- ---- "Commands of one letter": h and v behind an act, by h and v before it

abbrev pub h_behind : Act → ℤ → ℤ
h_behind (glyph n) h = h  -- "no motion"
h_behind (index n) h = h
h_behind (to across n) h = shown n  -- "`H` `h` `V` `v` n: h = n, h + n, v = n, v + n"
h_behind (to down n) h = h
h_behind (by across n) h = h +ℤ shown n
h_behind (by down n) h = h
h_behind (page n) h = h  -- "v = 0; h .. stay"
h_behind (font n) h = h
h_behind (size n) h = h
h_behind (colour c ns) h = h
h_behind break h = h
h_behind space h = h
h_behind (draw s ns) h = h +ℤ drawn_across s (map shown ns)
h_behind (device n) h = h
h_behind (resolution n m v) h = h
h_behind init h = h
h_behind (file n) h = h
h_behind (mount n m) h = h
h_behind (plain c ns) h = h
h_behind (raw t) h = h
h_behind stop h = h

abbrev pub v_behind : Act → ℤ → ℤ
v_behind (glyph n) v = v
v_behind (index n) v = v
v_behind (to across n) v = v
v_behind (to down n) v = shown n
v_behind (by across n) v = v
v_behind (by down n) v = v +ℤ shown n
v_behind (page n) v = pos 0
v_behind (font n) v = v
v_behind (size n) v = v
v_behind (colour c ns) v = v
v_behind break v = v
v_behind space v = v
v_behind (draw s ns) v = v +ℤ drawn_down s (map shown ns)
v_behind (device n) v = v
v_behind (resolution n h m) v = v
v_behind init v = v
v_behind (file n) v = v
v_behind (mount n m) v = v
v_behind (plain c ns) v = v
v_behind (raw t) v = v
v_behind stop v = v

-- ---- one act

-- what its text makes sure of: a drawing has its arguments, the number of `H` and `V` is within its limit, the second number of `x r` is
-- "at least 1"
abbrev pub AsWritten : Act → Type 0
AsWritten (glyph n) = Unit {0}
AsWritten (index n) = Unit {0}
AsWritten (to x n) = InLimit (shown n)
AsWritten (by x n) = Unit {0}
AsWritten (page n) = Unit {0}
AsWritten (font n) = Unit {0}
AsWritten (size n) = Unit {0}
AsWritten (colour c ns) = Unit {0}
AsWritten break = Unit {0}
AsWritten space = Unit {0}
AsWritten (draw s ns) = Arguments s ns
AsWritten (device n) = Unit {0}
AsWritten (resolution n h v) = FromTo 1 99_999_999 h
AsWritten init = Unit {0}
AsWritten (file n) = Unit {0}
AsWritten (mount n m) = Unit {0}
AsWritten (plain c ns) = Unit {0}
AsWritten (raw t) = Unit {0}
AsWritten stop = Unit {0}

-- h and v are within the limit
abbrev pub Inside : Env → Type 0
Inside e = InLimit (shown e.spot.h) × InLimit (shown e.spot.v)

-- h or v would be beyond it behind the act
abbrev pub Outside : Env → Act → Type 0
Outside e a = Beyond (h_behind a (shown e.spot.h)) ⊎ Beyond (v_behind a (shown e.spot.v))

pub record Motions : Type 0 where
  pub h : (e e' : Env) (gs : List Glyph) (xs : List Item) (a : Act) → AsWritten a → act e a ≡ went e' gs xs → shown e'.spot.h ≡ h_behind a (shown e.spot.h)
  pub v : (e e' : Env) (gs : List Glyph) (xs : List Item) (a : Act) → AsWritten a → act e a ≡ went e' gs xs → shown e'.spot.v ≡ v_behind a (shown e.spot.v)

-- Refusal 10: "h or v beyond 99,999,999 either way after a command, or after any glyph of a word (`Dp`: at its end only)". It is given
-- exactly there, of an act that may stand where it stands; else 7 comes first.
pub record Refusal10 : Type 0 where
  pub given : (e : Env) (a : Act) → AsWritten a → Inside e → due e a ≡ true → Outside e a → act e a ≡ refused 10
  pub only : (e : Env) (a : Act) → AsWritten a → Inside e → act e a ≡ refused 10 → Outside e a
  -- so whatever is not refused ends within the limit
  pub keeps : (e e' : Env) (gs : List Glyph) (xs : List Item) (a : Act) → AsWritten a → Inside e → act e a ≡ went e' gs xs → Inside e'

-- ---- "Widths": the advance

-- "The advance for width w, size s, unitwidth k and `x r` second number m is the multiple of m nearest to w*s/k, a tie going up (house)":
-- a is less than m/2 below w*s/k and at most m/2 above it, here times 2*k. (k is "1..100000", m "at least 1": `Runs`.)
pub record Nearest (w s k m a : ℕ) : Type 0 where
  pub factor : ℕ
  pub multiple : a ≡ m * factor
  pub not_below : 2 * w * s < 2 * k * a + k * m
  pub not_above : 2 * k * a ≤ 2 * w * s + k * m

pub record Advances : Type 0 where
  pub nearest : (w s k m : ℕ) → 1 ≤ k → 1 ≤ m → Nearest w s k m (advance w s k m)
  pub no_other : (w s k m a : ℕ) → 1 ≤ k → 1 ≤ m → Nearest w s k m a → a ≡ advance w s k m

-- ---- "Widths": the width of a byte. Nothing here rests on the rules' own look-up (`width_of`, `width_in`).

-- "pairs `byte=N`, `width=N`, bytes strictly rising": the pair of the byte b, of which there is at most one, has the width x
abbrev pub Paired : ℕ → ℕ → List Width → Type 0
Paired b x [] = ⊥
Paired b x (p ∷ ps) = ((p.byte ≡ b) × (p.width ≡ x)) ⊎ ((p.byte ≡ b → ⊥) × Paired b x ps)

-- "blocks, each `font=NAME`", "Font names .. differ": the block of this name, of which there is at most one, has the width x for the byte b
abbrev pub Says : List Font → List ℕ → ℕ → ℕ → Type 0
Says [] name b x = ⊥
Says (f ∷ fs) name b x = ((f.name ≡ name) × Paired b x f.widths) ⊎ ((f.name ≡ name → ⊥) × Says fs name b x)

-- ---- words and two digits

-- "`t` word: each byte a glyph; h grows by its width after each", "`u` n word: as `t`, h grows by width + n after each": zs are the numbers
-- by which h grows behind the bytes, f the current font position, n the word's number (`t`: 0), and the width of a byte counts as its
-- advance: "The table used is that of the name now mounted at the current position."
abbrev pub Grows : Widths → Env → ℕ → ℤ → List ℕ → List ℤ → Type 0
Grows w e f n [] [] = Unit {0}
Grows w e f n [] (z ∷ zs) = ⊥
Grows w e f n (b ∷ bs) [] = ⊥
Grows w e f n (b ∷ bs) (z ∷ zs) =
    ((x : ℕ) × Says w.fonts (mounted_at f e.mounts) b x × (z ≡ pos (advance x e.size w.unitwidth e.quantum) +ℤ n))
    × Grows w e f n bs zs

-- h at each glyph, the first at h; and h behind each
abbrev pub h_at : ℤ → List ℤ → List ℤ
h_at h [] = []
h_at h (z ∷ zs) = h ∷ h_at (h +ℤ z) zs

abbrev pub h_after : ℤ → List ℤ → List ℤ
h_after h [] = []
h_after h (z ∷ zs) = (h +ℤ z) ∷ h_after (h +ℤ z) zs

abbrev pub SomeBeyond : List ℤ → Type 0
SomeBeyond [] = ⊥
SomeBeyond (z ∷ zs) = Beyond z ⊎ SomeBeyond zs

abbrev pub glyph_h : Glyph → ℤ
glyph_h g = shown g.spot.h

abbrev pub glyph_v : Glyph → ℤ
glyph_v g = shown g.spot.v

-- what a word did: where its glyphs stand, and where it ends
pub record WordMoved (w : Widths) (e : Env) (n : ℕ) (bs : List ℕ) (e' : Env) (gs : List Glyph) : Type 0 where
  pub position : ℕ
  pub current : e.font ≡ some position
  pub growth : List ℤ
  pub grows : Grows w e position (shown n) bs growth
  pub glyphs_h : map glyph_h gs ≡ h_at (shown e.spot.h) growth
  pub glyphs_v : map glyph_v gs ≡ map (λ z. shown e.spot.v) growth
  pub end_h : shown e'.spot.h ≡ shown e.spot.h +ℤ sum growth
  pub end_v : shown e'.spot.v ≡ shown e.spot.v

-- where a word is refused with 10, once 7, 8 and 9 are not against it: "after any glyph of a word"
pub record WordRefused (w : Widths) (e : Env) (n : ℕ) (bs : List ℕ) : Type 0 where
  pub position : ℕ
  pub current : e.font ≡ some position
  pub growth : List ℤ
  pub grows : Grows w e position (shown n) bs growth
  pub given : SomeBeyond (h_after (shown e.spot.h) growth) → perform e (acts w e (word n bs)) ≡ refused 10
  pub only : perform e (acts w e (word n bs)) ≡ refused 10 → SomeBeyond (h_after (shown e.spot.h) growth)

pub record Words : Type 0 where
  -- every other command is one act, so whatever is said of acts is said of commands
  pub single : (w : Widths) (e : Env) (a : Act) → perform e (acts w e (just a)) ≡ act e a
  -- the number of a `t` word
  pub t_number : shown origin ≡ pos 0
  pub moved_on : (w : Widths) (e e' : Env) (gs : List Glyph) (xs : List Item) (n : ℕ) (bs : List ℕ) → perform e (acts w e (word n bs)) ≡ went e' gs xs → WordMoved w e n bs e' gs
  pub refusal_10 : (w : Widths) (e : Env) (n : ℕ) (bs : List ℕ) (ys : List Act) → acts w e (word n bs) ≡ these ys → WordRefused w e n bs
  -- "two digits, glyph byte: h grows by the two-digit number, then the glyph"
  pub two_digits : (w : Widths) (e e' : Env) (gs : List Glyph) (xs : List Item) (n b : ℕ) → perform e (acts w e (pair n b)) ≡ went e' gs xs
      → (map glyph_h gs ≡ (shown e.spot.h +ℤ shown n) ∷ []) × (map glyph_v gs ≡ shown e.spot.v ∷ []) × (shown e'.spot.h ≡ shown e.spot.h +ℤ shown n) × (shown e'.spot.v ≡ shown e.spot.v)
  -- "beyond 99,999,999 either way after a command": 10 exactly there, once 7 and 8 are not against it
  pub two_digits_10 : (w : Widths) (e : Env) (n b : ℕ) (ys : List Act) → acts w e (pair n b) ≡ these ys
      → (Beyond (shown e.spot.h +ℤ shown n) → perform e (acts w e (pair n b)) ≡ refused 10) × (perform e (acts w e (pair n b)) ≡ refused 10 → Beyond (shown e.spot.h +ℤ shown n))
