-- Limits of numbers: each lies within the limit of all numbers.
use Prim.Native.Nat.{ℕ, ◌+◌, ◌-◌, ◌≤◌, ◌<◌}
use native.Mathlib.Omega.{arith}
use mathlib.Core.Bool.{true, ◌&&◌}
use mathlib.Core.List.{List, [], ◌∷◌, map}
use mathlib.Core.Path.{◌≡◌, refl}
use lib.Dec.{leb, ltb}
use lib.ListN.{length}
use borrow.Author.Tests.{leb-true, le-leb, ltb-true}
use Rattle.rules.specs.Bytes.{is_digit, most, origin, within, near}
use Rattle.rules.specs.Act.{Shape, line, arc, circle, solid_circle, ellipse, solid_ellipse, polygon, solid_polygon, spline, thickness, gray_fill, colour_fill, Plain, pause, trailer, height, slant, underline}
use Rattle.rules.specs.Scan.{up_to, is_position, is_positive, is_component, shape_limits, plain_limits}
use Rattle.laws.proofs.Cases.{and_left, and_right}
use Rattle.laws.proofs.Good.{all_true}

-- ---- one number

pub within_bounds : (lo hi n : ℕ) → within lo hi n ≡ true → (lo ≤ n) × (n ≤ hi)
within_bounds lo hi n h = (leb-true lo n (and_left (leb lo n) (leb n hi) h), leb-true n hi (and_right (leb lo n) (leb n hi) h))

pub within-near : (lo hi n : ℕ) → origin - most ≤ lo → hi ≤ origin + most → within lo hi n ≡ true → near n ≡ true
within-near lo hi n l m h =
    let b : (lo ≤ n) × (n ≤ hi) = within_bounds lo hi n h in
    rw (le-leb (origin - most) n (omega arith), le-leb n (origin + most) (omega arith))

pub near_bounds : (n : ℕ) → near n ≡ true → (origin - most ≤ n) × (n ≤ origin + most)
near_bounds n h = within_bounds (origin - most) (origin + most) n h

-- the byte of a digit
pub digit : (d : ℕ) → d < 10 → is_digit (48 + d) ≡ true
digit d h = rw (le-leb 48 (48 + d) (omega arith), le-leb (48 + d) 57 (omega arith))

-- ---- all numbers of an act

-- all of them are within the limit of all numbers
abbrev pub AllNear : List ℕ → Type 0
AllNear ns = all_true (map near ns) ≡ true

pub within_all : (lo hi : ℕ) → origin - most ≤ lo → hi ≤ origin + most → (ns : List ℕ) → all_true (map (within lo hi) ns) ≡ true → AllNear ns
within_all lo hi l m [] h = refl
within_all lo hi l m (n ∷ ns) h =
    rw (
      within-near lo hi n l m (and_left (within lo hi n) (all_true (map (within lo hi) ns)) h),
      within_all lo hi l m ns (and_right (within lo hi n) (all_true (map (within lo hi) ns)) h),
    )

pub up_to-near : (k : ℕ) (ns : List ℕ) → all_true (up_to k ns) ≡ true → AllNear ns
up_to-near k [] h = refl
up_to-near k (n ∷ ns) h =
    rw (
      and_right (ltb 0 k) (near n) (and_left (ltb 0 k && near n) (all_true (up_to (k - 1) ns)) h),
      up_to-near (k - 1) ns (and_right (ltb 0 k && near n) (all_true (up_to (k - 1) ns)) h),
    )

pub up_to_few : (k : ℕ) (ns : List ℕ) → all_true (up_to k ns) ≡ true → length ns ≤ k
up_to_few k [] h = omega arith
up_to_few k (n ∷ ns) h =
    let p : 0 < k = ltb-true 0 k (and_left (ltb 0 k) (near n) (and_left (ltb 0 k && near n) (all_true (up_to (k - 1) ns)) h)) in
    omega (arith, up_to_few (k - 1) ns (and_right (ltb 0 k && near n) (all_true (up_to (k - 1) ns)) h))

pub component-near : (ns : List ℕ) → all_true (map is_component ns) ≡ true → AllNear ns
component-near ns h = within_all origin (origin + 65536) (omega arith) (omega arith) ns h

pub position-near : (n : ℕ) → is_position n ≡ true → AllNear (n ∷ [])
position-near n h = within_all origin (origin + 255) (omega arith) (omega arith) (n ∷ []) (rw h)

pub positive-near : (ns : List ℕ) → all_true (map is_positive ns) ≡ true → AllNear ns
positive-near ns h = within_all (origin + 1) (origin + most) (omega arith) (omega arith) ns h

pub shape-near : (s : Shape) (ns : List ℕ) → all_true (shape_limits s ns) ≡ true → AllNear ns
shape-near line ns h = h
shape-near arc ns h = h
shape-near circle ns h = h
shape-near solid_circle ns h = h
shape-near ellipse ns h = h
shape-near solid_ellipse ns h = h
shape-near polygon ns h = up_to-near 64 ns h
shape-near solid_polygon ns h = up_to-near 64 ns h
shape-near spline ns h = up_to-near 64 ns h
shape-near thickness ns h = h
shape-near gray_fill ns h = within_all (origin - 32767) (origin + 32767) (omega arith) (omega arith) ns h
shape-near (colour_fill c) ns h = component-near ns h

pub plain-near : (c : Plain) (ns : List ℕ) → all_true (plain_limits c ns) ≡ true → AllNear ns
plain-near pause ns h = h
plain-near trailer ns h = h
plain-near height ns h = h
plain-near slant ns h = h
plain-near underline ns h = within_all origin (origin + 1) (omega arith) (omega arith) ns h
