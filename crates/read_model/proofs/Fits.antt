-- Every command that is scanned is within the bounds, and every command keeps the environment within them.
use Rattle.std.specs.Prelude.{Option, Some, None, Result, Ok, Err, if◌then◌else◌}
use Prim.Native.Nat.{ℕ, zero, suc, ◌+◌, ◌*◌, ◌-◌, ◌<◌, ◌≤◌}
use native.Mathlib.Omega.{arith}
use mathlib.Core.Bool.{Bool, true, false, ◌&&◌}
use mathlib.Core.List.{List, [], ◌∷◌, map}
use mathlib.Core.Path.{◌≡◌, refl}
use lib.Dec.{ltb, eqb}
use lib.ListN.{length, drop, get_or, length-drop}
use borrow.Author.Tests.{ltb-true}
use Rattle.rules.specs.declared.Refusal.{Refusal}
use Rattle.rules.specs.Answers.{and_then}
use Rattle.rules.specs.Bytes.{origin, most, within, near}
use Rattle.rules.specs.Act.{Shape, line, arc, circle, solid_circle, ellipse, solid_ellipse, polygon, solid_polygon, spline, thickness, gray_fill, colour_fill, Act, glyph, index, to, by, page, font, size, colour, break, space, draw, device, resolution, init, file, mount, plain, raw, stop, Cmd, just, word, pair}
use Rattle.rules.specs.Drawing.{Way, pairwise, first_across, way_of}
use Rattle.rules.specs.Scan.{Scan, name_of, name_in, got, bad, is_name, is_position, is_positive, is_gray, up_to, command}
use Rattle.scan_command.specs.declared.Axis.{Axis}
use Rattle.scan_command.specs.declared.Axis.TheVariants.{Across, Down}
use Rattle.scan_command.specs.declared.Command.{Command}
use Rattle.scan_command.specs.declared.Command.TheVariants as C
use Rattle.rules.specs.declared.Colour.{Colour}
use Rattle.scan_command.specs.View.{draw_of, act_of, cmd_of, command_of, command_at}
use Rattle.laws.proofs.Cases.{on, if_both, if_on, and_left, and_right}
use Rattle.laws.proofs.Good.{all_true, Good, GoodCmd}
use Rattle.laws.proofs.Limits.{within_bounds, up_to-near, up_to_few}
use Rattle.laws_scan.proofs.Fair.{GoodScan, command_good}
use Rattle.laws_scan.proofs.Bounds.{Within, command_in}
use Rattle.read_model.specs.declared.Environment.{Environment}
use Rattle.read_model.specs.declared.Did.{Did}
use Rattle.read_model.specs.declared.Emitted.TheVariants as E
use Rattle.read_model.specs.declared.Word.{Word}
use Rattle.read_model.specs.Environment.{with_gap, with_spot, with_paint, with_phase, with_along, colour_here, gray_colour, on_page, in_body, is_set, may_move, along, gone, placed_or, doing, record_on, drawing_here}
use Rattle.read_model.specs.Words.{all_wide, far_at, word_next, word_end, word_here, word_to, word_on}
use Rattle.read_model.specs.Turns.{mount_at, block_now, did_at, next_of}
use Rattle.read_model.specs.Fits.{EnvFits, Ends, CommandIn, ScannedIn}

-- a number within limits that are below twice the origin
within-most : (lo hi n : ℕ) → within lo hi n ≡ true → n ≤ hi
within-most lo hi n h = (within_bounds lo hi n h).1

within_least : (lo hi n : ℕ) → within lo hi n ≡ true → lo ≤ n
within_least lo hi n h = (within_bounds lo hi n h).0

-- ---- drawings: sums of k numbers, each below twice the origin

abbrev Summed : Way → Type 0
Summed d = (d.dh ≤ d.terms * (2 * origin)) × (d.dv ≤ d.terms * (2 * origin))

pairs_summed : (ns : List ℕ) → all_true (map near ns) ≡ true → Summed (pairwise ns)
pairs_summed [] h = (omega arith, omega arith)
pairs_summed (x ∷ []) h = (omega arith, omega arith)
pairs_summed (x ∷ y ∷ ns) h =
    let a : near x ≡ true = and_left (near x) (near y && all_true (map near ns)) h in
    let r : (near y && all_true (map near ns)) ≡ true = and_right (near x) (near y && all_true (map near ns)) h in
    let b : near y ≡ true = and_left (near y) (all_true (map near ns)) r in
    let c : Summed (pairwise ns) = pairs_summed ns (and_right (near y) (all_true (map near ns)) r) in
    (omega (arith, within-most (origin - most) (origin + most) x a, c.0), omega (arith, within-most (origin - most) (origin + most) y b, c.1))

pair_terms : (ns : List ℕ) → (pairwise ns).terms ≤ length ns
pair_terms [] = omega arith
pair_terms (x ∷ []) = omega arith
pair_terms (x ∷ y ∷ ns) = omega (arith, pair_terms ns)

first_summed : (ns : List ℕ) → all_true (map near ns) ≡ true → Summed (first_across ns) × ((first_across ns).terms ≤ 64)
first_summed [] h = ((omega arith, omega arith), omega arith)
first_summed (x ∷ ns) h = ((omega (arith, within-most (origin - most) (origin + most) x (and_left (near x) (all_true (map near ns)) h)), omega arith), omega arith)

module _ (at n q : ℕ) (z : Ends at n q) where
  pairs_in : (x : Shape) (ns : List ℕ) → way_of x ns ≡ pairwise ns → all_true (map near ns) ≡ true → length ns ≤ 64
      → (Ends at n q) × ((way_of x ns).dh ≤ (way_of x ns).terms * (2 * origin)) × ((way_of x ns).dv ≤ (way_of x ns).terms * (2 * origin)) × ((way_of x ns).terms ≤ 64)
  pairs_in x ns e h l = rw e (z, (pairs_summed ns h).0, (pairs_summed ns h).1, omega (arith, pair_terms ns))

  polygon_in : (x : Shape) (ns : List ℕ) → way_of x ns ≡ pairwise ns → all_true (up_to 64 ns) ≡ true
      → (Ends at n q) × ((way_of x ns).dh ≤ (way_of x ns).terms * (2 * origin)) × ((way_of x ns).dv ≤ (way_of x ns).terms * (2 * origin)) × ((way_of x ns).terms ≤ 64)
  polygon_in x ns e h = pairs_in x ns e (up_to-near 64 ns h) (up_to_few 64 ns h)

  first_in : (x : Shape) (ns : List ℕ) → way_of x ns ≡ first_across ns → all_true (map near ns) ≡ true
      → (Ends at n q) × ((way_of x ns).dh ≤ (way_of x ns).terms * (2 * origin)) × ((way_of x ns).dv ≤ (way_of x ns).terms * (2 * origin)) × ((way_of x ns).terms ≤ 64)
  first_in x ns e h = rw e (z, (first_summed ns h).0.0, (first_summed ns h).0.1, (first_summed ns h).1)

  draw_in : (x : Shape) (ns : List ℕ) → Good (draw x ns) → CommandIn at n (draw_of x ns q)
  draw_in line ns g = pairs_in line ns refl g.0 (omega (arith, g.1))
  draw_in arc ns g = pairs_in arc ns refl g.0 (omega (arith, g.1))
  draw_in circle ns g = first_in circle ns refl g.0
  draw_in solid_circle ns g = first_in solid_circle ns refl g.0
  draw_in ellipse ns g = first_in ellipse ns refl g.0
  draw_in solid_ellipse ns g = first_in solid_ellipse ns refl g.0
  draw_in polygon ns g = polygon_in polygon ns refl g.0
  draw_in solid_polygon ns g = polygon_in solid_polygon ns refl g.0
  draw_in spline ns g = polygon_in spline ns refl g.0
  draw_in thickness ns g = first_in thickness ns refl g.0
  draw_in gray_fill [] g = (z, omega arith)
  draw_in gray_fill (i ∷ ns) g = (z, omega (arith, within-most (origin - 32767) (origin + 32767) i (and_left (is_gray i) (all_true (map is_gray ns)) g.0)))
  draw_in (colour_fill c) ns g = z

  -- one number: its limit stands first
  one_most : (hi lo i : ℕ) → (within lo hi i && true) ≡ true → i ≤ hi
  one_most hi lo i h = within-most lo hi i (and_left (within lo hi i) true h)

  act_in : (p : ℕ) (a : Act) → Good a → at ≤ p → p + length (name_of a) ≤ q → CommandIn at n (act_of p q a)
  act_in p (glyph m) g b l = (z, l)
  act_in p (index i) g b l = (z, omega (arith, one_most (origin + most) (origin - most) i g.0))
  act_in p (to x i) g b l = (z, omega (arith, within_least (origin - most) (origin + most) i (and_left (near i) true g.0)), omega (arith, one_most (origin + most) (origin - most) i g.0))
  act_in p (by x i) g b l = (z, omega (arith, one_most (origin + most) (origin - most) i g.0))
  act_in p (page i) g b l = (z, omega (arith, one_most (origin + most) (origin - most) i g.0))
  act_in p (font i) g b l = (z, omega (arith, one_most (origin + 255) origin i g.0))
  act_in p (size i) g b l = (z, omega (arith, one_most (origin + most) (origin + 1) i g.0))
  act_in p (colour c ns) g b l = z
  act_in p break g b l = z
  act_in p space g b l = z
  act_in p (draw x ns) g b l = draw_in x ns g
  act_in p (device m) g b l = z
  act_in p (resolution i h v) g b l =
      let r : (is_positive h && (is_positive v && true)) ≡ true = and_right (is_positive i) (is_positive h && (is_positive v && true)) g.0 in
      let k : is_positive h ≡ true = and_left (is_positive h) (is_positive v && true) r in
      (z, omega (arith, within_least (origin + 1) (origin + most) h k), omega (arith, within-most (origin + 1) (origin + most) h k))
  act_in p init g b l = z
  act_in p (file m) g b l = z
  act_in p (mount i m) g b l = (z, omega (arith, within-most origin (origin + 255) i (and_left (is_position i) (is_name m && true) g.0)), l)
  act_in p (plain c ns) g b l = z
  act_in p (raw t) g b l = z
  act_in p stop g b l = z

  cmd_in : (p : ℕ) (c : Cmd) → GoodCmd c → at ≤ p → p + length (name_in c) ≤ q → CommandIn at n (cmd_of p q c)
  cmd_in p (just a) g b l = act_in p a g b l
  cmd_in p (word t bs) g b l = (z, omega (arith, within-most (origin - most) (origin + most) t (and_left (near t) true g.0)), b, omega (arith, g.1.some), l)
  cmd_in p (pair i x) g b l = (z, omega (arith, g.1.1), omega arith)

pub command-fits : (s : List ℕ) (at : ℕ) → at < length s → ScannedIn at (length s) (command_at s at)
unfolding command_at
command-fits s at h = go (command (get_or s at 0) (drop (at + 1) s)) (command_good (get_or s at 0) (drop (at + 1) s)) (command_in (get_or s at 0) (drop (at + 1) s))
  where
    go : (x : Scan) → GoodScan x → Within (get_or s at 0 ∷ drop (at + 1) s) x → ScannedIn at (length s) (command_of at x)
    go (bad k j) g w = (g, omega arith, omega (arith, w, length-drop (at + 1) s))
    go (got c a l) g w =
        cmd_in at (length s) (at + l) (omega (arith, w.some), omega (arith, w.most, length-drop (at + 1) s)) (at + a) c g (omega arith) (omega (arith, w.name))

-- ---- what every command keeps

pub later : (at q : ℕ) (e : Environment) → at ≤ q → EnvFits at e → EnvFits q e
later at q e l f = record { h_some = f.h_some; h_most = f.h_most; v_some = f.v_some; v_most = f.v_most; number = f.number; ordinal = omega (arith, f.ordinal); size = f.size; quantum_some = f.quantum_some; quantum_most = f.quantum_most; font = f.font }

-- where a word ends
abbrev EndIn : Option ℕ → Type 0
EndIn None = Unit {0}
EndIn (Some x) = (0 < x) × (x < 2 * origin)

word_in : (s ws : List ℕ) (k : ℕ) (d : Word) → 0 < d.h → d.h < 2 * origin → EndIn (word_end k s ws d)
unfolding word_end
word_in s ws zero d a b = (a, b)
word_in s ws (suc k) d a b =
    if_on EndIn (may_move d.h (far_at s ws d)) _ None
    (λ m.
    let i : origin < d.h + far_at s ws d = ltb-true origin (d.h + far_at s ws d) (and_left (ltb origin (d.h + far_at s ws d)) (ltb (d.h + far_at s ws d) (3 * origin)) m) in
    let j : d.h + far_at s ws d < 3 * origin = ltb-true (d.h + far_at s ws d) (3 * origin) (and_right (ltb origin (d.h + far_at s ws d)) (ltb (d.h + far_at s ws d) (3 * origin)) m) in
    word_in s ws k (word_next s ws d) (omega arith) (omega arith))
    (λ m. tt)

-- what was done leaves the environment within the bounds at q
module _ (q : ℕ) where
  abbrev pub Kept : Result Did Refusal → Type 0
  Kept (Ok d) = EnvFits q d.env
  Kept (Err r) = Unit {0}

  -- behind a test that may refuse
  or_kept : {A : Type 0} (b : Bool) (a : A) (r : Refusal) (g : A → Result Did Refusal) → Kept (g a) → Kept (and_then (if b then Ok a else Err r) g)
  or_kept true a r g k = k
  or_kept false a r g k = tt

  -- behind a place that may lie beyond the limit
  placed_kept : (base sum i : ℕ) (g : ℕ → Result Did Refusal) → ((x : ℕ) → 0 < x → x < 2 * origin → Kept (g x)) → Kept (and_then (placed_or (gone base sum) i) g)
  placed_kept base sum i g k =
      on (ltb base sum && ltb sum (base + 2 * origin))
      (λ m.
      let a : base < sum = ltb-true base sum (and_left (ltb base sum) (ltb sum (base + 2 * origin)) m) in
      let b : sum < base + 2 * origin = ltb-true sum (base + 2 * origin) (and_right (ltb base sum) (ltb sum (base + 2 * origin)) m) in
      rw m (k (sum - base) (omega arith) (omega arith)))
      (λ m. rw m tt)

module _ (s ws : List ℕ) (u at n : ℕ) (e : Environment) (f : EnvFits at e) where
  module _ (q : ℕ) (z : Ends at n q) where
    same : EnvFits q e
    same = later at q e (omega (arith, z.0)) f

    gap_kept : (g : ℕ) → EnvFits q (with_gap e g)
    gap_kept g = record { h_some = f.h_some; h_most = f.h_most; v_some = f.v_some; v_most = f.v_most; number = f.number; ordinal = same.ordinal; size = f.size; quantum_some = f.quantum_some; quantum_most = f.quantum_most; font = f.font }

    spot_kept : (h v g : ℕ) → 0 < h → h < 2 * origin → 0 < v → v < 2 * origin → EnvFits q (with_gap (with_spot e h v) g)
    spot_kept h v g a b c d = record { h_some = a; h_most = b; v_some = c; v_most = d; number = f.number; ordinal = same.ordinal; size = f.size; quantum_some = f.quantum_some; quantum_most = f.quantum_most; font = f.font }

    along_kept : (x : Axis) (i : ℕ) → 0 < i → i < 2 * origin → EnvFits q (with_along e x i)
    along_kept Across i a b = spot_kept i e.v e.gap a b f.v_some f.v_most
    along_kept Down i a b = spot_kept e.h i e.gap f.h_some f.h_most a b

    paint_kept : (c : Colour) → EnvFits q (with_paint e c)
    paint_kept c = record { h_some = f.h_some; h_most = f.h_most; v_some = f.v_some; v_most = f.v_most; number = f.number; ordinal = same.ordinal; size = f.size; quantum_some = f.quantum_some; quantum_most = f.quantum_most; font = f.font }

    phase_kept : (k i : ℕ) → 1 ≤ i → i < origin → EnvFits q (with_phase e k i)
    phase_kept k i a b = record { h_some = f.h_some; h_most = f.h_most; v_some = f.v_some; v_most = f.v_most; number = f.number; ordinal = same.ordinal; size = f.size; quantum_some = a; quantum_most = b; font = f.font }

    end_kept : (o : Option ℕ) (d : Word) → EndIn o → Kept q (word_to e at d o)
    end_kept None d h = tt
    end_kept (Some x) d h = spot_kept x e.v 0 h.0 h.1 f.v_some f.v_most

    word_kept : (t k p block : ℕ) → Kept q (word_on s ws e at u t k p block)
    word_kept t k p block =
        let d : Word = word_here e u t k p block in
        or_kept q (is_set e) tt _ _ (or_kept q (all_wide k s ws block p) tt _ _ (end_kept (word_end k s ws d) d (word_in s ws k d f.h_some f.h_most)))

  -- behind any command the environment is within the bounds
  pub did_fits : (c : Command) → CommandIn at n c → Kept (next_of c) (did_at s ws u e at c)
  did_fits (C.Glyph p l q) i = or_kept q (on_page e) tt _ _ (or_kept q (is_set e) tt _ _ (gap_kept q i.0 0))
  did_fits (C.Index k q) i = or_kept q (on_page e) tt _ _ (or_kept q (is_set e) tt _ _ (if_both (Kept q) (ltb k origin) _ _ (gap_kept q i.0 1) (gap_kept q i.0 0)))
  did_fits (C.Word t p x q) i = or_kept q (on_page e) tt _ _ (word_kept q i.0 t (x - p) p (block_now ws e))
  did_fits (C.Pair k p q) i = or_kept q (on_page e) tt _ _ (or_kept q (is_set e) tt _ _ (placed_kept q origin (e.h + k) at (λ h. record_on (with_spot e h e.v) p 1 0) (λ h a b. spot_kept q i.0 h e.v 0 a b f.v_some f.v_most)))
  did_fits (C.To x k q) i = or_kept q (on_page e) tt _ _ (along_kept q i.0 x k i.1 i.2)
  did_fits (C.By x k q) i = or_kept q (on_page e) tt _ _ (placed_kept q origin (along e x + k) at (λ j. doing (with_along e x j) E.Nothing) (along_kept q i.0 x))
  did_fits (C.Page k q) i =
      or_kept q (in_body e) tt _ _ (record { h_some = f.h_some; h_most = f.h_most; v_some = omega arith; v_most = omega arith; number = i.1; ordinal = omega (arith, f.ordinal, i.0.0); size = f.size; quantum_some = f.quantum_some; quantum_most = f.quantum_most; font = f.font })
  did_fits (C.Font k q) i =
      or_kept q (in_body e) tt _ _ (or_kept q (ltb 0 (mount_at ws k)) tt _ _
      (record { h_some = f.h_some; h_most = f.h_most; v_some = f.v_some; v_most = f.v_most; number = f.number; ordinal = (same q i.0).ordinal; size = f.size; quantum_some = f.quantum_some; quantum_most = f.quantum_most; font = omega (arith, i.1) }))
  did_fits (C.Size k q) i =
      or_kept q (in_body e) tt _ _ (record { h_some = f.h_some; h_most = f.h_most; v_some = f.v_some; v_most = f.v_most; number = f.number; ordinal = (same q i.0).ordinal; size = i.1; quantum_some = f.quantum_some; quantum_most = f.quantum_most; font = f.font })
  did_fits (C.Colour x a b c d q) i =
      or_kept q (in_body e) tt _ _ (record { h_some = f.h_some; h_most = f.h_most; v_some = f.v_some; v_most = f.v_most; number = f.number; ordinal = (same q i).ordinal; size = f.size; quantum_some = f.quantum_some; quantum_most = f.quantum_most; font = f.font })
  did_fits (C.Break q) i = or_kept q (in_body e) tt _ _ (gap_kept q i 1)
  did_fits (C.Space q) i = or_kept q (in_body e) tt _ _ (gap_kept q i 1)
  did_fits (C.Draw b x y k q) i =
      let moved : ℕ → ℕ → Result Did Refusal = λ h v. doing (with_spot e h v) (E.Entry (drawing_here e b 0 at q)) in
      or_kept q (on_page e) tt _ _
      (placed_kept q (k * origin) (e.h + x) at (λ h. and_then (placed_or (gone (k * origin) (e.v + y)) at) (moved h))
      (λ h h₁ h₂. placed_kept q (k * origin) (e.v + y) at (moved h) (λ v v₁ v₂. spot_kept q i.0 h v e.gap h₁ h₂ v₁ v₂)))
  did_fits (C.Gray k q) i = or_kept q (on_page e) tt _ _ (paint_kept q i.0 (gray_colour e.ink k))
  did_fits (C.Fill x a b c d q) i = or_kept q (on_page e) tt _ _ (paint_kept q i (colour_here x a b c d))
  did_fits (C.Device p l q) i = or_kept q (eqb e.phase 0) tt _ _ (phase_kept q i 1 e.quantum f.quantum_some f.quantum_most)
  did_fits (C.Resolution k q) i = or_kept q (eqb e.phase 1) tt _ _ (phase_kept q i.0 2 k i.1 i.2)
  did_fits (C.Init q) i = or_kept q (eqb e.phase 2) tt _ _ (phase_kept q i 3 e.quantum f.quantum_some f.quantum_most)
  did_fits (C.File p l q) i = or_kept q (in_body e) tt _ _ (same q i)
  did_fits (C.Mount k p l q) i = or_kept q (in_body e) tt _ _ (same q i.0)
  did_fits (C.Plain b q) i = or_kept q (in_body e) tt _ _ (same q i)
  did_fits (C.Raw q) i = or_kept q (in_body e) tt _ _ (same q i)
  did_fits (C.Stop q) i = or_kept q (in_body e) tt _ _ (phase_kept q i 4 e.quantum f.quantum_some f.quantum_most)
