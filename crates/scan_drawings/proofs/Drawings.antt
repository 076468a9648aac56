-- The command `D`: what is answered for each form of its arguments is what the definitions say.
use Rattle.std.specs.Prelude.{if◌then◌else◌, Option as Maybe, Some, None, Result, Ok, Err}
use Prim.Native.Nat.{ℕ, zero, suc, ◌+◌, ◌-◌, ◌≤◌, ◌<◌}
use native.Mathlib.Omega.{arith}
use native.Mathlib.Nat.{add-zero}
use mathlib.Core.Bool.{true}
use mathlib.Core.List.{List, [], ◌∷◌, ◌++◌, map, map-append}
use mathlib.Core.Option as Math
use mathlib.Core.Path.{◌≡◌, refl, sym, ap, ◌∙◌}
use borrow.Author.Tests.{eqb-true, ltb-true, ltb-false}
use lib.Dec.{eqb, ltb}
use lib.ListN.{length, drop, get_or, length-map, drop_of_length-le}
use Rattle.rules.specs.declared.Refusal.{Refusal}
use Rattle.rules.specs.Answers.{refusal, and_then}
use Rattle.rules.specs.Bytes.{is, is_space, spacer, unspaced, origin, moved, within, near, Num, Int, no_int, int, integer, Nums, short, nums, with_num, after_int, integers, is_present, many_integers, perhaps_integer}
use Rattle.rules.specs.Act.{Shape, line, arc, circle, solid_circle, ellipse, solid_ellipse, polygon, solid_polygon, spline, thickness, gray_fill, colour_fill, draw, just}
use Rattle.rules.specs.Letters.{draft, with_all, ignoring, coloured}
use Rattle.rules.specs.Drawing.{closed, shape_of, exactly, dummied, paired, form_of, is_paired, in_pairs, dummy_behind, drawn, in_shape, drawing, pairwise}
use Rattle.rules.specs.Record.{shape_letter}
use Rattle.rules.specs.Scan.{shape_limits, up_to, outside, letter}
use Rattle.laws.proofs.Cases.{on, if_on, if_both}
use Rattle.laws_scan.proofs.Walk.{cons_at}
use Rattle.scan_command.specs.View.{draw_of, draft_of, letter_at}
use Rattle.scan_command.specs.declared.Command.{Command}
use Rattle.scan_command.specs.declared.Command.TheVariants as K
use Rattle.scan_letters.specs.Selected.{drawing_in, drawing_by}
use Rattle.scan_letters.specs.declared.Motion.{Motion}
use Rattle.scan_letters.specs.declared.Motion.TheVariants as M
use Rattle.scan_lex.specs.At.{run_end}
use Rattle.scan_integer.specs.At.{cut}
use Rattle.scan_lex.proofs.Runs.{unspaced_at}
use Rattle.scan_arguments.specs.At.{due_at, perhaps_at, sums_of, within_of, near_of}
use Rattle.scan_arguments.specs.declared.Argument.{Argument}
use Rattle.scan_arguments.specs.declared.Pairs.{Pairs}
use Rattle.scan_close.specs.Closed.{ended_at}
use Rattle.scan_close.proofs.Places.{Back, answered, one_due, two_due, four_due, dummy_due, pairs_due, near-small}
use Rattle.scan_shapes.specs.Parts.{moved_by, one_drawn, dummy_end, dummy_near, dummied_drawn, two_drawn, four_drawn, pairs_drawn, gray_set}
use Rattle.scan_colours.specs.Parts.{fill_set}
use Rattle.scan_colours.proofs.Drafts.{closed_by, closed_is, judged}
use Rattle.scan_colours.proofs.Colours.{fill_is}
use Rattle.scan_drawings.specs.Parts.{drawn_by, drawn_at}

-- ---- each of the pairs' numbers has its place

abbrev Even : Nums → Type 0
Even short = Unit {0}
Even (nums ns ks l t) = length ns ≡ length ks

with_even : (n : Num) (k : ℕ) (x : Nums) → Even x → Even (with_num n k x)
with_even n k short h = tt
with_even n k (nums ns ks l t) h = omega arith

after_even : (k : ℕ) (r : List ℕ) (go : ℕ → List ℕ → Nums) (x : Int) → ((j : ℕ) (t : List ℕ) → Even (go j t)) → Even (after_int k r go x)
after_even k r go no_int h = tt
after_even k r go (int n l) h = with_even n k (go _ _) (h _ _)

many_even : (f k : ℕ) (r : List ℕ) → Even (many_integers f k r)
unfolding many_integers
many_even zero k r = refl
many_even (suc f) k r =
    if_both Even (is_present (unspaced r)) _ (nums [] [] k r)
    (after_even _ (unspaced r) (λ j t. many_integers f j t) (integer (unspaced r)) (λ j t. many_even f j t)) refl

pairs_even : (f k : ℕ) (r : List ℕ) → Even (in_pairs (many_integers f k r))
pairs_even f k r = go (many_integers f k r) (many_even f k r)
  where
    go : (x : Nums) → Even x → Even (in_pairs x)
    go short h = tt
    go (nums ns ks l t) h = if_both Even (is_paired ns) (nums ns ks l t) short h tt

length-up_to : (k : ℕ) (ns : List ℕ) → length (up_to k ns) ≡ length ns
length-up_to k [] = refl
length-up_to k (n ∷ ns) = ap suc (length-up_to (k - 1) ns)

-- ---- the forms of a drawing's arguments, which are due from k bytes behind the command's first on

module _ (s : List ℕ) (at k : ℕ) (sh : Shape) where
  abbrev rest : List ℕ
  rest = drop (at + k) s

  abbrev view : Nums → Result Command Refusal
  view y = draft_of at (closed (with_all (draw sh) y))

  -- one integer within a limit
  one_are : (lo hi : ℕ) → hi < 200000000 → (v : ℕ → ℕ → Command)
      → ((x l : ℕ) → (shape_limits sh (x ∷ []) ≡ within lo hi x ∷ []) × (draw_of sh (x ∷ []) l ≡ v x l))
      → view (integers 1 k rest) ≡ and_then (due_at at s (at + k)) (λ a. and_then (ended_at s at a.next) (λ z. and_then (within_of lo hi a) (λ z. Ok (v a.number a.next))))
  one_are lo hi u v f =
      one_due at s k (λ y q. view y ≡ q) (rw add-zero) (λ a. and_then (ended_at s at a.next) (λ z. and_then (within_of lo hi a) (λ z. Ok (v a.number a.next))))
      (λ a m y g b.
      let x : ℕ = moved m in
      let l : ℕ = a.next in
      rw b.are
      (closed_is at (draw sh (x ∷ [])) true refl b.places (a.place ∷ []) 0 b.end l b.from (rw (f x l).0 (omega arith)) b.to (and_then (within_of lo hi a) (λ z. Ok (v a.number l)))
      (rw ((f x l).0, (f x l).1) (judged lo hi u a x g (Ok (v x l)) [] [] (λ p. Ok (v p l)) refl)) s))

  -- two integers
  two_are : (w : Motion) → form_of sh ≡ exactly 2
      → ((x y l : ℕ) → (shape_limits sh (x ∷ y ∷ []) ≡ near x ∷ near y ∷ []) × (draw_of sh (x ∷ y ∷ []) l ≡ moved_by (shape_letter sh) w x y l))
      → draft_of at (closed (drawn sh k rest (form_of sh))) ≡ two_drawn (shape_letter sh) w s at (at + k)
  unfolding two_drawn
  two_are w e f =
      let v : ℕ → ℕ → ℕ → Command = moved_by (shape_letter sh) w in
      rw e
      (two_due at s k (λ y q. view y ≡ q) (rw add-zero)
      (λ a b. and_then (ended_at s at b.next) (λ z. and_then (near_of a) (λ z. and_then (near_of b) (λ z. Ok (v a.number b.number b.next)))))
      (λ a b m n y g h d.
      let i : ℕ = moved m in
      let j : ℕ = moved n in
      let l : ℕ = b.next in
      let r : Result Command Refusal = Ok (v i j l) in
      rw d.are
      (closed_is at (draw sh (i ∷ j ∷ [])) true refl d.places (a.place ∷ b.place ∷ []) 0 d.end l d.from (rw (f i j l).0 (omega arith)) d.to
      (and_then (near_of a) (λ z. and_then (near_of b) (λ z. Ok (v a.number b.number l))))
      (rw ((f i j l).0, (f i j l).1)
      (judged 1 199999999 (omega arith) a i g r (near j ∷ []) (b.place ∷ []) (λ p. and_then (near_of b) (λ z. Ok (v p b.number l)))
      (judged 1 199999999 (omega arith) b j h r [] [] (λ q. Ok (v i q l)) refl))) s)))

  -- one integer, and perhaps one that is ignored
  module _ (w : Motion) (f : (x l : ℕ) → (shape_limits sh (x ∷ []) ≡ near x ∷ []) × (draw_of sh (x ∷ []) l ≡ moved_by (shape_letter sh) w x origin l)) where
    v : ℕ → ℕ → Command
    v p l = moved_by (shape_letter sh) w p origin l

    abbrev behind : Argument → Maybe Argument → Result Command Refusal
    behind d a =
        and_then (ended_at s at (dummy_end d a)) (λ z.
        and_then (near_of d) (λ z.
        and_then (dummy_near a) (λ z. Ok (moved_by (shape_letter sh) w d.number origin (dummy_end d a)))))

    module _ (d : Argument) (m : Num) (y : Nums) (g : d.number ≡ cut (moved m)) (b : Back at y (m ∷ []) (d.place ∷ []) d.next (drop d.next s)) where
      abbrev with_dummy : Nums → Result Command Refusal
      with_dummy u = draft_of at (closed (ignoring (draft (just (draw sh (moved m ∷ []))) [] b.places 0 b.end (drop d.next s)) u))

      absent : (u : Nums) → Back at u [] [] d.next (drop d.next s) → with_dummy u ≡ behind d None
      unfolding v
      absent u c =
          let x : ℕ = moved m in
          let l : ℕ = d.next in
          rw c.are
          (closed_by at (draw sh (x ∷ [])) true refl [] (b.places ++ c.places) (d.place ∷ []) 0 c.end l (rw (map-append, b.from, c.from)) (rw (f x l).0 (omega arith)) c.to
          (and_then (near_of d) (λ z. Ok (v d.number l)))
          (rw ((f x l).0, (f x l).1) (judged 1 199999999 (omega arith) d x g (Ok (v x l)) [] [] (λ p. Ok (v p l)) refl)) s)

      there : (a : Argument) (n : Num) (u : Nums) → a.number ≡ cut (moved n) → Back at u (n ∷ []) (a.place ∷ []) a.next (drop a.next s) → with_dummy u ≡ behind d (Some a)
      unfolding v
      there a n u h c =
          let x : ℕ = moved m in
          let l : ℕ = a.next in
          rw c.are
          (closed_by at (draw sh (x ∷ [])) true refl (n ∷ []) (b.places ++ c.places) (d.place ∷ a.place ∷ []) 0 c.end l (rw (map-append, b.from, c.from)) (rw (f x l).0 (omega arith)) c.to
          (and_then (near_of d) (λ z. and_then (near_of a) (λ z. Ok (v d.number l))))
          (rw ((f x l).0, (f x l).1, ← (near-small n))
          (judged 1 199999999 (omega arith) d x g (Ok (v x l)) (near (moved n) ∷ []) (a.place ∷ []) (λ p. and_then (near_of a) (λ z. Ok (v p l)))
          (judged 1 199999999 (omega arith) a (moved n) h (Ok (v x l)) [] [] (λ q. Ok (v x l)) refl))) s)

      dummy_is : (i : ℕ) → at + b.end ≡ i → d.next ≡ i → with_dummy (perhaps_integer b.end (drop i s)) ≡ and_then (perhaps_at at s i) (behind d)
      dummy_is i e q =
          rw (← e)
          (dummy_due at s b.end (λ u r. with_dummy u ≡ and_then r (behind d)) (rw add-zero) (λ u c. absent u (rw (q ∙ sym e) c)) there)

    dummied_are : form_of sh ≡ dummied → draft_of at (closed (drawn sh k rest (form_of sh))) ≡ dummied_drawn (shape_letter sh) w s at (at + k)
    unfolding dummied_drawn
    dummied_are e =
        rw e
        (one_due at s k (λ y q. draft_of at (closed (dummy_behind (with_all (draw sh) y))) ≡ q) (rw add-zero) (λ d. and_then (perhaps_at at s d.next) (behind d))
        (λ d m y g b. rw b.are (dummy_is d m y g b d.next b.to refl)))

  -- pairs
  pairs_are : form_of sh ≡ paired
      → ((ns : List ℕ) (l : ℕ) → (shape_limits sh ns ≡ up_to 64 ns) × (draw_of sh ns l ≡ K.Draw (shape_letter sh) (pairwise ns).dh (pairwise ns).dv (pairwise ns).terms l))
      → draft_of at (closed (drawn sh k rest (form_of sh))) ≡ pairs_drawn (shape_letter sh) s at (at + k)
  unfolding pairs_drawn
  pairs_are e f =
      rw e
      (pairs_due at s k (λ y q. Even y → view y ≡ and_then q behind) (λ h. rw add-zero)
      (λ ns ps l y b h.
      let ms : List ℕ = map moved ns in
      let c : length ns ≡ length b.places = rw b.are at h in
      let q : length (up_to 64 ms) ≤ length ps = omega (arith, length-up_to 64 ms, length-map ns moved, length-map b.places (λ (j : ℕ). at + j), ap length b.from, c) in
      rw b.are
      (closed_is at (draw sh ms) true refl b.places ps 0 b.end l b.from (rw (f ms l).0 q) b.to
      (and_then (sums_of ms (outside (up_to 64 ms) ps)) (λ w. Ok (K.Draw (shape_letter sh) w.dh w.dv w.terms l)))
      (rw ((f ms l).0, (f ms l).1) (go ms l (outside (up_to 64 ms) ps))) s))
      (pairs_even (length rest) k rest))
    where
      behind : Pairs → Result Command Refusal
      behind p = and_then (ended_at s at p.next) (λ z. and_then p.sums (λ w. Ok (K.Draw (shape_letter sh) w.dh w.dv w.terms p.next)))

      go : (ms : List ℕ) (l : ℕ) (o : Math.Option ℕ)
          → answered (Ok (K.Draw (shape_letter sh) (pairwise ms).dh (pairwise ms).dv (pairwise ms).terms l)) o ≡ and_then (sums_of ms o) (λ w. Ok (K.Draw (shape_letter sh) w.dh w.dv w.terms l))
      go ms l Math.none = refl
      go ms l (Math.some k) = refl

module _ (s : List ℕ) (at k : ℕ) where
  -- four integers
  four_are : draft_of at (closed (with_all (draw arc) (integers 4 k (drop (at + k) s)))) ≡ four_drawn 97 s at (at + k)
  unfolding four_drawn
  four_are =
      four_due at s k (λ y q. draft_of at (closed (with_all (draw arc) y)) ≡ q) (rw add-zero)
      (λ a b c d.
      and_then (ended_at s at d.next) (λ z.
      and_then (near_of a) (λ z.
      and_then (near_of b) (λ z.
      and_then (near_of c) (λ z. and_then (near_of d) (λ z. Ok (K.Draw 97 (a.number + c.number) (b.number + d.number) 2 d.next)))))))
      (λ a b c d m n o p u g h i j e.
      let x : ℕ = moved m in
      let y : ℕ = moved n in
      let z : ℕ = moved o in
      let w : ℕ = moved p in
      let l : ℕ = d.next in
      let r : Result Command Refusal = Ok (K.Draw 97 (x + z) (y + w) 2 l) in
      rw e.are
      (closed_is at (draw arc (x ∷ y ∷ z ∷ w ∷ [])) true refl e.places (a.place ∷ b.place ∷ c.place ∷ d.place ∷ []) 0 e.end l e.from (omega arith) e.to
      (and_then (near_of a) (λ v.
      and_then (near_of b) (λ v.
      and_then (near_of c) (λ v. and_then (near_of d) (λ v. Ok (K.Draw 97 (a.number + c.number) (b.number + d.number) 2 l))))))
      (rw (add-zero z, add-zero w)
      (judged 1 199999999 (omega arith) a x g r (near y ∷ near z ∷ near w ∷ []) (b.place ∷ c.place ∷ d.place ∷ [])
      (λ q. and_then (near_of b) (λ v. and_then (near_of c) (λ v. and_then (near_of d) (λ v. Ok (K.Draw 97 (q + c.number) (b.number + d.number) 2 l)))))
      (judged 1 199999999 (omega arith) b y h r (near z ∷ near w ∷ []) (c.place ∷ d.place ∷ [])
      (λ q. and_then (near_of c) (λ v. and_then (near_of d) (λ v. Ok (K.Draw 97 (x + c.number) (q + d.number) 2 l))))
      (judged 1 199999999 (omega arith) c z i r (near w ∷ []) (d.place ∷ []) (λ q. and_then (near_of d) (λ v. Ok (K.Draw 97 (x + q) (y + d.number) 2 l)))
      (judged 1 199999999 (omega arith) d w j r [] [] (λ q. Ok (K.Draw 97 (x + z) (y + q) 2 l)) refl))))) s))

  -- the thickness
  one_is : draft_of at (closed (with_all (draw thickness) (integers 1 k (drop (at + k) s)))) ≡ one_drawn 116 M.Across s at (at + k)
  unfolding one_drawn
  one_is = one_are s at k thickness 1 199999999 (omega arith) (λ x l. moved_by 116 M.Across x origin l) (λ x l. (refl, rw (add-zero x)))

  gray_is : draft_of at (closed (with_all (draw gray_fill) (integers 1 k (drop (at + k) s)))) ≡ gray_set s at (at + k)
  unfolding gray_set
  gray_is = one_are s at k gray_fill (origin - 32767) (origin + 32767) (omega arith) (λ x l. K.Gray x l) (λ x l. (refl, refl))

-- ---- by what the letter b selects

module _ (b : ℕ) (s : List ℕ) (at k : ℕ) where
  -- what is answered for a shape is what the definitions say of it
  abbrev Said : Math.Option Shape → Type 0
  Said o = draft_of at (closed (in_shape k (drop (at + k) s) o)) ≡ drawn_by b s at (at + k) (drawing_by o)

  said : (x : Shape) → draft_of at (closed (drawn x k (drop (at + k) s) (form_of x))) ≡ drawn_by (shape_letter x) s at (at + k) (drawing_in x) → eqb b (shape_letter x) ≡ true → Said (Math.some x)
  said x p e = rw (eqb-true b (shape_letter x) e) p

  shapes_are : Said (shape_of b)
  shapes_are =
      if_on Said (is "l" b) (Math.some line) _ (said line (two_are s at k line M.Both refl (λ x y l. (refl, rw (add-zero x, add-zero y))))) (λ e.
      if_on Said (is "a" b) (Math.some arc) _ (said arc (four_are s at k)) (λ e.
      if_on Said (is "c" b) (Math.some circle) _ (said circle (dummied_are s at k circle M.Across (λ x l. (refl, rw (add-zero x))) refl)) (λ e.
      if_on Said (is "C" b) (Math.some solid_circle) _ (said solid_circle (dummied_are s at k solid_circle M.Across (λ x l. (refl, rw (add-zero x))) refl)) (λ e.
      if_on Said (is "e" b) (Math.some ellipse) _ (said ellipse (two_are s at k ellipse M.Across refl (λ x y l. (refl, rw (add-zero x))))) (λ e.
      if_on Said (is "E" b) (Math.some solid_ellipse) _ (said solid_ellipse (two_are s at k solid_ellipse M.Across refl (λ x y l. (refl, rw (add-zero x))))) (λ e.
      if_on Said (is "p" b) (Math.some polygon) _ (said polygon (pairs_are s at k polygon refl (λ ns l. (refl, refl)))) (λ e.
      if_on Said (is "P" b) (Math.some solid_polygon) _ (said solid_polygon (pairs_are s at k solid_polygon refl (λ ns l. (refl, refl)))) (λ e.
      if_on Said (is "~" b) (Math.some spline) _ (said spline (pairs_are s at k spline refl (λ ns l. (refl, refl)))) (λ e.
      if_on Said (is "t" b) (Math.some thickness) _ (said thickness (one_is s at k)) (λ e.
      if_on Said (is "f" b) (Math.some gray_fill) Math.none (said gray_fill (gray_is s at k)) (λ e. rw add-zero)))))))))))

-- the letter stands at i, k bytes behind the command's first
module _ (s : List ℕ) (at k i : ℕ) (g : at + k ≡ i) where
  abbrev operands : List ℕ
  operands = drop (i + 1) s

  filled : draft_of at (closed (coloured (λ c. draw (colour_fill c)) (k + 1 + spacer operands) (unspaced operands))) ≡ fill_set s at (run_end is_space s (i + 1))
  unfolding run_end
  filled = rw (unspaced_at s (i + 1)) (fill_is at s (k + 1 + spacer operands) (i + 1 + spacer operands) (omega arith))

  lettered : (b : ℕ) → draft_of at (closed (drawing k (b ∷ operands))) ≡ drawn_at b s at (i + 1)
  unfolding drawing drawn_at
  lettered b =
      let j : at + (k + 1) ≡ i + 1 = omega arith in
      on (is "F" b) (λ e. rw e filled) (λ e. rw (e, ← j) (shapes_are b s at (k + 1)))

  drawing_at : draft_of at (closed (drawing k (drop i s))) ≡ (if ltb i (length s) then drawn_at (get_or s i 0) s at (i + 1) else Err (refusal 3 at))
  unfolding drawing
  drawing_at =
      on (ltb i (length s))
      (λ e. rw (e, cons_at s i (ltb-true i (length s) e)) (lettered (get_or s i 0)))
      (λ e. rw (e, drop_of_length-le s (ltb-false i (length s) e), add-zero))

pub drawing_is : (s : List ℕ) (at : ℕ)
    → letter_at 68 s at ≡ (if ltb (run_end is_space s (at + 1)) (length s) then drawn_at (get_or s (run_end is_space s (at + 1)) 0) s at (run_end is_space s (at + 1) + 1) else Err (refusal 3 at))
unfolding letter_at letter run_end
drawing_is s at = rw (unspaced_at s (at + 1)) (drawing_at s at (1 + spacer (drop (at + 1) s)) (at + 1 + spacer (drop (at + 1) s)) (omega arith))
