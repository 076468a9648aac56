-- What the code does for a command that is one act is what the rules say of the act.
use Rattle.std.specs.Prelude.{Some, None, Result, Ok, Err, if◌then◌else◌}
use Prim.Native.Nat.{ℕ, zero, suc, ◌+◌, ◌*◌, ◌-◌, ◌<◌}
use native.Mathlib.Omega.{arith}
use mathlib.Core.Bool.{Bool, true, false, ◌&&◌}
use mathlib.Core.List.{List, [], ◌∷◌, map}
use mathlib.Core.Path.{◌≡◌, refl, ap, ap₂}
use lib.Dec.{ltb, eqb}
use lib.ListN.{length, set}
use borrow.Author.Tests.{lt-ltb}
use Rattle.rules.specs.declared.Record.{Record}
use Rattle.rules.specs.declared.Entry.{Entry}
use Rattle.rules.specs.declared.Colour.{Colour}
use Rattle.rules.specs.declared.Refusal.{Refusal}
use Rattle.rules.specs.Answers.{refusal, asked, and_then}
use Rattle.rules.specs.Bytes.{origin, within}
use Rattle.rules.specs.Act.{across, down, Scheme, cmy, default, gray, cmyk, rgb, Shape, line, arc, circle, solid_circle, ellipse, solid_ellipse, polygon, solid_polygon, spline, thickness, gray_fill, colour_fill, Act, glyph, index, to, by, page, font, size, colour, break, space, draw, device, resolution, init, file, mount, plain, raw, stop}
use Rattle.rules.specs.Drawing.{way_of, still}
use Rattle.rules.specs.State.{Paint, Step, refused, went, act, with_font, mounted_at, is_mounted, set_glyph_paint, to_font, fits_all, drawn_to, filled, padded, painted, grayed, recorded, indexed}
use Rattle.rules.specs.Record.{record_of, entry_of, glyph_rows, item_rows, scheme_letter, shape_letter, third_letter}
use Rattle.scan_command.specs.View.{act_of, part}
use Rattle.laws.proofs.Cases.{on}
use Rattle.laws.proofs.Good.{Name, Shaped}
use Rattle.read_model.specs.declared.Environment.{Environment}
use Rattle.read_model.specs.declared.Emitted.{Emitted}
use Rattle.read_model.specs.declared.Emitted.TheVariants as E
use Rattle.read_model.specs.declared.Did.{Did}
use Rattle.read_model.specs.Words.{word_records}
use Rattle.read_model.specs.Environment.{font_of, scheme_at, paint_of, env_of, doing, placed_or, on_page, in_body, with_gap, record_on, may_move, font_on, draw_on, with_paint, drawing_here, colour_here, gray_colour, did_of}

-- ---- what is given to the rows

abbrev pub records_in : List ℕ → List ℕ → Emitted → List Record
records_in s ws E.Nothing = []
records_in s ws (E.Record r) = r ∷ []
records_in s ws (E.Entry x) = []
records_in s ws (E.Word w) = word_records w.left s ws w

abbrev pub entries_in : Emitted → List Entry
entries_in E.Nothing = []
entries_in (E.Record r) = []
entries_in (E.Entry x) = x ∷ []
entries_in (E.Word w) = []

-- the mounts behind an act
abbrev pub mounts_after : Act → List (List ℕ) → List (List ℕ)
mounts_after (mount n m) ms = set ms (n - origin) m
mounts_after _ ms = ms

-- a step of the rules, the names of its glyphs from p on, its command at a place and of a length, is what was done
abbrev pub Agrees : List ℕ → List ℕ → List (List ℕ) → ℕ → ℕ → ℕ → Step → Result Did Refusal → Type 0
Agrees s ws ms at p l (refused n) (Err r) = (r ≡ refusal n at) × (0 < n)
Agrees s ws ms at p l (refused n) (Ok d) = ⊥
Agrees s ws ms at p l (went e gs is) (Err r) = ⊥
Agrees s ws ms at p l (went e gs is) (Ok d) = (env_of d.env ms ≡ e) × (map record_of (glyph_rows p gs) ≡ records_in s ws d.emitted) × (map entry_of (item_rows at l is) ≡ entries_in d.emitted)

-- ---- tests that both make

module _ (s ws : List ℕ) (ms : List (List ℕ)) (at p l : ℕ) where
  both : (b : Bool) (x : Step) (d : Result Did Refusal) (n : ℕ) → Agrees s ws ms at p l x d → Agrees s ws ms at p l (if b then x else refused (suc n)) (and_then (asked b (suc n) at) (λ z. d))
  both true x d n h = h
  both false x d n h = (refl, omega arith)

  -- a place within the limit, or 10
  pub placed : (b : Bool) (v : ℕ) (x : Step) (f : ℕ → Result Did Refusal) → Agrees s ws ms at p l x (f v)
      → Agrees s ws ms at p l (if b then x else refused 10) (and_then (placed_or (if b then Some v else None) at) f)
  placed true v x f h = h
  placed false v x f h = (refl, omega arith)

  placed_both : (a b : Bool) (v w : ℕ) (x : Step) (f : ℕ → ℕ → Result Did Refusal) → Agrees s ws ms at p l x (f v w)
      → Agrees s ws ms at p l (if a && b then x else refused 10) (and_then (placed_or (if a then Some v else None) at) (λ i. and_then (placed_or (if b then Some w else None) at) (f i)))
  placed_both true b v w x f h = placed b w x (f v) h
  placed_both false b v w x f h = (refl, omega arith)

length_is : (at l : ℕ) → at + l - at ≡ l
length_is at l = omega arith

-- ---- glyphs

font_set : (s ws : List ℕ) (ms : List (List ℕ)) (at p l : ℕ) (e : Environment) (go : ℕ → Step) (d : Result Did Refusal) → ((f : ℕ) → e.font ≡ suc f → Agrees s ws ms at p l (go f) d) → (k : ℕ) → e.font ≡ k
    → Agrees s ws ms at p l (with_font (env_of e ms) go (font_of k)) (and_then (asked (ltb 0 k && ltb 0 e.size) 8 at) (λ z. d))
font_set s ws ms at p l e go d h zero q = (refl, omega arith)
font_set s ws ms at p l e go d h (suc f) q =
    rw (lt-ltb 0 (suc f) (omega arith)) (on (ltb 0 e.size) (λ z. rw z (h f q)) (λ z. rw z (refl, omega arith)))

minus_one : (f : ℕ) → suc f - 1 ≡ f
minus_one f = omega arith

module _ (s ws : List ℕ) (ms : List (List ℕ)) (at l : ℕ) (e : Environment) where
  glyph_agrees : (n : List ℕ) (p : ℕ) → Name n → (f : ℕ) → e.font ≡ suc f
      → Agrees s ws ms at p l (recorded (env_of e ms) n 0 f) (record_on e p (length n) 0)
  unfolding glyph_rows item_rows
  glyph_agrees [] p h f q = absurd (let z : 0 < 0 = h.some in omega arith)
  glyph_agrees (b ∷ n) p h f q = rw (q, minus_one f) (refl, refl, refl)

  index_agrees : (n p f : ℕ) → e.font ≡ suc f → Agrees s ws ms at p l (indexed (env_of e ms) n f) (if ltb n origin then doing (with_gap e 1) E.Nothing else record_on e 0 0 (n - origin))
  unfolding glyph_rows item_rows
  index_agrees n p f q = on (ltb n origin) (λ k. rw k (refl, refl, refl)) (λ k. rw (k, q, minus_one f) (refl, refl, refl))

-- ---- colours

scheme_back : (c : Scheme) → scheme_at (scheme_letter c) ≡ c
scheme_back cmy = refl
scheme_back default = refl
scheme_back gray = refl
scheme_back cmyk = refl
scheme_back rgb = refl

parts_back : (ns : List ℕ) → part 0 ns ∷ part 1 ns ∷ part 2 ns ∷ part 3 ns ∷ [] ≡ padded 4 ns
parts_back [] = refl
parts_back (a ∷ []) = refl
parts_back (a ∷ b ∷ []) = refl
parts_back (a ∷ b ∷ c ∷ []) = refl
parts_back (a ∷ b ∷ c ∷ d ∷ ns) = refl

pub paint_back : (c : Scheme) (ns : List ℕ) → paint_of (colour_here (scheme_letter c) (part 0 ns) (part 1 ns) (part 2 ns) (part 3 ns)) ≡ painted c ns
paint_back c ns = ap₂ (λ (s : Scheme) (l : List ℕ). record { scheme = s; parts = l }) (scheme_back c) (parts_back ns)

gray_back : (g : Colour) (n : ℕ) (ns : List ℕ) → paint_of (gray_colour g n) ≡ grayed (paint_of g) (n ∷ ns)
gray_back g n ns = on (within origin (origin + 1000) n) (λ k. rw k) (λ k. rw k)

-- ---- every act

-- the place is within the limit
abbrev pub Placed : Environment → Type 0
Placed e = (0 < e.h) × (e.h < 2 * origin) × (0 < e.v) × (e.v < 2 * origin)

-- what is known of the number that the mounts hold at the position of an `f`
abbrev pub MountOf : List (List ℕ) → ℕ → Act → Type 0
MountOf ms m (font n) = ltb 0 m ≡ is_mounted (mounted_at (n - origin) ms)
MountOf ms m _ = Unit {0}

stays : (x : ℕ) → x + 0 - 0 ≡ x
stays x = omega arith

module _ (s ws : List ℕ) (ms : List (List ℕ)) (at l p : ℕ) (e : Environment) (word : Result Did Refusal) where
  -- a drawing that leaves the fill colour
  draw_agrees : (x : Shape) (ns : List ℕ) → filled (env_of e ms) x ns ≡ paint_of e.paint → third_letter x ≡ 0
      → Agrees s ws ms at p l (drawn_to (env_of e ms) x ns) (draw_on e (shape_letter x) (way_of x ns).dh (way_of x ns).dv (way_of x ns).terms at (at + l))
  unfolding glyph_rows item_rows
  draw_agrees x ns f t =
      placed_both s ws ms at p l (fits_all (way_of x ns).terms e.h (way_of x ns).dh) (fits_all (way_of x ns).terms e.v (way_of x ns).dv) _ _ _ _ (rw (f, t, length_is at l) (refl, refl, refl))

  font_agrees : (n m : ℕ) → ltb 0 m ≡ is_mounted (mounted_at n ms) → Agrees s ws ms at p l (to_font (env_of e ms) n) (font_on e at n m)
  unfolding glyph_rows item_rows
  font_agrees n m h = rw (h, one_more n) (both s ws ms at p l (is_mounted (mounted_at n ms)) _ _ 7 (refl, refl, refl))
    where
      one_more : (k : ℕ) → k + 1 ≡ suc k
      one_more k = omega arith

  -- a drawing that does not move, and sets the fill colour
  still_agrees : Placed e → (x : Shape) (ns : List ℕ) (c : Colour) → way_of x ns ≡ still → paint_of c ≡ filled (env_of e ms) x ns
      → Agrees s ws ms at p l (drawn_to (env_of e ms) x ns) (doing (with_paint e c) (E.Entry (drawing_here e (shape_letter x) (third_letter x) at (at + l))))
  unfolding glyph_rows item_rows
  still_agrees z x ns c w f =
      rw (
        w,
        lt-ltb 0 (e.h + 0) (omega arith),
        lt-ltb (e.h + 0) (2 * origin) (omega arith),
        lt-ltb 0 (e.v + 0) (omega arith),
        lt-ltb (e.v + 0) (2 * origin) (omega arith),
        stays e.h,
        stays e.v,
        ← f,
        length_is at l,
      )
      (refl, refl, refl)

  -- mounted names aside, what each act does; m is what the mounts hold at the position of an `f`
  pub act_agrees : Placed e → (a : Act) → Shaped a → (m : ℕ) → MountOf ms m a → Agrees s ws (mounts_after a ms) at p l (act (env_of e ms) a) (did_of e at m word (act_of p (at + l) a))
  unfolding act glyph_rows item_rows
  act_agrees z (glyph n) g m k = both s ws ms at p l (on_page e) _ _ 6 (font_set s ws ms at p l e (recorded (env_of e ms) n 0) _ (glyph_agrees s ws ms at l e n p g) e.font refl)
  act_agrees z (index n) g m k = both s ws ms at p l (on_page e) _ _ 6 (font_set s ws ms at p l e (indexed (env_of e ms) n) _ (index_agrees s ws ms at l e n p) e.font refl)
  act_agrees z (to across n) g m k = both s ws ms at p l (on_page e) _ _ 6 (refl, refl, refl)
  act_agrees z (to down n) g m k = both s ws ms at p l (on_page e) _ _ 6 (refl, refl, refl)
  act_agrees z (by across n) g m k = both s ws ms at p l (on_page e) _ _ 6 (placed s ws ms at p l (may_move e.h n) _ _ _ (refl, refl, refl))
  act_agrees z (by down n) g m k = both s ws ms at p l (on_page e) _ _ 6 (placed s ws ms at p l (may_move e.v n) _ _ _ (refl, refl, refl))
  act_agrees z (page n) g m k = both s ws ms at p l (in_body e) _ _ 6 (refl, refl, refl)
  act_agrees z (font n) g m k = both s ws ms at p l (in_body e) _ _ 6 (font_agrees (n - origin) m k)
  act_agrees z (size n) g m k = both s ws ms at p l (in_body e) _ _ 6 (refl, refl, refl)
  act_agrees z (colour c ns) g m k = both s ws ms at p l (in_body e) _ _ 6 (ap (λ (x : Paint). set_glyph_paint (env_of e ms) x) (paint_back c ns), refl, refl)
  act_agrees z break g m k = both s ws ms at p l (in_body e) _ _ 6 (refl, refl, refl)
  act_agrees z space g m k = both s ws ms at p l (in_body e) _ _ 6 (refl, refl, refl)
  act_agrees z (draw line ns) g m k = both s ws ms at p l (on_page e) _ _ 6 (draw_agrees line ns refl refl)
  act_agrees z (draw arc ns) g m k = both s ws ms at p l (on_page e) _ _ 6 (draw_agrees arc ns refl refl)
  act_agrees z (draw circle ns) g m k = both s ws ms at p l (on_page e) _ _ 6 (draw_agrees circle ns refl refl)
  act_agrees z (draw solid_circle ns) g m k = both s ws ms at p l (on_page e) _ _ 6 (draw_agrees solid_circle ns refl refl)
  act_agrees z (draw ellipse ns) g m k = both s ws ms at p l (on_page e) _ _ 6 (draw_agrees ellipse ns refl refl)
  act_agrees z (draw solid_ellipse ns) g m k = both s ws ms at p l (on_page e) _ _ 6 (draw_agrees solid_ellipse ns refl refl)
  act_agrees z (draw polygon ns) g m k = both s ws ms at p l (on_page e) _ _ 6 (draw_agrees polygon ns refl refl)
  act_agrees z (draw solid_polygon ns) g m k = both s ws ms at p l (on_page e) _ _ 6 (draw_agrees solid_polygon ns refl refl)
  act_agrees z (draw spline ns) g m k = both s ws ms at p l (on_page e) _ _ 6 (draw_agrees spline ns refl refl)
  act_agrees z (draw thickness ns) g m k = both s ws ms at p l (on_page e) _ _ 6 (draw_agrees thickness ns refl refl)
  act_agrees z (draw gray_fill []) g m k = absurd (omega arith)
  act_agrees z (draw gray_fill (n ∷ ns)) g m k = both s ws ms at p l (on_page e) _ _ 6 (still_agrees z gray_fill (n ∷ ns) (gray_colour e.ink n) refl (gray_back e.ink n ns))
  act_agrees z (draw (colour_fill c) ns) g m k = both s ws ms at p l (on_page e) _ _ 6 (still_agrees z (colour_fill c) ns (colour_here (scheme_letter c) (part 0 ns) (part 1 ns) (part 2 ns) (part 3 ns)) refl (paint_back c ns))
  act_agrees z (device n) g m k = both s ws ms at p l (eqb e.phase 0) _ _ 6 (rw (length_is at l) (refl, refl, refl))
  act_agrees z (resolution n h v) g m k = both s ws ms at p l (eqb e.phase 1) _ _ 6 (rw (length_is at l) (refl, refl, refl))
  act_agrees z init g m k = both s ws ms at p l (eqb e.phase 2) _ _ 6 (rw (length_is at l) (refl, refl, refl))
  act_agrees z (file n) g m k = both s ws ms at p l (in_body e) _ _ 6 (rw (length_is at l) (refl, refl, refl))
  act_agrees z (mount n x) g m k = both s ws (set ms (n - origin) x) at p l (in_body e) _ _ 6 (rw (length_is at l) (refl, refl, refl))
  act_agrees z (plain c ns) g m k = both s ws ms at p l (in_body e) _ _ 6 (rw (length_is at l) (refl, refl, refl))
  act_agrees z (raw t) g m k = both s ws ms at p l (in_body e) _ _ 6 (rw (length_is at l) (refl, refl, refl))
  act_agrees z stop g m k = both s ws ms at p l (in_body e) _ _ 6 (rw (length_is at l) (refl, refl, refl))
