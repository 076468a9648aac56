-- A command gives no more records and entries than it has bytes.
use Rattle.std.specs.Prelude.{Option, Some, None, Result, Ok, Err, if◌then◌else◌}
use Prim.Native.Nat.{ℕ, ◌+◌, ◌*◌, ◌-◌, ◌≤◌}
use native.Mathlib.Omega.{arith}
use mathlib.Core.Bool.{Bool, true, false}
use mathlib.Core.List.{List}
use mathlib.Core.Path.{◌≡◌, refl}
use lib.Dec.{ltb, eqb}
use lib.ListN.{length}
use Rattle.rules.specs.declared.Refusal.{Refusal}
use Rattle.rules.specs.Answers.{and_then}
use Rattle.rules.specs.Bytes.{origin}
use Rattle.rules.specs.Act.{Cmd, just, word, pair, Act, glyph, index, to, by, page, font, size, colour, break, space, draw, device, resolution, init, file, mount, plain, raw, stop, line, arc, circle, solid_circle, ellipse, solid_ellipse, polygon, solid_polygon, spline, thickness, gray_fill, colour_fill}
use Rattle.rules.specs.Scan.{name_in}
use Rattle.scan_command.specs.declared.Command.{Command}
use Rattle.scan_command.specs.declared.Command.TheVariants as C
use Rattle.scan_command.specs.View.{act_of, cmd_of}
use Rattle.laws.proofs.Cases.{if_both}
use Rattle.read_model.specs.declared.Environment.{Environment}
use Rattle.read_model.specs.declared.Did.{Did}
use Rattle.read_model.specs.declared.Emitted.TheVariants as E
use Rattle.read_model.specs.Environment.{with_spot, doing, is_set, on_page, in_body, gone, placed_or, drawing_here, record_on, with_along, did_of}
use Rattle.read_model.specs.Words.{all_wide, word_end, word_here, word_on}
use Rattle.read_model.specs.Turns.{asked_mount, block_now, word_asked, did_at, next_of}
use Rattle.read_model.proofs.Acts.{records_in, entries_in}
use Rattle.read_model.proofs.Rows.{word_length}

module _ (s ws : List ℕ) (k : ℕ) (h : 1 ≤ k) where
  abbrev pub Few : Result Did Refusal → Type 0
  Few (Ok d) = (length (records_in s ws d.emitted) ≤ k) × (length (entries_in d.emitted) ≤ k)
  Few (Err r) = Unit {0}

  -- behind a test that may refuse
  or_few : {A : Type 0} (b : Bool) (a : A) (r : Refusal) (f : A → Result Did Refusal) → Few (f a) → Few (and_then (if b then Ok a else Err r) f)
  or_few true a r f h = h
  or_few false a r f h = tt

  -- behind a place that may lie beyond the limit
  placed_few : (o : Option ℕ) (at : ℕ) (f : ℕ → Result Did Refusal) → ((x : ℕ) → Few (f x)) → Few (and_then (placed_or o at) f)
  placed_few (Some x) at f h = h x
  placed_few None at f h = tt

  did_few : (e : Environment) (at m : ℕ) (wd : Result Did Refusal) → Few wd → (c : Command) → Few (did_of e at m wd c)
  did_few e at m wd f (C.Glyph p l n) = or_few (on_page e) tt _ _ (or_few (is_set e) tt _ _ (omega arith, omega arith))
  did_few e at m wd f (C.Index i n) = or_few (on_page e) tt _ _ (or_few (is_set e) tt _ _ (if_both Few (ltb i origin) _ _ (omega arith, omega arith) (omega arith, omega arith)))
  did_few e at m wd f (C.Word t p q n) = or_few (on_page e) tt _ _ f
  did_few e at m wd f (C.Pair i p n) = or_few (on_page e) tt _ _ (or_few (is_set e) tt _ _ (placed_few _ at (λ h. record_on (with_spot e h e.v) p 1 0) (λ x. (omega arith, omega arith))))
  did_few e at m wd f (C.To x i n) = or_few (on_page e) tt _ _ (omega arith, omega arith)
  did_few e at m wd f (C.By x i n) = or_few (on_page e) tt _ _ (placed_few _ at (λ y. doing (with_along e x y) E.Nothing) (λ y. (omega arith, omega arith)))
  did_few e at m wd f (C.Page i n) = or_few (in_body e) tt _ _ (omega arith, omega arith)
  did_few e at m wd f (C.Font i n) = or_few (in_body e) tt _ _ (or_few (ltb 0 m) tt _ _ (omega arith, omega arith))
  did_few e at m wd f (C.Size i n) = or_few (in_body e) tt _ _ (omega arith, omega arith)
  did_few e at m wd f (C.Colour x a b c d n) = or_few (in_body e) tt _ _ (omega arith, omega arith)
  did_few e at m wd f (C.Break n) = or_few (in_body e) tt _ _ (omega arith, omega arith)
  did_few e at m wd f (C.Space n) = or_few (in_body e) tt _ _ (omega arith, omega arith)
  did_few e at m wd f (C.Draw b x y i n) =
      let moved : ℕ → ℕ → Result Did Refusal = λ r t. doing (with_spot e r t) (E.Entry (drawing_here e b 0 at n)) in
      or_few (on_page e) tt _ _
      (placed_few (gone (i * origin) (e.h + x)) at (λ r. and_then (placed_or (gone (i * origin) (e.v + y)) at) (moved r))
      (λ r. placed_few (gone (i * origin) (e.v + y)) at (moved r) (λ t. (omega arith, omega arith))))
  did_few e at m wd f (C.Gray i n) = or_few (on_page e) tt _ _ (omega arith, omega arith)
  did_few e at m wd f (C.Fill x a b c d n) = or_few (on_page e) tt _ _ (omega arith, omega arith)
  did_few e at m wd f (C.Device p l n) = or_few (eqb e.phase 0) tt _ _ (omega arith, omega arith)
  did_few e at m wd f (C.Resolution q n) = or_few (eqb e.phase 1) tt _ _ (omega arith, omega arith)
  did_few e at m wd f (C.Init n) = or_few (eqb e.phase 2) tt _ _ (omega arith, omega arith)
  did_few e at m wd f (C.File p l n) = or_few (in_body e) tt _ _ (omega arith, omega arith)
  did_few e at m wd f (C.Mount i p l n) = or_few (in_body e) tt _ _ (omega arith, omega arith)
  did_few e at m wd f (C.Plain b n) = or_few (in_body e) tt _ _ (omega arith, omega arith)
  did_few e at m wd f (C.Raw n) = or_few (in_body e) tt _ _ (omega arith, omega arith)
  did_few e at m wd f (C.Stop n) = or_few (in_body e) tt _ _ (omega arith, omega arith)

  word_few : (e : Environment) (at u t n p block : ℕ) → n ≤ k → Few (word_on s ws e at u t n p block)
  word_few e at u t n p block l =
      or_few (is_set e) tt _ _ (or_few (all_wide n s ws block p) tt _ _
      (placed_few (word_end n s ws (word_here e u t n p block)) at _ (λ x. (omega (arith, word_length n s ws (word_here e u t n p block)), omega arith))))

  asked_few : (u : ℕ) (e : Environment) (at p q : ℕ) (c : Cmd) → length (name_in c) ≤ k → Few (word_asked s ws u e at (cmd_of p q c))
  asked_few u e at p q (just a) l = act_few a
    where
      act_few : (a : Act) → Few (word_asked s ws u e at (act_of p q a))
      act_few (glyph n) = tt
      act_few (index n) = tt
      act_few (to x n) = tt
      act_few (by x n) = tt
      act_few (page n) = tt
      act_few (font n) = tt
      act_few (size n) = tt
      act_few (colour c ns) = tt
      act_few break = tt
      act_few space = tt
      act_few (draw line ns) = tt
      act_few (draw arc ns) = tt
      act_few (draw circle ns) = tt
      act_few (draw solid_circle ns) = tt
      act_few (draw ellipse ns) = tt
      act_few (draw solid_ellipse ns) = tt
      act_few (draw polygon ns) = tt
      act_few (draw solid_polygon ns) = tt
      act_few (draw spline ns) = tt
      act_few (draw thickness ns) = tt
      act_few (draw gray_fill ns) = tt
      act_few (draw (colour_fill c) ns) = tt
      act_few (device n) = tt
      act_few (resolution n x v) = tt
      act_few init = tt
      act_few (file n) = tt
      act_few (mount n m) = tt
      act_few (plain c ns) = tt
      act_few (raw t) = tt
      act_few stop = tt
  asked_few u e at p q (word n bs) l = word_few e at u n (p + length bs - p) p (block_now ws e) (omega arith)
  asked_few u e at p q (pair n b) l = tt

  pub few : (u : ℕ) (e : Environment) (at p q : ℕ) (c : Cmd) → length (name_in c) ≤ k → Few (did_at s ws u e at (cmd_of p q c))
  few u e at p q c l = did_few e at (asked_mount ws (cmd_of p q c)) (word_asked s ws u e at (cmd_of p q c)) (asked_few u e at p q c l) (cmd_of p q c)

-- the place behind a command of the rules
pub next_is : (p q : ℕ) (c : Cmd) → next_of (cmd_of p q c) ≡ q
next_is p q (just (glyph n)) = refl
next_is p q (just (index n)) = refl
next_is p q (just (to x n)) = refl
next_is p q (just (by x n)) = refl
next_is p q (just (page n)) = refl
next_is p q (just (font n)) = refl
next_is p q (just (size n)) = refl
next_is p q (just (colour c ns)) = refl
next_is p q (just break) = refl
next_is p q (just space) = refl
next_is p q (just (draw line ns)) = refl
next_is p q (just (draw arc ns)) = refl
next_is p q (just (draw circle ns)) = refl
next_is p q (just (draw solid_circle ns)) = refl
next_is p q (just (draw ellipse ns)) = refl
next_is p q (just (draw solid_ellipse ns)) = refl
next_is p q (just (draw polygon ns)) = refl
next_is p q (just (draw solid_polygon ns)) = refl
next_is p q (just (draw spline ns)) = refl
next_is p q (just (draw thickness ns)) = refl
next_is p q (just (draw gray_fill ns)) = refl
next_is p q (just (draw (colour_fill c) ns)) = refl
next_is p q (just (device n)) = refl
next_is p q (just (resolution n h v)) = refl
next_is p q (just init) = refl
next_is p q (just (file n)) = refl
next_is p q (just (mount n m)) = refl
next_is p q (just (plain c ns)) = refl
next_is p q (just (raw t)) = refl
next_is p q (just stop) = refl
next_is p q (word n bs) = refl
next_is p q (pair n b) = refl
