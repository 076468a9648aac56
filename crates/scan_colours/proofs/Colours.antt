-- The components of a colour, and the commands `m` and `DF`: what is answered is what the definitions say.
use Rattle.std.specs.Prelude.{Some, Result, Ok, Err}
use Rattle.std.proofs.lemmas.Option.{slice_get_past, slice_get-get_or}
use Prim.Native.Nat.{ℕ, ◌+◌, ◌-◌, ◌≤◌, ◌<◌}
use native.Mathlib.Omega.{arith}
use native.Mathlib.Nat.{add-zero}
use mathlib.Core.Bool.{Bool, true}
use mathlib.Core.List.{List, [], ◌∷◌, map}
use mathlib.Core.Option as Math
use mathlib.Core.Path.{◌≡◌, refl}
use borrow.Author.Tests.{eqb-true, ltb-true, ltb-false}
use lib.Dec.{eqb, ltb}
use lib.ListN.{length, drop, get_or, length-map, drop_of_length-le}
use Rattle.rules.specs.declared.Refusal.{Refusal}
use Rattle.rules.specs.Answers.{refusal, and_then}
use Rattle.rules.specs.Bytes.{is, is_space, spacer, origin, moved, Num, Nums, short, integers}
use Rattle.rules.specs.Act.{Scheme, cmy, default, gray, cmyk, rgb, Act, colour_fill, colour, draw}
use Rattle.rules.specs.Letters.{Draft, fault, with_all, scheme_of, components, in_scheme, coloured}
use Rattle.rules.specs.Drawing.{closed}
use Rattle.rules.specs.State.{padded}
use Rattle.rules.specs.Record.{scheme_letter}
use Rattle.rules.specs.Scan.{is_component, outside, letter}
use Rattle.laws.proofs.Cases.{on, if_on}
use Rattle.laws_scan.proofs.Walk.{cons_at}
use Rattle.scan_command.specs.View.{draft_of, letter_at}
use Rattle.scan_command.specs.declared.Command.{Command}
use Rattle.scan_command.specs.declared.Command.TheVariants as K
use Rattle.scan_letters.specs.Selected.{parts_in, parts_by}
use Rattle.scan_lex.specs.At.{run_end}
use Rattle.scan_integer.specs.At.{cut}
use Rattle.scan_arguments.specs.declared.Argument.{Argument}
use Rattle.scan_lex.proofs.Runs.{unspaced_at}
use Rattle.scan_close.proofs.Places.{Back, answered, one_due, three_due, four_due, within-cut, within_uncut}
use Rattle.scan_colours.specs.Parts.{count_in, known, components_from, components_at, parts_of, with_parts, colour_of, fill_of, fill_set}
use Rattle.scan_colours.specs.declared.Components.{Components}
use Rattle.scan_colours.proofs.Drafts.{draft_is, closed_is}

-- ---- components of a scheme

-- all components, or the refusal of one that begins at a place
abbrev limited : {R : Type 0} → Result R Refusal → Math.Option ℕ → Result R Refusal
limited r Math.none = r
limited r (Math.some k) = Err (refusal 6 k)

limited_then : {A B : Type 0} (f : A → B) (v : A) (o : Math.Option ℕ) → and_then (limited (Ok v) o) (λ x. Ok (f x)) ≡ limited (Ok (f v)) o
limited_then f v Math.none = refl
limited_then f v (Math.some k) = refl

answered_then : {A : Type 0} (f : A → Command) (v : A) (o : Math.Option ℕ) → answered (Ok (f v)) o ≡ and_then (limited (Ok v) o) (λ x. Ok (f x))
answered_then f v Math.none = refl
answered_then f v (Math.some k) = refl

-- components, within their limits, are ps; bs says whether each is, and ks are their places
record Judged (all : List Argument) (ps : List ℕ) (bs : List Bool) (ks : List ℕ) : Type 0 where
  pub are : parts_of all ≡ limited (Ok ps) (outside bs ks)

-- one component more, before others
more : {a : Argument} {all : List Argument} {ps : List ℕ} {bs : List Bool} {ks : List ℕ} (m : ℕ) → a.number ≡ cut m → Judged all ps bs ks
    → Judged (a ∷ all) ((m - origin) ∷ ps) (is_component m ∷ bs) (a.place ∷ ks)
more {a} {all} {ps} {bs} {ks} m g h = record {
  are =
      rw (g, within-cut origin (origin + 65536) m (omega arith), h.are)
      (on (is_component m)
      (λ w. rw (w, within_uncut origin (origin + 65536) m (omega arith) w) (limited_then (λ (qs : List ℕ). (m - origin) ∷ qs) ps (outside bs ks)))
      (λ w. rw w));
}

-- y is the integers, read from s, that components of a scheme are
record ComponentsAre (at : ℕ) (s : List ℕ) (c : Scheme) (y : Nums) (all : Components) : Type 0 where
  pub numbers : List Num
  pub places : List ℕ
  pub back : Back at y numbers places all.next (drop all.next s)
  pub count : length numbers ≤ length places
  pub scheme : all.scheme ≡ scheme_letter c
  pub parts : Judged all.parts (padded 4 (map moved numbers)) (map is_component (map moved numbers)) places

abbrev ComponentsNums : ℕ → List ℕ → Scheme → Nums → Result Components Refusal → Type 0
ComponentsNums at s c y (Err r) = (y ≡ short) × (r ≡ refusal 4 at)
ComponentsNums at s c y (Ok all) = ComponentsAre at s c y all

-- they are due from k bytes behind the command's first on
module _ (at : ℕ) (s : List ℕ) (k : ℕ) where
  abbrev unused : ℕ → Argument
  unused n = record { number = origin; place = n; next = n }

  abbrev read : ℕ → List Argument → ℕ → Result Components Refusal
  read scheme all n = Ok (record { scheme = scheme; parts = all; next = n })

  three_are : (c : Scheme) → ComponentsNums at s c (integers 3 k (drop (at + k) s)) (components_from at s (at + k) (scheme_letter c) 3)
  three_are c =
      three_due at s k (ComponentsNums at s c) (refl, refl) (λ a b d. read (scheme_letter c) (a ∷ b ∷ d ∷ unused d.next ∷ []) d.next)
      (λ a b d m n o y e f g h. record {
        numbers = m ∷ n ∷ o ∷ [];
        places = a.place ∷ b.place ∷ d.place ∷ [];
        back = h;
        count = omega arith;
        scheme = refl;
        parts = more (moved m) e (more (moved n) f (more (moved o) g (record { are = refl })));
      })

  components_are : (c : Scheme) → ComponentsNums at s c (integers (components c) k (drop (at + k) s)) (components_from at s (at + k) (scheme_letter c) (components c))
  unfolding integers
  components_are cmy = three_are cmy
  components_are default = record {
    numbers = [];
    places = [];
    back = record { places = []; end = k; are = refl; from = refl; to = refl };
    count = omega arith;
    scheme = refl;
    parts = record { are = refl };
  }
  components_are gray =
      one_due at s k (ComponentsNums at s gray) (refl, refl) (λ a. read 103 (a ∷ unused a.next ∷ unused a.next ∷ unused a.next ∷ []) a.next)
      (λ a m y e h. record {
        numbers = m ∷ [];
        places = a.place ∷ [];
        back = h;
        count = omega arith;
        scheme = refl;
        parts = more (moved m) e (record { are = refl });
      })
  components_are cmyk =
      four_due at s k (ComponentsNums at s cmyk) (refl, refl) (λ a b c d. read 107 (a ∷ b ∷ c ∷ d ∷ []) d.next)
      (λ a b c d m n o p y e f g i h. record {
        numbers = m ∷ n ∷ o ∷ p ∷ [];
        places = a.place ∷ b.place ∷ c.place ∷ d.place ∷ [];
        back = h;
        count = omega arith;
        scheme = refl;
        parts = more (moved m) e (more (moved n) f (more (moved o) g (more (moved p) i (record { are = refl }))));
      })
  components_are rgb = three_are rgb

-- ---- by the scheme's letter: a command with components, as it is viewed, and what is done with what was read

module _ (at : ℕ) (s : List ℕ) (f : Scheme → List ℕ → Act) (view : Draft → Result Command Refusal) (rest : Components → Result Command Refusal) (wrong : (n : ℕ) → view (fault n) ≡ Err (refusal n at)) (right : (c : Scheme) (y : Nums) (r : Result Components Refusal) → ComponentsNums at s c y r → view (with_all (f c) y) ≡ and_then r rest) where
  module _ (b k : ℕ) where
    abbrev Said : Math.Option Scheme → Type 0
    Said o = view (in_scheme f k (drop (at + k) s) o) ≡ and_then (and_then (known at (count_in (parts_by o))) (λ n. components_from at s (at + k) b n)) rest

    counted : (c : Scheme) → count_in (parts_in c) ≡ Some (components c)
    counted cmy = refl
    counted default = refl
    counted gray = refl
    counted cmyk = refl
    counted rgb = refl

    said : (c : Scheme) → eqb b (scheme_letter c) ≡ true → Said (Math.some c)
    said c e =
        rw (eqb-true b (scheme_letter c) e, counted c)
        (right c (integers (components c) k (drop (at + k) s)) (components_from at s (at + k) (scheme_letter c) (components c)) (components_are at s k c))

    schemes_are : Said (scheme_of b)
    schemes_are =
        if_on Said (is "c" b) (Math.some cmy) _ (said cmy) (λ e.
        if_on Said (is "d" b) (Math.some default) _ (said default) (λ e.
        if_on Said (is "g" b) (Math.some gray) _ (said gray) (λ e.
        if_on Said (is "k" b) (Math.some cmyk) _ (said cmyk) (λ e.
        if_on Said (is "r" b) (Math.some rgb) Math.none (said rgb) (λ e. wrong 3)))))

  -- the scheme's letter is due at i, k bytes behind the command's first
  coloured_is : (k i : ℕ) → at + k ≡ i → view (coloured f k (drop i s)) ≡ and_then (components_at at s i) rest
  coloured_is k i g =
      let j : at + (k + 1) ≡ i + 1 = omega arith in
      on (ltb i (length s))
      (λ e.
      let h : i < length s = ltb-true i (length s) e in
      rw (cons_at s i h, slice_get-get_or s i 0 h, ← j) (schemes_are (get_or s i 0) (k + 1)))
      (λ e.
      let h : length s ≤ i = ltb-false i (length s) e in
      rw (drop_of_length-le s h, slice_get_past s i h) (wrong 3))

-- ---- the commands

module _ (at : ℕ) (s : List ℕ) where
  module _ (f : Scheme → List ℕ → Act) (v : Scheme → ℕ → List ℕ → Command) (c : Scheme) (y : Nums) (all : Components) (h : ComponentsAre at s c y all) where
    abbrev given : List ℕ
    given = map moved h.numbers

    -- components and what is said of them
    judged_parts : answered (Ok (v c all.next (padded 4 given))) (outside (map is_component given) h.places) ≡ and_then (parts_of all.parts) (λ ps. Ok (v c all.next ps))
    judged_parts = rw h.parts.are (answered_then (v c all.next) (padded 4 given) (outside (map is_component given) h.places))

    fewer : length (map is_component given) ≤ length h.places
    fewer = omega (arith, length-map given is_component, length-map h.numbers moved, h.count)

  colour_right : (c : Scheme) (y : Nums) (r : Result Components Refusal) → ComponentsNums at s c y r → draft_of at (with_all (colour c) y) ≡ and_then r colour_of
  colour_right c y (Err r) h = rw (h.0, h.1, add-zero)
  colour_right c y (Ok all) h =
      let v : Scheme → ℕ → List ℕ → Command = λ (k : Scheme). λ (e : ℕ). λ (ps : List ℕ). with_parts (λ p q r t. K.Colour (scheme_letter k) p q r t e) ps in
      rw (h.back.are, h.scheme)
      (draft_is at (colour c (map moved h.numbers)) true refl h.back.places h.places 0 h.back.end all.next h.back.from (fewer colour v c y all h) h.back.to
      (and_then (parts_of all.parts) (λ ps. Ok (v c all.next ps))) (judged_parts colour v c y all h) (drop all.next s))

  pub colour_is : letter_at 109 s at ≡ and_then (components_at at s (run_end is_space s (at + 1))) colour_of
  unfolding letter_at letter run_end
  colour_is =
      let k : ℕ = 1 + spacer (drop (at + 1) s) in
      let i : ℕ = at + 1 + spacer (drop (at + 1) s) in
      rw (unspaced_at s (at + 1)) (coloured_is at s colour (λ d. draft_of at d) colour_of (λ n. rw add-zero) colour_right k i (omega arith))

  fill_right : (c : Scheme) (y : Nums) (r : Result Components Refusal) → ComponentsNums at s c y r
      → draft_of at (closed (with_all (draw (colour_fill c)) y)) ≡ and_then r (fill_of at s)
  fill_right c y (Err r) h = rw (h.0, h.1, add-zero)
  fill_right c y (Ok all) h =
      let v : Scheme → ℕ → List ℕ → Command = λ (k : Scheme). λ (e : ℕ). λ (ps : List ℕ). with_parts (λ p q r t. K.Fill (scheme_letter k) p q r t e) ps in
      let f : Scheme → List ℕ → Act = λ (k : Scheme). λ (ns : List ℕ). draw (colour_fill k) ns in
      rw (h.back.are, h.scheme)
      (closed_is at (draw (colour_fill c) (map moved h.numbers)) true refl h.back.places h.places 0 h.back.end all.next h.back.from (fewer f v c y all h) h.back.to
      (and_then (parts_of all.parts) (λ ps. Ok (v c all.next ps))) (judged_parts f v c y all h) s)

  -- `DF`: the scheme's letter is due at i, k bytes behind the command's first
  pub fill_is : (k i : ℕ) → at + k ≡ i → draft_of at (closed (coloured (λ c. draw (colour_fill c)) k (drop i s))) ≡ fill_set s at i
  unfolding fill_set
  fill_is k i g = coloured_is at s (λ c. draw (colour_fill c)) (λ d. draft_of at (closed d)) (fill_of at s) (λ n. rw add-zero) fill_right k i g
