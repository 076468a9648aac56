-- Refusal 16 is given exactly where a command is complete, in its limits, and has a barred byte in a name.
use Prim.Native.Nat.{ℕ}
use native.Mathlib.Omega.{arith}
use mathlib.Core.List.{List, [], ◌∷◌, ◌++◌, map, append_assoc, append-nil}
use mathlib.Core.Logic.{◌⊎◌, inl, inr}
use mathlib.Core.Option.{Option, none, some}
use mathlib.Core.Path.{◌≡◌, refl, sym, ap, subst, ◌∙◌}
use lib.ListN.{length, take, drop}
use Rattle.rules.specs.Bytes.{Num, is_clear}
use Rattle.rules.specs.Act.{Shape, line, arc, circle, solid_circle, ellipse, solid_ellipse, polygon, solid_polygon, spline, thickness, gray_fill, colour_fill, Plain, pause, trailer, height, slant, underline, glyph, index, to, by, page, font, size, colour, break, space, draw, device, resolution, init, file, mount, plain, raw, stop, Cmd, just, word, pair}
use Rattle.rules.specs.Letters.{Draft, fault, draft}
use Rattle.rules.specs.Scan.{letter, cmd_limits, is_small, name_in, outside, cleared, judged_by, judged, command, Scan, got, bad}
use Rattle.laws.specs.Barred.{NoBarred, SomeBarred}
use Rattle.laws.proofs.Cases.{on}
use Rattle.laws.proofs.Clear.{clear_none, none_clear, unclear_some, some_unclear, cleared-got}
use Rattle.laws_scan.proofs.Bounds.{Lies, letter_in, bad_place}
use Rattle.laws_scan.proofs.Faults.{FaultIn, letter-fault}
use Rattle.laws_arguments.specs.Arguments.{Argument, a_dummy, one_too_many, any_number, component, gray_level, switch, up_to64, shape_arguments, plain_arguments, AllWithin, arguments_of, Laid}
use Rattle.laws_arguments.specs.Names.{argument_name, argument_names, named_bytes, LaidDown, BarredIn, RefusesBarred}
use Rattle.laws_arguments.proofs.Limits.{agree, none_found, all_in}
use Rattle.laws_arguments.proofs.Places.{LaidAt, nothing_laid, one_more_laid}
use Rattle.laws_arguments.proofs.Letters.{LaidOut, Unlaid, DraftLaid, letter_laid}

-- ---- the names of a command, by its arguments: those of the rules

-- arguments without a name
nameless : (f : ℕ → Argument) → ((n : ℕ) → argument_name (f n) ≡ []) → (ns : List ℕ) (xs : List Argument) → argument_names (map f ns ++ xs) ≡ argument_names xs
nameless f h [] xs = refl
nameless f h (n ∷ ns) xs = rw (h n) (nameless f h ns xs)

dummies_nameless : (ds : List Num) → argument_names (map a_dummy ds) ≡ []
dummies_nameless [] = refl
dummies_nameless (d ∷ ds) = dummies_nameless ds

-- as many as may stand, and those over the count
up_to_nameless : (ns : List ℕ) (xs : List Argument) → argument_names (up_to64 ns ++ xs) ≡ argument_names xs
up_to_nameless ns xs =
    rw (append_assoc (map any_number (take 64 ns)) (map one_too_many (drop 64 ns)) xs)
    (nameless any_number (λ n. refl) (take 64 ns) (map one_too_many (drop 64 ns) ++ xs) ∙ nameless one_too_many (λ n. refl) (drop 64 ns) xs)

shape_nameless : (s : Shape) (ns : List ℕ) (xs : List Argument) → argument_names (shape_arguments s ns ++ xs) ≡ argument_names xs
shape_nameless line ns xs = nameless any_number (λ n. refl) ns xs
shape_nameless arc ns xs = nameless any_number (λ n. refl) ns xs
shape_nameless circle ns xs = nameless any_number (λ n. refl) ns xs
shape_nameless solid_circle ns xs = nameless any_number (λ n. refl) ns xs
shape_nameless ellipse ns xs = nameless any_number (λ n. refl) ns xs
shape_nameless solid_ellipse ns xs = nameless any_number (λ n. refl) ns xs
shape_nameless polygon ns xs = up_to_nameless ns xs
shape_nameless solid_polygon ns xs = up_to_nameless ns xs
shape_nameless spline ns xs = up_to_nameless ns xs
shape_nameless thickness ns xs = nameless any_number (λ n. refl) ns xs
shape_nameless gray_fill ns xs = nameless gray_level (λ n. refl) ns xs
shape_nameless (colour_fill c) ns xs = nameless component (λ n. refl) ns xs

plain_nameless : (c : Plain) (ns : List ℕ) (xs : List Argument) → argument_names (plain_arguments c ns ++ xs) ≡ argument_names xs
plain_nameless pause ns xs = nameless any_number (λ n. refl) ns xs
plain_nameless trailer ns xs = nameless any_number (λ n. refl) ns xs
plain_nameless height ns xs = nameless any_number (λ n. refl) ns xs
plain_nameless slant ns xs = nameless any_number (λ n. refl) ns xs
plain_nameless underline ns xs = nameless switch (λ n. refl) ns xs

named-alone : (n : List ℕ) (ds : List Num) → n ++ argument_names (map a_dummy ds) ≡ n
named-alone n ds = rw (dummies_nameless ds, append-nil n)

pub names_are : (c : Cmd) (ds : List Num) → named_bytes c ds ≡ name_in c
names_are (just (glyph n)) ds = named-alone n ds
names_are (just (index n)) ds = dummies_nameless ds
names_are (just (to x n)) ds = dummies_nameless ds
names_are (just (by x n)) ds = dummies_nameless ds
names_are (just (page n)) ds = dummies_nameless ds
names_are (just (font n)) ds = dummies_nameless ds
names_are (just (size n)) ds = dummies_nameless ds
names_are (just (colour c ns)) ds = nameless component (λ n. refl) ns (map a_dummy ds) ∙ dummies_nameless ds
names_are (just break) ds = dummies_nameless ds
names_are (just space) ds = dummies_nameless ds
names_are (just (draw s ns)) ds = shape_nameless s ns (map a_dummy ds) ∙ dummies_nameless ds
names_are (just (device n)) ds = named-alone n ds
names_are (just (resolution n h v)) ds = dummies_nameless ds
names_are (just init) ds = dummies_nameless ds
names_are (just (file n)) ds = named-alone n ds
names_are (just (mount n m)) ds = named-alone m ds
names_are (just (plain c ns)) ds = plain_nameless c ns (map a_dummy ds) ∙ dummies_nameless ds
names_are (just (raw t)) ds = dummies_nameless ds
names_are (just stop) ds = dummies_nameless ds
names_are (word n bs) ds = named-alone bs ds
names_are (pair n b) ds = ap (◌∷◌ b) (dummies_nameless ds)

-- ---- a command

abbrev limits_of : Cmd → List Num → List ℕ → Option ℕ
limits_of c ds ks = outside (cmd_limits c ++ map is_small ds) ks

-- in its limits it is cleared
in_limits : (c : Cmd) (ds : List Num) (ks : List ℕ) (a l : ℕ) (t : List ℕ) → AllWithin (arguments_of c ds) → judged (draft c ds ks a l t) ≡ cleared c a l
in_limits c ds ks a l t h = ap (judged_by c a l) (none_found (cmd_limits c ++ map is_small ds) (arguments_of c ds) ks (agree c ds) h)

within_of : (c : Cmd) (ds : List Num) (ks : List ℕ) → limits_of c ds ks ≡ none → AllWithin (arguments_of c ds)
within_of c ds ks e = all_in (cmd_limits c ++ map is_small ds) (arguments_of c ds) ks (agree c ds) e

abbrev pub number_in : Scan → ℕ
number_in (got c a l) = 0
number_in (bad n k) = n

barred_in : (b : ℕ) (r : List ℕ) (k : ℕ) (x : Draft) → letter b r ≡ x → FaultIn x → judged x ≡ bad 16 k → BarredIn b r
barred_in b r k (fault n) e f j = absurd (omega (arith, f, ap number_in j))
barred_in b r k (draft c ds ks a l t) e f j = go (limits_of c ds ks) refl j
  where
    go : (o : Option ℕ) → limits_of c ds ks ≡ o → judged_by c a l o ≡ bad 16 k → BarredIn b r
    go (some i) g q = absurd (omega (arith, ap number_in q))
    go none g q =
        record {
          cmd = c;
          dummies = ds;
          places = ks;
          name = a;
          len = l;
          rest = t;
          complete = e;
          within = within_of c ds ks g;
          barred = rw (names_are c ds) (on (is_clear (name_in c)) (λ h. let z : got c a l ≡ bad 16 k = rw h at q in absurd (omega (arith, ap number_in z))) (λ h. unclear_some (name_in c) h));
        }

-- the stage by the bytes of the name
pub cleared_none : (c : Cmd) (a l : ℕ) → NoBarred (name_in c) → cleared c a l ≡ got c a l
cleared_none c a l h = rw (none_clear (name_in c) h)

pub cleared_some : (c : Cmd) (a l : ℕ) → SomeBarred (name_in c) → cleared c a l ≡ bad 16 0
cleared_some c a l h = rw (some_unclear (name_in c) h)

given_16 : (b : ℕ) (r : List ℕ) → BarredIn b r → command b r ≡ bad 16 0
given_16 b r o =
    ap judged o.complete ∙ in_limits o.cmd o.dummies o.places o.name o.len o.rest o.within
    ∙ cleared_some o.cmd o.name o.len (subst SomeBarred (names_are o.cmd o.dummies) o.barred)

accepted_clear : (b : ℕ) (r : List ℕ) (c : Cmd) (ds : List Num) (ks : List ℕ) (a l : ℕ) (t : List ℕ) → letter b r ≡ draft c ds ks a l t → AllWithin (arguments_of c ds) → NoBarred (named_bytes c ds) → command b r ≡ got c a l
accepted_clear b r c ds ks a l t e h g = ap judged e ∙ in_limits c ds ks a l t h ∙ cleared_none c a l (subst NoBarred (names_are c ds) g)

got_clear : (c : Cmd) (ds : List Num) (ks : List ℕ) (a l : ℕ) (t : List ℕ) → judged (draft c ds ks a l t) ≡ got c a l → AllWithin (arguments_of c ds) × NoBarred (named_bytes c ds)
got_clear c ds ks a l t j = go (limits_of c ds ks) refl j
  where
    go : (o : Option ℕ) → limits_of c ds ks ≡ o → judged_by c a l o ≡ got c a l → AllWithin (arguments_of c ds) × NoBarred (named_bytes c ds)
    go (some i) g q = absurd (omega (arith, ap number_in q))
    go none g q = (within_of c ds ks g, rw (names_are c ds) (clear_none (name_in c) (cleared-got c a l c a l q).0))

stands_there : (b : ℕ) (r : List ℕ) (c : Cmd) (ds : List Num) (ks : List ℕ) (a l : ℕ) (t : List ℕ) → letter b r ≡ draft c ds ks a l t → take (length (named_bytes c ds)) (drop a (b ∷ r)) ≡ named_bytes c ds
stands_there b r c ds ks a l t e = let h : Lies (b ∷ r) c ks a l t = rw e at (letter_in b r) in rw (names_are c ds) h.stands

whole_laid : (k : ℕ) (r : List ℕ) (xs : List Argument) (js : List ℕ) (l : ℕ) (t : List ℕ) → LaidAt k r xs js l t → Laid k r xs l t
whole_laid k r [] [] l t h = subst (λ (i : ℕ). Laid k r [] i t) h.0 (subst (λ (u : List ℕ). Laid k r [] k u) h.1 (nothing_laid k r))
whole_laid k r [] (j ∷ js) l t h = absurd h
whole_laid k r (x ∷ xs) [] l t h = absurd h
whole_laid k r (x ∷ xs) (j ∷ js) l t h = one_more_laid k r x xs j h.0 h.1 l t h.2 (whole_laid h.0 h.1 xs js l t h.3)

laid_down : (b : ℕ) (r : List ℕ) (c : Cmd) (ds : List Num) (ks : List ℕ) (a l : ℕ) (t : List ℕ) → letter b r ≡ draft c ds ks a l t → (arguments_of c ds ≡ []) ⊎ ((b ≡ 99) ⊎ LaidDown b r (arguments_of c ds))
laid_down b r c ds ks a l t e = go (subst (DraftLaid b r) e (letter_laid b r))
  where
    go : Unlaid b (arguments_of c ds) ⊎ LaidOut b r (arguments_of c ds) ks → (arguments_of c ds ≡ []) ⊎ ((b ≡ 99) ⊎ LaidDown b r (arguments_of c ds))
    go (inl (inl h)) = inl h
    go (inl (inr h)) = inr (inl h.0)
    go (inr y) =
        inr (inr (record {
          letters = y.letters;
          arguments = y.arguments;
          bytes = y.bytes;
          are_letters = y.are_letters;
          end = y.end;
          behind = y.rest;
          laid = subst (λ (xs : List Argument). Laid (length y.letters) y.arguments xs y.end y.rest) (sym y.by_letter) (whole_laid (length y.letters) y.arguments y.written y.places y.end y.rest y.laid);
        }))

pub refuses_barred : RefusesBarred
refuses_barred = record {
  points = λ b r k j. (bad_place b r 16 k j (λ e. absurd (omega (arith, e))), barred_in b r k (letter b r) refl (letter-fault b r) j);
  given = given_16;
  accepted = accepted_clear;
  only = λ b r c ds ks a l t e j. got_clear c ds ks a l t (sym (ap judged e) ∙ j);
  stands = stands_there;
  laid = laid_down;
}
