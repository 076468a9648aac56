-- The rules' tests of limits say which arguments are in their limits, and `outside` finds the first that is not.
use Prim.Native.Nat.{ℕ, zero, suc, ◌+◌, ◌-◌, ◌≤◌}
use native.Mathlib.Omega.{arith}
use mathlib.Core.Bool.{Bool, true, false, ◌&&◌}
use mathlib.Core.List.{List, [], ◌∷◌, ◌++◌, map}
use mathlib.Core.Option.{none}
use mathlib.Core.Path.{◌≡◌, refl}
use lib.Dec.{leb}
use lib.ListN.{length, take, drop}
use borrow.Author.Tests.{leb-true, leb-false, lt-ltb}
use Rattle.std.proofs.Math.Option.{some-ne-none}
use Rattle.rules.specs.Bytes.{Num, most, origin, within, near}
use Rattle.rules.specs.Act.{Shape, line, arc, circle, solid_circle, ellipse, solid_ellipse, polygon, solid_polygon, spline, thickness, gray_fill, colour_fill, Plain, pause, trailer, height, slant, underline, Act, glyph, index, to, by, page, font, size, colour, break, space, draw, device, resolution, init, file, mount, plain, raw, stop, Cmd, just, word, pair}
use Rattle.rules.specs.Scan.{is_positive, up_to, shape_limits, plain_limits, limits, cmd_limits, is_small, outside}
use Rattle.laws_arguments.specs.Arguments.{Argument, a_number, a_dummy, one_too_many, a_name, a_text, ArgumentWithin, AllWithin, any_number, positive, shape_arguments, plain_arguments, act_arguments, cmd_arguments, arguments_of}

-- ---- one argument, and a list of them

abbrev Says : Bool → Argument → Type 0
Says true x = ArgumentWithin x
Says false x = ArgumentWithin x → ⊥

abbrev pub Agree : List Bool → List Argument → Type 0
Agree [] [] = Unit {0}
Agree [] (x ∷ xs) = ⊥
Agree (p ∷ ps) [] = ⊥
Agree (p ∷ ps) (x ∷ xs) = Says p x × Agree ps xs

agree_append : (ps qs : List Bool) (xs ys : List Argument) → Agree ps xs → Agree qs ys → Agree (ps ++ qs) (xs ++ ys)
agree_append [] qs [] ys h g = g
agree_append [] qs (x ∷ xs) ys h g = absurd h
agree_append (p ∷ ps) qs [] ys h g = absurd h
agree_append (p ∷ ps) qs (x ∷ xs) ys h g = (h.0, agree_append ps qs xs ys h.1 g)

agree_map : (p : ℕ → Bool) (f : ℕ → Argument) → ((n : ℕ) → Says (p n) (f n)) → (ns : List ℕ) → Agree (map p ns) (map f ns)
agree_map p f h [] = tt
agree_map p f h (n ∷ ns) = (h n, agree_map p f h ns)

says_within : (lo hi n : ℕ) → Says (within lo hi n) (a_number lo hi n)
says_within lo hi n = go (leb lo n) (leb n hi) refl refl
  where
    go : (p q : Bool) → leb lo n ≡ p → leb n hi ≡ q → Says (p && q) (a_number lo hi n)
    go true true e f = (leb-true lo n e, leb-true n hi f)
    go true false e f = λ h. absurd (omega (arith, leb-false n hi f, h.1))
    go false q e f = λ h. absurd (omega (arith, leb-false lo n e, h.0))

-- a length, or a magnitude
says_most : (x : Argument) (n hi : ℕ) → (n ≤ hi → ArgumentWithin x) → (ArgumentWithin x → n ≤ hi) → Says (leb n hi) x
says_most x n hi f g = go (leb n hi) refl
  where
    go : (p : Bool) → leb n hi ≡ p → Says p x
    go true e = f (leb-true n hi e)
    go false e = λ h. absurd (omega (arith, leb-false n hi e, g h))

says_near : (n : ℕ) → Says (near n) (any_number n)
says_near n = says_within (origin - most) (origin + most) n

says_positive : (n : ℕ) → Says (is_positive n) (positive n)
says_positive n = says_within (origin + 1) (origin + most) n

says_name : (n : List ℕ) → Says (leb (length n) 64) (a_name n)
says_name n = says_most (a_name n) (length n) 64 (λ h. h) (λ h. h)

-- ---- the arguments of a command

agree_too_many : (ns : List ℕ) → Agree (up_to 0 ns) (map one_too_many ns)
agree_too_many [] = tt
agree_too_many (n ∷ ns) = (λ h. h, agree_too_many ns)

-- (j is what is left of the count, and `suc k - 1` does not compute)
agree_up_to : (j k : ℕ) → j ≡ k → (ns : List ℕ) → Agree (up_to j ns) (map any_number (take k ns) ++ map one_too_many (drop k ns))
agree_up_to j zero e ns = rw e (agree_too_many ns)
agree_up_to j (suc k) e [] = tt
agree_up_to j (suc k) e (n ∷ ns) = (rw (lt-ltb 0 j (omega (arith, e))) (says_near n), agree_up_to (j - 1) k (omega (arith, e)) ns)

agree_near : (ns : List ℕ) → Agree (map near ns) (map any_number ns)
agree_near ns = agree_map near any_number says_near ns

agree_within : (lo hi : ℕ) (ns : List ℕ) → Agree (map (within lo hi) ns) (map (a_number lo hi) ns)
agree_within lo hi ns = agree_map (within lo hi) (a_number lo hi) (says_within lo hi) ns

agree_shape : (s : Shape) (ns : List ℕ) → Agree (shape_limits s ns) (shape_arguments s ns)
agree_shape line ns = agree_near ns
agree_shape arc ns = agree_near ns
agree_shape circle ns = agree_near ns
agree_shape solid_circle ns = agree_near ns
agree_shape ellipse ns = agree_near ns
agree_shape solid_ellipse ns = agree_near ns
agree_shape polygon ns = agree_up_to 64 64 refl ns
agree_shape solid_polygon ns = agree_up_to 64 64 refl ns
agree_shape spline ns = agree_up_to 64 64 refl ns
agree_shape thickness ns = agree_near ns
agree_shape gray_fill ns = agree_within (origin - 32767) (origin + 32767) ns
agree_shape (colour_fill c) ns = agree_within origin (origin + 65536) ns

agree_plain : (c : Plain) (ns : List ℕ) → Agree (plain_limits c ns) (plain_arguments c ns)
agree_plain pause ns = agree_near ns
agree_plain trailer ns = agree_near ns
agree_plain height ns = agree_near ns
agree_plain slant ns = agree_near ns
agree_plain underline ns = agree_within origin (origin + 1) ns

agree_act : (a : Act) → Agree (limits a) (act_arguments a)
agree_act (glyph n) = (says_name n, tt)
agree_act (index n) = (says_near n, tt)
agree_act (to x n) = (says_near n, tt)
agree_act (by x n) = (says_near n, tt)
agree_act (page n) = (says_near n, tt)
agree_act (font n) = (says_within origin (origin + 255) n, tt)
agree_act (size n) = (says_positive n, tt)
agree_act (colour c ns) = agree_within origin (origin + 65536) ns
agree_act break = tt
agree_act space = tt
agree_act (draw s ns) = agree_shape s ns
agree_act (device n) = (says_name n, tt)
agree_act (resolution n h v) = (says_positive n, (says_positive h, (says_positive v, tt)))
agree_act init = tt
agree_act (file n) = (says_name n, tt)
agree_act (mount n m) = (says_within origin (origin + 255) n, (says_name m, tt))
agree_act (plain c ns) = agree_plain c ns
agree_act (raw t) = (says_most (a_text t) (length t) 4096 (λ h. h) (λ h. h), tt)
agree_act stop = tt

agree_cmd : (c : Cmd) → Agree (cmd_limits c) (cmd_arguments c)
agree_cmd (just a) = agree_act a
agree_cmd (word n bs) = (says_near n, (tt, tt))
agree_cmd (pair n b) = tt

agree_dummies : (ds : List Num) → Agree (map is_small ds) (map a_dummy ds)
agree_dummies [] = tt
agree_dummies (d ∷ ds) = (says_most (a_dummy d) d.mag most (λ h. h) (λ h. h), agree_dummies ds)

pub agree : (c : Cmd) (ds : List Num) → Agree (cmd_limits c ++ map is_small ds) (arguments_of c ds)
agree c ds = agree_append (cmd_limits c) (map is_small ds) (cmd_arguments c) (map a_dummy ds) (agree_cmd c) (agree_dummies ds)

-- ---- the first that is outside its limit

pub none_found : (ps : List Bool) (xs : List Argument) (ks : List ℕ) → Agree ps xs → AllWithin xs → outside ps ks ≡ none
none_found [] xs ks h g = refl
none_found (true ∷ ps) [] ks h g = absurd h
none_found (true ∷ ps) (x ∷ xs) [] h g = none_found ps xs [] h.1 g.1
none_found (true ∷ ps) (x ∷ xs) (k ∷ ks) h g = none_found ps xs ks h.1 g.1
none_found (false ∷ ps) [] ks h g = absurd h
none_found (false ∷ ps) (x ∷ xs) ks h g = absurd (h.0 g.0)

pub all_in : (ps : List Bool) (xs : List Argument) (ks : List ℕ) → Agree ps xs → outside ps ks ≡ none → AllWithin xs
all_in [] [] ks h e = tt
all_in [] (x ∷ xs) ks h e = absurd h
all_in (true ∷ ps) [] ks h e = absurd h
all_in (true ∷ ps) (x ∷ xs) [] h e = (h.0, all_in ps xs [] h.1 e)
all_in (true ∷ ps) (x ∷ xs) (k ∷ ks) h e = (h.0, all_in ps xs ks h.1 e)
all_in (false ∷ ps) [] ks h e = absurd h
all_in (false ∷ ps) (x ∷ xs) [] h e = absurd (some-ne-none _ e)
all_in (false ∷ ps) (x ∷ xs) (k ∷ ks) h e = absurd (some-ne-none _ e)
