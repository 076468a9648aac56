-- Where the arguments of a command stand, through all that puts a command together.
use Prim.Native.Nat.{ℕ, zero, suc, ◌+◌}
use native.Mathlib.Omega.{arith}
use mathlib.Core.List.{List, [], ◌∷◌, ◌++◌, map, append-nil, append_assoc, map-append}
use mathlib.Core.Path.{◌≡◌, refl, sym, ap, subst, ◌∙◌}
use lib.Dec.{eqb}
use lib.ListN.{length, take, drop}
use Rattle.rules.specs.Bytes.{spacer, unspaced, string, Num, origin, moved, Nums, short, nums, integers, many_integers, perhaps_integer}
use Rattle.rules.specs.Act.{Shape, line, arc, circle, solid_circle, ellipse, solid_ellipse, polygon, solid_polygon, spline, thickness, gray_fill, colour_fill, Plain, pause, trailer, height, slant, underline, Act, draw, Cmd, just}
use Rattle.rules.specs.Letters.{Draft, fault, draft, with_one, with_all, ignoring, named, number_named, followed_by_white, with_dummy}
use Rattle.rules.specs.Drawing.{Form, exactly, dummied, paired, in_pairs, dummy_behind, drawn}
use Rattle.rules.specs.Controls.{resolution_of}
use Rattle.laws.proofs.Cases.{if_on}
use Rattle.laws_scan.proofs.Fair.{NumsAre}
use Rattle.laws_arguments.specs.Arguments.{Argument, a_number, a_dummy, one_too_many, a_name, a_word, a_text, any_number, component, shape_arguments, plain_arguments, act_arguments, cmd_arguments, arguments_of, StringIs, ArgumentIs}
use Rattle.laws_arguments.proofs.Places.{Begins, LaidAt, laid_append, one_laid, NumsLaid, integers_laid, many_laid, perhaps_laid, pairs_laid, white_laid, string_begins}

-- ---- arguments that are numbers

-- of a text alone the bytes don't say where it ends
abbrev pub IsText : Argument → Type 0
IsText (a_number lo hi n) = ⊥
IsText (a_dummy m) = ⊥
IsText (one_too_many n) = ⊥
IsText (a_name n) = ⊥
IsText (a_word n) = ⊥
IsText (a_text t) = Unit {0}

abbrev pub NoText : List Argument → Type 0
NoText [] = Unit {0}
NoText (x ∷ xs) = (IsText x → ⊥) × NoText xs

no_text-append : (xs ys : List Argument) → NoText xs → NoText ys → NoText (xs ++ ys)
no_text-append [] ys h g = g
no_text-append (x ∷ xs) ys h g = (h.0, no_text-append xs ys h.1 g)

-- the argument is this number
abbrev Numbered : Argument → Num → Type 0
Numbered (a_number lo hi n) m = moved m ≡ n
Numbered (a_dummy d) m = d ≡ m
Numbered (one_too_many n) m = moved m ≡ n
Numbered (a_name n) m = ⊥
Numbered (a_word n) m = ⊥
Numbered (a_text t) m = ⊥

numbered : (x : Argument) (m : Num) (w t : List ℕ) → Numbered x m → ArgumentIs (a_dummy m) w t → ArgumentIs x w t
numbered (a_number lo hi n) m w t e h = (m, e, h)
numbered (a_dummy d) m w t e h = subst (λ (i : Num). ArgumentIs (a_dummy i) w t) (sym e) h
numbered (one_too_many n) m w t e h = (m, e, h)
numbered (a_name n) m w t e h = absurd e
numbered (a_word n) m w t e h = absurd e
numbered (a_text x) m w t e h = absurd e

number_no_text : (x : Argument) (m : Num) → Numbered x m → IsText x → ⊥
number_no_text (a_number lo hi n) m e h = h
number_no_text (a_dummy d) m e h = h
number_no_text (one_too_many n) m e h = h
number_no_text (a_name n) m e h = h
number_no_text (a_word n) m e h = h
number_no_text (a_text t) m e h = absurd e

-- these arguments are these numbers
abbrev pub Like : List Argument → List Num → Type 0
Like [] [] = Unit {0}
Like [] (n ∷ ns) = ⊥
Like (x ∷ xs) [] = ⊥
Like (x ∷ xs) (n ∷ ns) = Numbered x n × Like xs ns

like_laid : (k : ℕ) (r : List ℕ) (ns : List Num) (xs : List Argument) (ks : List ℕ) (l : ℕ) (t : List ℕ) → Like xs ns → LaidAt k r (map a_dummy ns) ks l t → LaidAt k r xs ks l t
like_laid k r [] [] ks l t h g = g
like_laid k r [] (x ∷ xs) ks l t h g = absurd h
like_laid k r (n ∷ ns) [] ks l t h g = absurd h
like_laid k r (n ∷ ns) (x ∷ xs) [] l t h g = absurd g
like_laid k r (n ∷ ns) (x ∷ xs) (j ∷ ks) l t h g =
    let b : Begins k r (a_dummy n) j g.0 g.1 = g.2 in
    let c : Begins k r x j g.0 g.1 = record {
      gap = b.gap;
      text = b.text;
      bytes = b.bytes;
      spaced = b.spaced;
      written = numbered x n b.text g.1 h.0 b.written;
      place = b.place;
      end = b.end;
    } in
    (g.0, g.1, c, like_laid g.0 g.1 ns xs ks l t h.1 g.3)

like_no_text : (xs : List Argument) (ns : List Num) → Like xs ns → NoText xs
like_no_text [] ns h = tt
like_no_text (x ∷ xs) [] h = absurd h
like_no_text (x ∷ xs) (n ∷ ns) h = (number_no_text x n h.0, like_no_text xs ns h.1)

like_dummies : (ns : List Num) → Like (map a_dummy ns) ns
like_dummies [] = tt
like_dummies (n ∷ ns) = (refl, like_dummies ns)

like_numbers : (lo hi : ℕ) (ns : List Num) → Like (map (a_number lo hi) (map moved ns)) ns
like_numbers lo hi [] = tt
like_numbers lo hi (n ∷ ns) = (refl, like_numbers lo hi ns)

like_too_many : (ns : List Num) → Like (map one_too_many (map moved ns)) ns
like_too_many [] = tt
like_too_many (n ∷ ns) = (refl, like_too_many ns)

like_up_to : (k : ℕ) (ns : List Num) → Like (map any_number (take k (map moved ns)) ++ map one_too_many (drop k (map moved ns))) ns
like_up_to zero ns = like_too_many ns
like_up_to (suc k) [] = tt
like_up_to (suc k) (n ∷ ns) = (refl, like_up_to k ns)

like_any : (ns : List Num) → Like (map any_number (map moved ns)) ns
like_any ns = like_numbers 1 199_999_999 ns

pub like_component : (ns : List Num) → Like (map component (map moved ns)) ns
like_component ns = like_numbers origin 100_065_536 ns

like_shape : (s : Shape) (ns : List Num) → Like (shape_arguments s (map moved ns)) ns
like_shape line ns = like_any ns
like_shape arc ns = like_any ns
like_shape circle ns = like_any ns
like_shape solid_circle ns = like_any ns
like_shape ellipse ns = like_any ns
like_shape solid_ellipse ns = like_any ns
like_shape polygon ns = like_up_to 64 ns
like_shape solid_polygon ns = like_up_to 64 ns
like_shape spline ns = like_up_to 64 ns
like_shape thickness ns = like_any ns
like_shape gray_fill ns = like_numbers 99_967_233 100_032_767 ns
like_shape (colour_fill c) ns = like_component ns

pub like_plain : (c : Plain) (ns : List Num) → Like (plain_arguments c (map moved ns)) ns
like_plain pause ns = like_any ns
like_plain trailer ns = like_any ns
like_plain height ns = like_any ns
like_plain slant ns = like_any ns
like_plain underline ns = like_numbers origin 100_000_001 ns

-- ---- behind the letters

-- The arguments of a command, from r at k up to t at l: the first of them are not written, with stand-ins for their places.
pub record Argued (k : ℕ) (r : List ℕ) (unwritten : List Argument) (stand_ins : List ℕ) (c : Cmd) (ds : List Num) (ks : List ℕ) (l : ℕ) (t : List ℕ) : Type 0 where
  pub xs : List Argument
  pub js : List ℕ
  pub order : arguments_of c ds ≡ unwritten ++ xs
  pub places : ks ≡ stand_ins ++ js
  pub texts : NoText xs
  pub laid : LaidAt k r xs js l t

abbrev pub From : ℕ → List ℕ → List Argument → List ℕ → Draft → Type 0
From k r us vs (fault n) = Unit {0}
From k r us vs (draft c ds ks a l t) = Argued k r us vs c ds ks l t

-- no number of it is ignored
none_ignored : (c : Cmd) (xs : List Argument) → cmd_arguments c ≡ xs → arguments_of c [] ≡ xs
none_ignored c xs e = append-nil (cmd_arguments c) ∙ e

module _ (k : ℕ) (r : List ℕ) where
  pub ignoring_from : (us : List Argument) (vs : List ℕ) (c : Cmd) (ds : List Num) (ks : List ℕ) (a l : ℕ) (t : List ℕ) (x : Nums)
      → Argued k r us vs c ds ks l t → NumsLaid l t x → From k r us vs (ignoring (draft c ds ks a l t) x)
  ignoring_from us vs c ds ks a l t short h g = tt
  ignoring_from us vs c ds ks a l t (nums ns js m v) h g =
      let ys : List Argument = map a_dummy ns in
      record {
        xs = h.xs ++ ys;
        js = h.js ++ js;
        order = ap (λ (zs : List Argument). cmd_arguments c ++ zs) (map-append a_dummy ds ns) ∙ sym (append_assoc (cmd_arguments c) (map a_dummy ds) ys) ∙ ap (λ (zs : List Argument). zs ++ ys) h.order
            ∙ append_assoc us h.xs ys;
        places = ap (λ (z : List ℕ). z ++ js) h.places ∙ append_assoc vs h.js js;
        texts = no_text-append h.xs ys h.texts (like_no_text ys ns (like_dummies ns));
        laid = laid_append k r h.xs ys h.js js l t m v h.laid g;
      }

  pub dummy_from : (us : List Argument) (vs : List ℕ) (x : Draft) → From k r us vs x → From k r us vs (with_dummy x)
  dummy_from us vs (fault n) h = h
  dummy_from us vs (draft c ds ks a l t) h = ignoring_from us vs c ds ks a l t (followed_by_white (perhaps_integer l t)) h (white_laid l t (perhaps_integer l t) (perhaps_laid l t))

  behind_from : (x : Draft) → From k r [] [] x → From k r [] [] (dummy_behind x)
  behind_from (fault n) h = h
  behind_from (draft c ds ks a l t) h = ignoring_from [] [] c ds ks a l t (perhaps_integer l t) h (perhaps_laid l t)

  -- the arguments of c are these numbers
  numbers_from : (c : Cmd) (ns : List Num) (ks : List ℕ) (l : ℕ) (t : List ℕ) → Like (cmd_arguments c) ns → LaidAt k r (map a_dummy ns) ks l t → Argued k r [] [] c [] ks l t
  numbers_from c ns ks l t e h =
      record {
        xs = cmd_arguments c;
        js = ks;
        order = none_ignored c (cmd_arguments c) refl;
        places = refl;
        texts = like_no_text (cmd_arguments c) ns e;
        laid = like_laid k r ns (cmd_arguments c) ks l t e h;
      }

  pub nothing_from : (c : Cmd) → cmd_arguments c ≡ [] → Argued k r [] [] c [] [] k r
  nothing_from c e = numbers_from c [] [] k r (rw e tt) (refl, refl)

  pub one_from : (f : ℕ → Act) (x : Nums) → ((n : Num) → Like (act_arguments (f (moved n))) (n ∷ [])) → NumsAre (λ ns. length ns ≡ 1) x → NumsLaid k r x → From k r [] [] (with_one f x)
  one_from f short e c h = tt
  one_from f (nums [] ks l t) e c h = tt
  one_from f (nums (n ∷ m ∷ ns) ks l t) e c h = absurd (omega (arith, c))
  one_from f (nums (n ∷ []) ks l t) e c h = numbers_from (just (f (moved n))) (n ∷ []) ks l t (e n) h

  pub all_from : (f : List ℕ → Act) (x : Nums) → ((ns : List Num) → Like (act_arguments (f (map moved ns))) ns) → NumsLaid k r x → From k r [] [] (with_all f x)
  all_from f short e h = tt
  all_from f (nums ns ks l t) e h = numbers_from (just (f (map moved ns))) ns ks l t (e ns) h

  pub resolution_from : (x : Nums) → NumsAre (λ ns. length ns ≡ 3) x → NumsLaid k r x → From k r [] [] (resolution_of x)
  resolution_from short c h = tt
  resolution_from (nums [] ks l t) c h = tt
  resolution_from (nums (n ∷ []) ks l t) c h = tt
  resolution_from (nums (n ∷ m ∷ []) ks l t) c h = tt
  resolution_from (nums (n ∷ m ∷ v ∷ o ∷ ns) ks l t) c h = absurd (omega (arith, c))
  resolution_from (nums (n ∷ m ∷ v ∷ []) ks l t) c h = numbers_from _ (n ∷ m ∷ v ∷ []) ks l t (refl, (refl, (refl, tt))) h

  -- a string, behind the arguments us, which are not written, and xs, which are; what is said of g holds of names and words
  pub named_from : (f : List ℕ → Cmd) (g : List ℕ → Argument) (us xs : List Argument) (vs js : List ℕ) (l : ℕ) (t : List ℕ)
      → ((n : List ℕ) → cmd_arguments (f n) ≡ us ++ (xs ++ (g n ∷ []))) → ((n w v : List ℕ) → StringIs n w v → ArgumentIs (g n) w v) → ((n : List ℕ) → IsText (g n) → ⊥)
      → NoText xs → LaidAt k r xs js l t → From k r us vs (named f (vs ++ js) l t)
  unfolding named
  named_from f g us xs vs js l t e s p q h =
      let u : List ℕ = unspaced t in
      let a : ℕ = l + spacer t in
      let n : List ℕ = take (string u) u in
      if_on (From k r us vs) (eqb (string u) 0) (fault 4) _ (λ z. tt) (λ z.
      record {
        xs = xs ++ (g n ∷ []);
        js = js ++ (a ∷ []);
        order = none_ignored (f n) (us ++ (xs ++ (g n ∷ []))) (e n);
        places = append_assoc vs js (a ∷ []);
        texts = no_text-append xs (g n ∷ []) q (p n, tt);
        laid = laid_append k r xs (g n ∷ []) js (a ∷ []) l t (a + string u) (drop (string u) u) h (one_laid l t (g n) a (a + string u) (drop (string u) u) (string_begins l t (g n) z (s n)));
      })

  pub number_named_lem : (f : ℕ → List ℕ → Cmd) (q : ℕ → Argument) (g : List ℕ → Argument) (x : Nums) → ((m : ℕ) (n : List ℕ) → cmd_arguments (f m n) ≡ q m ∷ (g n ∷ []))
      → ((m : Num) → Numbered (q (moved m)) m) → ((n w v : List ℕ) → StringIs n w v → ArgumentIs (g n) w v) → ((n : List ℕ) → IsText (g n) → ⊥)
      → NumsAre (λ ns. length ns ≡ 1) x → NumsLaid k r x → From k r [] [] (number_named f x)
  number_named_lem f q g short e o s p c h = tt
  number_named_lem f q g (nums [] ks l t) e o s p c h = tt
  number_named_lem f q g (nums (n ∷ m ∷ ns) ks l t) e o s p c h = absurd (omega (arith, c))
  number_named_lem f q g (nums (n ∷ []) ks l t) e o s p c h =
      let xs : List Argument = q (moved n) ∷ [] in
      let like : Like xs (n ∷ []) = (o n, tt) in
      named_from (f (moved n)) g [] xs [] ks l t (e (moved n)) s p (like_no_text xs (n ∷ []) like) (like_laid k r (n ∷ []) xs ks l t like h)

  pub drawn_from : (s : Shape) (f : Form) → From k r [] [] (drawn s k r f)
  drawn_from s (exactly n) = all_from (draw s) (integers n k r) (like_shape s) (integers_laid n k r)
  drawn_from s dummied = behind_from (with_all (draw s) (integers 1 k r)) (all_from (draw s) (integers 1 k r) (like_shape s) (integers_laid 1 k r))
  drawn_from s paired = all_from (draw s) (in_pairs (many_integers (length r) k r)) (like_shape s) (pairs_laid k r (many_integers (length r) k r) (many_laid (length r) k r))
