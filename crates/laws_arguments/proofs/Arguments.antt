-- Where a command is refused as 6, the place is that of its first argument outside its limit.
use Prim.Native.Nat.{ℕ, ◌+◌}
use native.Mathlib.Omega.{arith}
use mathlib.Core.Bool.{Bool, true, false}
use mathlib.Core.List.{List, [], ◌∷◌, ◌++◌, map}
use mathlib.Core.Logic.{◌⊎◌, inl, inr}
use mathlib.Core.Option.{Option, none, some}
use mathlib.Core.Path.{◌≡◌, refl, sym, ap, subst, ◌∙◌}
use lib.ListN.{length}
use Rattle.std.proofs.Math.Option.{none-ne-some}
use Rattle.rules.specs.Bytes.{Num}
use Rattle.rules.specs.Act.{Cmd}
use Rattle.rules.specs.Letters.{Draft, fault, draft}
use Rattle.rules.specs.Scan.{letter, cmd_limits, is_small, outside, judged_by, judged, command, Scan, got, bad}
use Rattle.laws.proofs.Clear.{cleared_both}
use Rattle.laws_scan.specs.Texts.{Spacer}
use Rattle.laws_scan.proofs.Bounds.{bad_place}
use Rattle.laws_scan.proofs.Faults.{FaultIn, letter-fault}
use Rattle.laws_arguments.specs.Arguments.{Argument, ArgumentWithin, AllWithin, arguments_of, ArgumentIs, Laid, OutsideAt, PointsAtArgument}
use Rattle.laws_arguments.proofs.Limits.{Agree, agree, none_found, all_in}
use Rattle.laws_arguments.proofs.Places.{Begins, LaidAt, nothing_laid, one_more_laid}
use Rattle.laws_arguments.proofs.Counts.{command_count}
use Rattle.laws_arguments.proofs.Letters.{LaidOut, Unlaid, unlaid_within, DraftLaid, letter_laid}
use Rattle.laws_arguments.proofs.Names.{number_in}
use Rattle.laws_arguments.proofs.OnePlace.{all_behind, all_written, one_place_at}

abbrev place_in : Scan → ℕ
place_in (got c a l) = 0
place_in (bad n k) = k

abbrev value_or : ℕ → Option ℕ → ℕ
value_or d none = d
value_or d (some k) = k

-- ---- the first of them

-- of the arguments xs, which stand in r at s, the first outside its limit begins at k
record First (s : ℕ) (r : List ℕ) (xs : List Argument) (k : ℕ) : Type 0 where
  before : List Argument
  argument : Argument
  after : List Argument
  order : xs ≡ before ++ argument ∷ after
  within : AllWithin before
  outside_it : ArgumentWithin argument → ⊥
  at : ℕ
  gap : List ℕ
  text : List ℕ
  behind : List ℕ
  laid : Laid s r before at (gap ++ (text ++ behind))
  spaced : Spacer gap
  written : ArgumentIs argument text behind
  place : k ≡ at + length gap

first : (ps : List Bool) (xs : List Argument) (ks : List ℕ) (s : ℕ) (r : List ℕ) (l : ℕ) (t : List ℕ) (k : ℕ) → Agree ps xs → LaidAt s r xs ks l t → outside ps ks ≡ some k → First s r xs k
first [] xs ks s r l t k h g e = absurd (none-ne-some _ e)
first (true ∷ ps) [] ks s r l t k h g e = absurd h
first (true ∷ ps) (x ∷ xs) [] s r l t k h g e = absurd g
first (true ∷ ps) (x ∷ xs) (j ∷ ks) s r l t k h g e =
    let f : First g.0 g.1 xs k = first ps xs ks g.0 g.1 l t k h.1 g.3 e in
    record {
      before = x ∷ f.before;
      argument = f.argument;
      after = f.after;
      order = ap (◌∷◌ x) f.order;
      within = (h.0, f.within);
      outside_it = f.outside_it;
      at = f.at;
      gap = f.gap;
      text = f.text;
      behind = f.behind;
      laid = one_more_laid s r x f.before j g.0 g.1 f.at (f.gap ++ (f.text ++ f.behind)) g.2 f.laid;
      spaced = f.spaced;
      written = f.written;
      place = f.place;
    }
first (false ∷ ps) [] ks s r l t k h g e = absurd h
first (false ∷ ps) (x ∷ xs) [] s r l t k h g e = absurd g
first (false ∷ ps) (x ∷ xs) (j ∷ ks) s r l t k h g e =
    let b : Begins s r x j g.0 g.1 = g.2 in
    record {
      before = [];
      argument = x;
      after = xs;
      order = refl;
      within = tt;
      outside_it = h.0;
      at = s;
      gap = b.gap;
      text = b.text;
      behind = g.1;
      laid = subst (λ (u : List ℕ). Laid s r [] s u) b.bytes (nothing_laid s r);
      spaced = b.spaced;
      written = b.written;
      place = sym (ap (value_or j) e) ∙ b.place;
    }

-- behind arguments that are in their limits
record Skipped (ps : List Bool) (ys : List Argument) (ks js : List ℕ) : Type 0 where
  tests : List Bool
  agrees : Agree tests ys
  same : outside ps ks ≡ outside tests js

skipped : (ps : List Bool) (us ys : List Argument) (vs js : List ℕ) → length us ≡ length vs → AllWithin us → Agree ps (us ++ ys) → Skipped ps ys (vs ++ js) js
skipped ps [] ys [] js e h g = record { tests = ps; agrees = g; same = refl }
skipped ps [] ys (i ∷ vs) js e h g = absurd (omega (arith, e))
skipped ps (u ∷ us) ys [] js e h g = absurd (omega (arith, e))
skipped [] (u ∷ us) ys (i ∷ vs) js e h g = absurd g
skipped (false ∷ ps) (u ∷ us) ys (i ∷ vs) js e h g = absurd (g.0 h.0)
skipped (true ∷ ps) (u ∷ us) ys (i ∷ vs) js e h g =
    let f : Skipped ps ys (vs ++ js) js = skipped ps us ys vs js (omega (arith, e)) h.1 g.1 in
    record { tests = f.tests; agrees = f.agrees; same = f.same }

-- ---- a command

points_at : (b : ℕ) (r : List ℕ) (k : ℕ) (x : Draft) → letter b r ≡ x → FaultIn x → DraftLaid b r x → judged x ≡ bad 6 k → OutsideAt b r k
points_at b r k (fault n) e i h j = absurd (omega (arith, i, ap number_in j))
points_at b r k (draft c ds ks a l t) e i h j = go (outside ps ks) refl j
  where
    ps : List Bool
    ps = cmd_limits c ++ map is_small ds

    pointed : (y : LaidOut b r (arguments_of c ds) ks) → First (length y.letters) y.arguments y.written k → OutsideAt b r k
    pointed y w =
        record {
          cmd = c;
          dummies = ds;
          places = ks;
          name = a;
          len = l;
          rest = t;
          complete = e;
          count = command_count b r c ds ks a l t e;
          before = w.before;
          argument = w.argument;
          after = w.after;
          order = y.by_letter ∙ w.order;
          within = w.within;
          outside = w.outside_it;
          letters = y.letters;
          arguments = y.arguments;
          bytes = y.bytes;
          are_letters = y.are_letters;
          at = w.at;
          gap = w.gap;
          text = w.text;
          behind = w.behind;
          laid = w.laid;
          spaced = w.spaced;
          written = w.written;
          place = w.place;
        }

    at_fault : outside ps ks ≡ some k → Unlaid b (arguments_of c ds) ⊎ LaidOut b r (arguments_of c ds) ks → OutsideAt b r k
    at_fault f (inl all) = absurd (none-ne-some k (sym (none_found ps (arguments_of c ds) ks (agree c ds) (unlaid_within b (arguments_of c ds) all)) ∙ f))
    at_fault f (inr y) =
        let z : Skipped ps y.written (y.stand_ins ++ y.places) y.places = skipped ps y.unwritten y.written y.stand_ins y.places y.even y.in_limit (subst (Agree ps) y.order (agree c ds)) in
        let found : outside z.tests y.places ≡ some k = sym z.same ∙ ap (outside ps) (sym y.in_order) ∙ f in
        pointed y (first z.tests y.written y.places (length y.letters) y.arguments y.end y.rest k z.agrees y.laid found)

    go : (o : Option ℕ) → outside ps ks ≡ o → judged_by c a l o ≡ bad 6 k → OutsideAt b r k
    go none f q = absurd (cleared_both (λ x. number_in x ≡ 6 → ⊥) c a l (λ z. omega (arith, z)) (λ z. omega (arith, z)) (ap number_in q))
    go (some i) f q = at_fault (f ∙ ap some (ap place_in q)) h

given_at : (b : ℕ) (r : List ℕ) (k : ℕ) → OutsideAt b r k → command b r ≡ bad 6 k
given_at b r k o = go (outside (cmd_limits c ++ map is_small ds) o.places) refl
  where
    c : Cmd
    c = o.cmd

    ds : List Num
    ds = o.dummies

    go : (x : Option ℕ) → outside (cmd_limits c ++ map is_small ds) o.places ≡ x → command b r ≡ bad 6 k
    go none f =
        let all : AllWithin (arguments_of c ds) = all_in (cmd_limits c ++ map is_small ds) (arguments_of c ds) o.places (agree c ds) f in
        absurd (o.outside (all_behind o.before o.argument o.after (subst AllWithin o.order (all_written b (arguments_of c ds) all))))
    go (some j) f =
        let e : command b r ≡ bad 6 j = ap judged o.complete ∙ ap (judged_by c o.name o.len) f in
        e ∙ ap (bad 6) (one_place_at b r j k (points_at b r j (letter b r) refl (letter-fault b r) (letter_laid b r) e) o)

pub points_at_argument : PointsAtArgument
points_at_argument = record {
  points = λ b r k j. points_at b r k (letter b r) refl (letter-fault b r) (letter_laid b r) j;
  given = given_at;
  others = bad_place;
  count = command_count;
}
