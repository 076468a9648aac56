-- A name behind a spacer, from the scanners' answers: it begins at p and ends at e.
use Prim.Native.Nat.{ℕ, ◌+◌, ◌-◌, ◌≤◌, ◌<◌}
use native.Mathlib.Omega.{arith}
use mathlib.Core.List.{List, [], ◌∷◌, ◌++◌}
use mathlib.Core.Path.{◌≡◌}
use borrow.Author.Tests.{eq-eqb, ne_eqb}
use lib.ListN.{length, take, drop}
use lib.Seq.{drop-drop}
use Rattle.rules.specs.Bytes.{is_space, is_not_white, spacer, string}
use Rattle.rules.specs.Act.{Cmd}
use Rattle.rules.specs.Letters.{fault, draft, named}
use Rattle.laws.proofs.Cases.{length-span}
use Rattle.scan_lex.specs.At.{run_end}
use Rattle.scan_lex.proofs.Runs.{unspaced_at}

module _ (s : List ℕ) (p e : ℕ) (h : e ≡ run_end is_not_white s p) where
  len_is : string (drop p s) ≡ e - p
  unfolding run_end
  len_is = omega (arith, h)

  pub take_is : length (take (e - p) (drop p s)) ≡ e - p
  take_is = rw (← len_is) (length-span is_not_white (drop p s))

  module _ (f : List ℕ → Cmd) (ks : List ℕ) (k i : ℕ) (g : p ≡ run_end is_space s i) where
    pub named_none : e ≤ p → named f ks k (drop i s) ≡ fault 4
    unfolding named
    named_none l = rw (unspaced_at s i, ← g, eq-eqb (string (drop p s)) 0 (omega (arith, len_is)))

    pub named_some : p < e
        → named f ks k (drop i s) ≡ draft (f (take (e - p) (drop p s))) [] (ks ++ (k + spacer (drop i s)) ∷ []) (k + spacer (drop i s)) (k + spacer (drop i s) + (e - p)) (drop e s)
    unfolding named
    named_some l =
        let z : p + (e - p) ≡ e = omega arith in
        rw (unspaced_at s i, ← g, ne_eqb (string (drop p s)) 0 (λ z. omega (arith, len_is)), len_is, drop-drop (e - p) p s, z)
