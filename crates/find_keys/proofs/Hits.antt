-- There are no more hits than records.
use Prim.Native.Nat.{ℕ, suc, ◌+◌, ◌≤◌}
use native.Mathlib.Omega.{arith}
use mathlib.Core.List.{List, [], ◌∷◌, ◌++◌}
use lib.ListN.{length}
use Rattle.rules.specs.Find.{Sought, Key, occurs, hits_from}
use Rattle.laws.proofs.Cases.{if_both}

pub hits_few : (qs : List Sought) (i : ℕ) (ks : List Key) → length (hits_from qs i ks) ≤ length ks
unfolding hits_from
hits_few qs i [] = omega arith
hits_few qs i (k ∷ ks) =
    let more : length (hits_from qs (i + 1) ks) ≤ length ks = hits_few qs (i + 1) ks in
    if_both (λ (l : List ℕ). length (l ++ hits_from qs (i + 1) ks) ≤ suc (length ks)) (occurs qs (k ∷ ks)) (i ∷ []) [] (omega arith) (omega arith)
