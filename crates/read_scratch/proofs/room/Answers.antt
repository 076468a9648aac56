-- 8768 noughts are a scratch row.
use Prim.Native.Nat.{ℕ, zero, suc}
use native.Mathlib.Omega.{arith}
use mathlib.Core.Path.{◌≡◌, refl, ◌∙◌}
use lib.ListN.{get_or, replicate, length-replicate}
use Rattle.read_turn.specs.Ready.{Scratch}
use Rattle.read_scratch.proofs.room.Goals as goal

nought : (n i : ℕ) → ◌≡◌ {A = ℕ} (get_or (replicate n 0) i 0) 0
nought zero i = refl
nought (suc n) zero = refl
nought (suc n) (suc i) = nought n i

-- n is a variable, so that no list of this length is computed
noughts : (n : ℕ) → n ≡ 8768 → Scratch (replicate {A = ℕ} n 0)
noughts n e = record { size = length-replicate n 0 ∙ e; small = record { each = λ i. omega (arith, nought n i) } }

pub returns : goal.returns
returns c = noughts 8768 refl
