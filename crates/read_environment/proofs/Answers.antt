-- The bounds of the environment, at any place of a stream.
use Prim.Native.Nat.{ℕ, ◌≤◌, ◌<◌}
use native.Mathlib.Omega.{arith}
use Rattle.read_model.specs.declared.Environment.{Environment}
use Rattle.read_model.specs.Fits.{EnvFits}
use Rattle.read_environment.specs.Bounds.{Fits}

pub fits_here : (at n : ℕ) (e : Environment) → EnvFits at e → at < n → n ≤ 16777216 → Fits e
fits_here at n e f l m = record { h_some = f.h_some; h_most = f.h_most; v_some = f.v_some; v_most = f.v_most; number = f.number; ordinal = omega (arith, f.ordinal); size = f.size; quantum_some = f.quantum_some; quantum_most = f.quantum_most; font = f.font }
