use Prim.Native.Nat.{ℕ}
use native.Mathlib.Omega.{arith}
use mathlib.Core.Path.{refl}
use lib.ListN.{length-take}
use Rattle.read_scratch.proofs.Gathering.{cleared}
use Rattle.read_scratch.proofs.clear.Goals as goal

pub slice_bounds-fill-end-2 : goal.slice_bounds-fill-end-2
slice_bounds-fill-end-2 c = omega (arith, length-take {A = ℕ}, c.requires.size)

pub returns : goal.returns
returns c =
    let l = length-take 256 c.args.ws.now in
    cleared c.args.ws.now c.fill.new.self c.requires (omega (arith, l, c.fill.ensures.len, c.requires.size)) (λ i h. c.fill.ensures.clones i 0 (omega (arith, l, c.requires.size)) refl)
