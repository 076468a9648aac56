use Prim.Native.Nat.{◌+◌, ◌*◌, ◌-◌, ◌<◌}
use native.Mathlib.Omega.{arith}
use mathlib.Core.Path.{◌≡◌, ap, ◌∙◌}
use lib.ListN.{length-take}
use lib.Seq.{get_or-take}
use Rattle.widths_table.specs.declared.Block.{Block}
use Rattle.widths_table.specs.Blocks.{no_block}
use Rattle.read_scratch.proofs.Gathering.{gathered_more}
use Rattle.read_scratch.proofs.gather.Goals as goal

pub loop-k-preserved : goal.loop-k-preserved
loop-k-preserved c =
    let k = c.loop-k.k in
    let l : k < c.args.fonts = omega (arith, length-take c.args.fonts c.args.table.now) in
    let m : 256 + k * 256 + 256 - (256 + k * 256) ≡ 256 = omega arith in
    let e = get_or-take c.args.fonts c.args.table.now k no_block l in
    gathered_more c.args.table.now k c.loop-k.ws c.put_widths.new.part _ _ _ c.loop-k.invariant (omega arith) m
    c.put_widths.ensures.long
    (c.put_widths.ensures.copied ∙ ap (λ (b : Block). b.widths) e) (ap (λ (b : Block). b.name.place) e) (ap (λ (b : Block). b.name.len) e)
