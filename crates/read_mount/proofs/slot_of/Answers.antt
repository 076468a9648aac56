use lib.ListN.{take, drop}
use Rattle.read_mount.proofs.Mounts.{found_most}
use Rattle.read_mount.proofs.slot_of.Goals as goal

pub returns : goal.returns
returns c = (c.slot.ensures, found_most c.args.list.now c.args.ws.now (take c.args.len (drop c.args.place c.args.s.now)) c.args.fonts c.slot.result c.slot.ensures c.requires.1)
