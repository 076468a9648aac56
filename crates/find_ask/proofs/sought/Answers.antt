use Rattle.find_ask.proofs.Asking.{sought_is}
use Rattle.find_ask.proofs.sought.Goals as goal

pub returns : goal.returns
returns c = sought_is c.args.q.now c.args.fl.now c.args.table.now c.args.families c.requires c.args.wanted c.name_at-name.result.now c.owner.result c.name_at-name.ensures c.owner.ensures.0
