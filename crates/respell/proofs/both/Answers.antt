use Rattle.respell.proofs.Joined.{joined}
use Rattle.respell.proofs.both.Goals as goal

pub again-b-requires : goal.again-b-requires
again-b-requires c = search joined

pub pass-c-requires : goal.pass-c-requires
pass-c-requires c = search joined

pub returns : goal.returns
returns c = search joined
