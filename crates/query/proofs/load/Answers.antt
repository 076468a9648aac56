use Rattle.query.proofs.Turning.{turning}
use Rattle.query.proofs.load.Goals as goal

pub returns : goal.returns
returns c = search turning
