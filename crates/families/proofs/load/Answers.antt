use Rattle.families.proofs.Turning.{turning}
use Rattle.families.proofs.load.Goals as goal

pub loop-st-init : goal.loop-st-init
loop-st-init c = search turning
