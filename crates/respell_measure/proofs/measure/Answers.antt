use Rattle.respell_measure.proofs.Measured.{measuring}
use Rattle.respell_measure.proofs.measure.Goals as goal

pub pass-requires : goal.pass-requires
pass-requires c = search measuring

pub returns : goal.returns
returns c = search measuring
