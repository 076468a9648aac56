use Rattle.judge.proofs.Judges.{judging}
use Rattle.judge.proofs.judged.Goals as goal

pub returns : goal.returns
returns c = search judging
