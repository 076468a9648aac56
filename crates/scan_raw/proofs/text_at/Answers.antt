use Rattle.scan_raw.proofs.Texts.{texts}
use Rattle.scan_raw.proofs.text_at.Goals as goal

pub loop-step-preserved : goal.loop-step-preserved
loop-step-preserved c = search texts

pub returns : goal.returns
returns c = search texts
