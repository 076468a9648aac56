use Rattle.read_scratch.proofs.Gathering.{sound_holds}
use Rattle.read_scratch.proofs.load.Goals as goal

pub returns : goal.returns
returns c = (
  c.in_ok-sound.ensures.0,
  sound_holds c.args.list.now c.in_ok-sound.sound c.in_ok-sound.ensures.0 c.load.new.table c.gather.new.ws c.requires.0 c.in_ok-sound.ensures.1 c.gather.ensures,
)
