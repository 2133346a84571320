use Rattle.fm_frames.proofs.Acting.{printed-done}
use Rattle.fm_frames.proofs.machine.Machine.print.Goals as goal

pub returns : goal.returns
returns g c p choose bytes = printed-done p choose c.args.self.now c.take.new.self c.args.takes bytes (c.take.ensures p choose)
