use Rattle.fm_frames.proofs.Finishes.{took}
use Rattle.fm_frames.proofs.machine.Machine.take.Goals as goal

pub returns : goal.returns
returns g c p choose =
    took p choose _ c.args.self.now c.advance.new.self c.drop_words.new.self c.args.takes c.self.view_is c.requires.next_fits c.advance.ensures
    c.drop_words.ensures
