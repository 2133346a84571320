use Rattle.fm_frames.proofs.Jumping.{jumped}
use Rattle.fm_frames.proofs.machine.Machine.jump.Goals as goal

pub returns : goal.returns
returns g c p choose target there =
    jumped p choose _ c.args.self.now c.go_to.new.self c.drop_words.new.self c.args.takes c.args.item target c.self.view_is c.go_to.ensures
    c.drop_words.ensures there
