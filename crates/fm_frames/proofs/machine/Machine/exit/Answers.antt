use Rattle.std.specs.Int.{w32}
use Rattle.std.proofs.lemmas.Int.{to_z-of_z}
use Rattle.fm_frames.proofs.Acting.{exit-done}
use Rattle.fm_frames.proofs.machine.Machine.exit.Goals as goal

pub returns : goal.returns
returns g c p choose =
    exit-done p choose _ c.args.self.now c.args.takes c.args.n _ c.self.view_is (to_z-of_z w32 c.args.n c.ranges.n) c.requires.next_fits
