use Rattle.fm_frames.proofs.Finishes.{given_wide}
use Rattle.fm_frames.proofs.machine.Machine.give_wide.Goals as goal

pub returns : goal.returns
returns g c source told p choose =
    given_wide p choose _ c.args.self.now c.advance.new.self c.swap_in.new.self c.push.new.self c.args.takes c.args.value source
    c.self.view_is c.requires.next_fits c.advance.ensures c.in_ok-swap_in.ensures c.in_ok-push.ensures told
