use Rattle.fm_frames.proofs.Finishes.{stored_wide}
use Rattle.fm_frames.proofs.machine.Machine.store_wide.Goals as goal

pub returns : goal.returns
returns g c source told p choose =
    stored_wide p choose _ c.args.self.now c.advance.new.self c.drop_words.new.self c.set_local.new.self c.set_local-2.new.self c.args.takes
    c.args.place c.args.value source c.self.view_is c.requires.next_fits c.advance.ensures c.drop_words.ensures c.set_local.ensures
    c.set_local-2.ensures told
