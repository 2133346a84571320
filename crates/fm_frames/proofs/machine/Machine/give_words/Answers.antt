use Rattle.fm_frames.proofs.Shuffling.{gave-words}
use Rattle.fm_frames.proofs.machine.Machine.give_words.Goals as goal

pub returns : goal.returns
returns g c sources told p choose =
    gave-words p choose _ c.args.self.now c.advance.new.self c.drop_words.new.self c.push_all.new.frames c.args.takes c.args.words.now sources
    c.self.view_is c.requires.next_fits c.advance.ensures c.drop_words.ensures c.in_ok-push_all.ensures told
