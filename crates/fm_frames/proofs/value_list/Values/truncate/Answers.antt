use Rattle.fm_frames.proofs.ValueLists.{is-cut}
use Rattle.fm_frames.proofs.value_list.Values.truncate.Goals as goal

pub returns : goal.returns
returns c =
    is-cut c.self.inside.kinds.items c.truncate.new.self.items c.self.inside.bits.items c.truncate-2.new.self.items c.args.self.now c.args.len c.self.view_is
    c.truncate.ensures.items c.truncate-2.ensures.items
