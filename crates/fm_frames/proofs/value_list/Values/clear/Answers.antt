use Rattle.std.proofs.Common.{arith}
use Rattle.fm_frames.proofs.ValueLists.{long-as, is-cleared}
use Rattle.fm_frames.proofs.value_list.Values.clear.Goals as goal

pub index_mut-requires : goal.index_mut-requires
index_mut-requires c = omega (arith, c.requires, long-as c.self.inside.kinds.items c.self.inside.bits.items c.args.self.now c.self.invariant c.self.view_is, c.self.inside.kinds.ok.0)

pub returns : goal.returns
returns c = is-cleared c.self.inside.kinds.items c.self.inside.bits.items c.args.self.now c.args.place c.self.view_is
