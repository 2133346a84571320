use Rattle.std.proofs.Common.{arith}
use Rattle.fm_frames.proofs.ValueLists.{long-as, is-at}
use Rattle.fm_frames.proofs.value_list.Values.at.Goals as goal

pub index-requires : goal.index-requires
index-requires c = omega (arith, c.requires, long-as c.self.inside.kinds.items c.self.inside.bits.items c.args.self.now c.self.invariant c.self.view_is, c.self.inside.kinds.ok.0)

pub index-requires-2 : goal.index-requires-2
index-requires-2 c = omega (arith, c.requires, long-as c.self.inside.kinds.items c.self.inside.bits.items c.args.self.now c.self.invariant c.self.view_is, c.self.invariant, c.self.inside.bits.ok.0)

pub returns : goal.returns
returns c =
    is-at c.self.inside.kinds.items c.self.inside.bits.items c.args.self.now c.args.place c.index.result.now c.index-2.result.now c.value_of.result c.self.invariant
    c.self.view_is c.requires c.index.ensures c.index-2.ensures c.value_of.ensures
