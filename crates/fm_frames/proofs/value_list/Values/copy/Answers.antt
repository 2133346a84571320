use Rattle.std.proofs.Common.{arith}
use Rattle.fm_frames.proofs.ValueLists.{long-as, is-copied}
use Rattle.fm_frames.proofs.value_list.Values.copy.Goals as goal

pub index-requires : goal.index-requires
index-requires c = omega (arith, c.requires.from_within, long-as c.self.inside.kinds.items c.self.inside.bits.items c.args.self.now c.self.invariant c.self.view_is, c.self.inside.kinds.ok.0)

pub index_mut-requires : goal.index_mut-requires
index_mut-requires c = omega (arith, c.requires.to_within, long-as c.self.inside.kinds.items c.self.inside.bits.items c.args.self.now c.self.invariant c.self.view_is, c.self.inside.kinds.ok.0)

pub index-requires-2 : goal.index-requires-2
index-requires-2 c = omega (arith, c.requires.from_within, long-as c.self.inside.kinds.items c.self.inside.bits.items c.args.self.now c.self.invariant c.self.view_is, c.self.invariant, c.self.inside.bits.ok.0)

pub index_mut-requires-2 : goal.index_mut-requires-2
index_mut-requires-2 c = omega (arith, c.requires.to_within, long-as c.self.inside.kinds.items c.self.inside.bits.items c.args.self.now c.self.invariant c.self.view_is, c.self.invariant, c.self.inside.bits.ok.0)

pub returns : goal.returns
returns c =
    is-copied c.self.inside.kinds.items c.self.inside.bits.items c.args.self.now c.args.from c.args.to c.index.result.now c.index-2.result.now c.self.invariant c.self.view_is
    c.requires.from_within c.index.ensures c.index-2.ensures
