use Rattle.std.proofs.Common.{ap, ◌∙◌, arith}
use Rattle.fm_frames.proofs.ValueLists.{long-as, is-set}
use Rattle.fm_frames.proofs.value_list.Values.set.Goals as goal
use Rattle.fm_frames.specs.inner.Values.{value_in}

pub index_mut-requires : goal.index_mut-requires
index_mut-requires c = omega (arith, c.requires, long-as c.self.inside.kinds.items c.self.inside.bits.items c.args.self.now c.self.invariant c.self.view_is, c.self.inside.kinds.ok.0)

pub index_mut-requires-2 : goal.index_mut-requires-2
index_mut-requires-2 c = omega (arith, c.requires, long-as c.self.inside.kinds.items c.self.inside.bits.items c.args.self.now c.self.invariant c.self.view_is, c.self.invariant, c.self.inside.bits.ok.0)

pub returns : goal.returns
returns c =
    is-set c.self.inside.kinds.items c.self.inside.bits.items c.args.self.now c.args.place c.kind_of.result c.bits_of.result c.args.value c.self.view_is
    (ap (λ k. value_in k c.bits_of.result) c.kind_of.ensures ∙ c.bits_of.ensures)
