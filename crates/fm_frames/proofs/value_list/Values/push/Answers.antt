use Rattle.std.proofs.Common.{ap, ◌∙◌, ◌++◌, ◌∷◌, []}
use Rattle.fm_frames.proofs.ValueLists.{is-pushed}
use Rattle.fm_frames.proofs.value_list.Values.push.Goals as goal
use Rattle.fm_frames.specs.inner.Values.{value_in}

pub returns-clause-pushed : goal.returns-clause-pushed
returns-clause-pushed c =
    is-pushed c.self.inside.kinds.items c.push_reserved.new.self.items c.self.inside.bits.items c.push.new.self.items c.args.self.now c.kind_of.result
    c.bits_of.result c.args.value c.self.invariant c.self.view_is
    (c.push_reserved.ensures.items ∙ ap (λ ks. ks ++ c.kind_of.result ∷ []) c.reserve.ensures.items) c.in_ok-push.ensures.items
    (ap (λ k. value_in k c.bits_of.result) c.kind_of.ensures ∙ c.bits_of.ensures)
