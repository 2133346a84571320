use Rattle.std.proofs.Common.{◌∙◌, sym, ◌∷◌, [], ◌++◌, ap, map, take}
use Rattle.std.proofs.lemmas.List.{map_more}
use Rattle.fm_link_names.specs.inner.DescriptorTypes.{few_kind}
use Rattle.fm_link_names.specs.inner.NamedTypes.{type_named}
use Rattle.fm_link_names.proofs.descriptors.kinds_of.Goals as goal

pub loop-named-preserved : goal.loop-named-preserved
loop-named-preserved c = λ classes are.
    c.in_ok-push.ensures.items
    ∙ ap (λ kinds. kinds ++ c.declared_kind.result ∷ []) (c.loop-named.invariant classes are)
    ∙ ap (λ k. map (λ t. few_kind classes (type_named t)) (take c.loop-named.named-index c.args.types.now) ++ k ∷ [])
    (c.declared_kind.ensures classes are)
    ∙ sym (map_more (λ t. few_kind classes (type_named t)) c.args.types.now c.loop-named.named-index _ c.loop-named-test.true)
