use Rattle.fm_link_names.specs.inner.Numbering.{texts_in}
use Rattle.fm_link_refusals.proofs.linking.resolved_field.Goals as goal

pub returns : goal.returns
returns c = λ classes name linked member.
    c.resolved.ensures (texts_in c.args.linking.texts.now) classes name linked.fields linked.hierarchy
    (c.class_named-class.ensures classes name.class linked member.class)
    member.name member.descriptor
