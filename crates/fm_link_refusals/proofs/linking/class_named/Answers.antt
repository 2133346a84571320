use Rattle.std.proofs.Common.{◌∙◌, None}
use Rattle.fm_link_names.specs.inner.Numbering.{texts_in}
use Rattle.fm_world.specs.Descriptors.{class_number}
use Rattle.fm_link_refusals.proofs.ParentNames.{at_number}
use Rattle.fm_link_refusals.proofs.linking.class_named.Goals as goal

pub returns : goal.returns
returns c = λ classes name linked there.
    c.at.ensures ∙ at_number (class_number classes) (texts_in c.args.linking.texts.now) c.args.linking.by_text.now c.args.text name None
    linked.by_text there
