use Rattle.std.proofs.Common.{◌∙◌, ap}
use Rattle.fm_code.specs.AccessFlags.{is_abstract}
use Rattle.fm_link_names.specs.inner.Numbering.{texts_in}
use Rattle.fm_link_refusals.proofs.WantedMembers.{method_flags_are}
use Rattle.fm_link_refusals.proofs.not_implemented.is_abstract.Goals as goal

pub returns : goal.returns
returns c = λ classes linked.
    c.has_flag.ensures
    ∙ ap is_abstract
    (c.flags.ensures ∙ method_flags_are (texts_in c.args.linking.texts.now) classes c.args.linking.methods.now.members linked.methods.rows
    c.args.method)
