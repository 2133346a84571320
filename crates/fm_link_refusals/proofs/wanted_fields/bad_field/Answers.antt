use Rattle.std.proofs.Common.{◌∙◌}
use Rattle.fm_link_names.specs.inner.Numbering.{texts_in}
use Rattle.fm_link_refusals.proofs.WantedMembers.{field_spelled}
use Rattle.fm_link_refusals.proofs.wanted_fields.bad_field.Goals as goal

pub returns : goal.returns
returns c = λ m is. (
  field_spelled (texts_in c.args.linking.texts.now) m c.args.member is c.text.result.now c.text-2.result.now c.in_ok-name.name.items
      c.push.new.self.items c.new.result
      c.text.ensures c.text-2.ensures c.in_ok-name.ensures.items c.in_ok-push.ensures.items (c.new.ensures ∙ c.in_ok-extend_from_slice.ensures.items),
  c.new-2.ensures ∙ c.in_ok-user.ensures.items ∙ c.name.ensures,
)
