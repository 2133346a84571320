use Rattle.std.proofs.Common.{sym, ◌∙◌, ap, ℕ, Some, option_map}
use Rattle.fm_link_names.specs.inner.Numbering.{texts_in}
use Rattle.fm_world.specs.Causes.{field_flags}
use Rattle.fm_link_refusals.proofs.WantedMembers.{field_flags_are}
use Rattle.fm_link_refusals.proofs.wanted_fields.field_flags.Goals as goal

pub returns-in-Some : goal.returns-in-Some
returns-in-Some c = λ classes name linked member.
    let texts = texts_in c.args.linking.texts.now in
    ap (λ (f : ℕ). Some f) (c.flags_at.ensures ∙ field_flags_are texts classes c.args.linking.fields.now.members linked.fields.rows c.in-Some.field)
    ∙ ap (option_map (field_flags classes)) (sym c.in-Some.is ∙ c.resolved_field.ensures classes name linked member)
