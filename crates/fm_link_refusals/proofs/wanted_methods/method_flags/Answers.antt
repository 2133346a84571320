use Rattle.std.proofs.Common.{sym, ◌∙◌, ap, ℕ, Some, option_map}
use Rattle.fm_link_names.specs.inner.Numbering.{texts_in}
use Rattle.fm_world.specs.Causes.{method_flags}
use Rattle.fm_link_refusals.proofs.WantedMembers.{method_flags_are}
use Rattle.fm_link_refusals.proofs.wanted_methods.method_flags.Goals as goal

pub returns-in-Some : goal.returns-in-Some
returns-in-Some c = λ classes name linked member.
    let texts = texts_in c.args.linking.texts.now in
    ap (λ (f : ℕ). Some f) (c.flags.ensures ∙ method_flags_are texts classes c.args.linking.methods.now.members linked.methods.rows c.in-Some.method)
    ∙ ap (option_map (method_flags classes)) (sym c.in-Some.is ∙ c.resolved_method.ensures classes name linked member)
