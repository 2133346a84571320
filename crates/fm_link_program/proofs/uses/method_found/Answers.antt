use Rattle.std.proofs.Common.{refl, sym, ◌∙◌, ap}
use Rattle.std.specs.Prelude.{option_and_then}
use Rattle.fm_link_names.specs.inner.Numbering.{texts_in}
use Rattle.fm_link_refusals.proofs.WantedMembers.{member_at_index, no_member_at_index}
use Rattle.fm_link_program.specs.inner.Resolved.{classes_by}
use Rattle.fm_world.specs.Lookups.{resolved_method}
use Rattle.fm_link_program.proofs.uses.method_found.Goals as goal

pub returns-in-Some : goal.returns-in-Some
returns-in-Some c =
    let texts = texts_in c.args.linking.texts.now in
    let classes = classes_by c.args.linking in
    let k = member_at_index texts c.args.file.now c.requires.numbered c.args.index c.args.index c.in-Some.member c.member.result refl c.member.ensures
    c.in-Some.is in
    c.resolved_method.ensures classes k.0 c.requires.linked k.2 ∙ sym (ap (option_and_then (resolved_method classes)) k.1)

pub returns-in-None : goal.returns-in-None
returns-in-None c =
    let texts = texts_in c.args.linking.texts.now in
    sym (ap (option_and_then (resolved_method (classes_by c.args.linking)))
    (no_member_at_index texts c.args.file.now c.requires.numbered c.args.index c.args.index c.member.result refl c.member.ensures c.in-None.is))
