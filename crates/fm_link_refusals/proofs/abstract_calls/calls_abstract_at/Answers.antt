use Rattle.std.proofs.Common.{refl, sym, ◌∙◌, ap}
use Rattle.fm_link_names.specs.inner.Numbering.{texts_in}
use Rattle.fm_world.specs.Causes.{calls_abstract}
use Rattle.fm_link_refusals.proofs.WantedMembers.{member_at_index, no_member_at_index}
use Rattle.fm_link_refusals.specs.inner.Abstracts.{is_member_and}
use Rattle.fm_link_refusals.proofs.abstract_calls.calls_abstract_at.Goals as goal

pub returns-in-Some : goal.returns-in-Some
returns-in-Some c = λ classes linked within.
    let texts = texts_in c.args.linking.texts.now in
    let k = member_at_index texts c.args.file.now c.requires c.args.index c.args.index c.in-Some.member c.member.result refl c.member.ensures
    c.in-Some.is in
    c.calls_abstract.ensures classes k.0 linked within k.2 ∙ sym (ap (is_member_and (calls_abstract classes c.args.class)) k.1)

pub returns-in-None : goal.returns-in-None
returns-in-None c = λ classes linked within.
    let texts = texts_in c.args.linking.texts.now in
    let none = no_member_at_index texts c.args.file.now c.requires c.args.index c.args.index c.member.result refl c.member.ensures c.in-None.is in
    sym (ap (is_member_and (calls_abstract classes c.args.class)) none)
