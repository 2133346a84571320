use Rattle.std.proofs.Common.{◌≡◌, sym, ◌∙◌, ap, true, false, Some, option_map, slice_get}
use Rattle.fm_link_names.specs.inner.Numbering.{texts_in}
use Rattle.fm_link_names.specs.inner.Wanting.{is_something, wanted_of}
use Rattle.fm_world.specs.Causes.{field_flags, field_text, MissingField, static_field_wanted, wanted_at}
use Rattle.fm_world.specs.Lookups.{resolved_field}
use Rattle.fm_link_refusals.proofs.MissingNames.{refusal_is}
use Rattle.fm_link_refusals.proofs.WantedMembers.{field_judged, member_at_index}
use Rattle.fm_link_refusals.specs.inner.GivenClasses.{class_in}
use Rattle.fm_link_refusals.specs.inner.Linking.{is_unlike}
use Rattle.fm_link_refusals.proofs.wanted_fields.refuse_field_at.Goals as goal

pub returns-then-is_unlike : goal.returns-then-is_unlike
returns-then-is_unlike c = λ classes linked wanted.
    let class = class_in c.args.file.now in
    let texts = texts_in c.args.linking.texts.now in
    let place = c.args.place in
    let flags = wanted_at static_field_wanted class place in
    let k = member_at_index texts c.args.file.now c.requires place c.in_ok-index_of.field-0 c.in-Some.member c.member.result c.in_ok-index_of.ensures
    c.member.ensures c.in-Some.is in
    let some : is_something (wanted_of flags) ≡ true = ap is_something (sym wanted) ∙ sym c.is_something.ensures ∙ c.if-not-is_something.false in
    let unlike : is_unlike (option_map (field_flags classes) (resolved_field classes k.0)) flags ≡ true =
    ap (λ o. is_unlike o flags) (sym (c.field_flags.ensures classes k.0 linked k.2)) ∙ sym (c.is_unlike.ensures flags wanted) ∙ c.if-is_unlike.true in
    ap (λ xs. slice_get xs 0) (field_judged classes class place k.0 true k.1 some unlike)
    ∙ ap (λ r. Some r) (refusal_is MissingField class (field_text k.0) c.in_ok-bad_field.field-0 (c.in_ok-bad_field.ensures k.0 k.2).0
    (c.in_ok-bad_field.ensures k.0 k.2).1)

pub returns : goal.returns
returns c = λ classes linked wanted.
    let class = class_in c.args.file.now in
    let texts = texts_in c.args.linking.texts.now in
    let place = c.args.place in
    let flags = wanted_at static_field_wanted class place in
    let k = member_at_index texts c.args.file.now c.requires place c.in_ok-index_of.field-0 c.in-Some.member c.member.result c.in_ok-index_of.ensures
    c.member.ensures c.in-Some.is in
    let some : is_something (wanted_of flags) ≡ true = ap is_something (sym wanted) ∙ sym c.is_something.ensures ∙ c.if-not-is_something.false in
    let unlike : is_unlike (option_map (field_flags classes) (resolved_field classes k.0)) flags ≡ false =
    ap (λ o. is_unlike o flags) (sym (c.field_flags.ensures classes k.0 linked k.2)) ∙ sym (c.is_unlike.ensures flags wanted)
    ∙ c.if-is_unlike.false in
    field_judged classes class place k.0 false k.1 some unlike
