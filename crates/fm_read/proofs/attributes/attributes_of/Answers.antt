use Rattle.std.proofs.Common.{[], List, get_or, map, refl, subst, take}
use Rattle.std.proofs.lemmas.Result.{err_from_is_err_and}
use Rattle.fm_code.specs.Fits.{MemberAttrFits, RawFits}
use Rattle.fm_code.specs.declared.class_file.Raw.{Raw}
use Rattle.fm_code.specs.declared.cursor.AttributeParts.{AttributeParts}
use Rattle.fm_read.specs.inner.MemberRules.{AreAttributesOf, AttributeIsValid}
use Rattle.fm_code.specs.inner.Reading.{attribute_view}
use Rattle.fm_read.specs.inner.Parts.{raw_of_attribute}
use Rattle.fm_code.proofs.FailureLemmas.{handed_out, returned}
use Rattle.fm_read.proofs.ReadInTurn.{AreRead-more, AreRead-none, AreRead-nowhere, all_parts, at_hand, turn}
use Rattle.fm_read.proofs.attributes.attributes_of.Goals as goal

abbrev no_part : AttributeParts
no_part = record { name = 0; bytes = record { ref_ptr = (0, 0); now = [] } }

pub attribute_of-requires : goal.attribute_of-requires
attribute_of-requires c =
    let parts = c.args.parts.now in
    let i = c.loop-part.part-index in
    at_hand RawFits attribute_view parts i (get_or parts i no_part) no_part c.loop-part-test.true refl c.requires

pub loop-part-init : goal.loop-part-init
loop-part-init c = rw c.in_ok-attributes.ensures.items (AreRead-none raw_of_attribute MemberAttrFits (AttributeIsValid c.args.kind c.args.known.now.entries))

pub loop-part-preserved : goal.loop-part-preserved
loop-part-preserved c =
    let parts = c.args.parts.now in
    let i = c.loop-part.part-index in
    let part = get_or parts i no_part in
    rw (turn attribute_view parts i part no_part c.loop-part-test.true refl, c.in_ok-push.ensures.items)
    (AreRead-more raw_of_attribute MemberAttrFits (AttributeIsValid c.args.kind c.args.known.now.entries) (map attribute_view (take i parts)) c.loop-part.attributes.items (attribute_view part) c.in_ok-attribute_of.field-0 c.loop-part.invariant c.in_ok-attribute_of.ensures.found)

pub returns-clause-found : goal.returns-clause-found
returns-clause-found c =
    subst (λ (raws : List Raw). AreAttributesOf c.args.kind c.args.known.now.entries raws c.loop-part.attributes.items)
    (all_parts attribute_view c.args.parts.now c.loop-part.part-index c.loop-part-test.false) c.loop-part.invariant

pub returns-in_err-attribute_of-clause-malformed : goal.returns-in_err-attribute_of-clause-malformed
returns-in_err-attribute_of-clause-malformed c = λ e.
    let exit = c.from_residual-in_err-attribute_of in
    let p = err_from_is_err_and exit.result exit.ensures.1 in
    let malformed = handed_out exit.result p.0 c.in_err-attribute_of.field-0.0 p.1 p.2 e in
    let parts = c.args.parts.now in
    let i = c.loop-part.part-index in
    let none = c.in_err-attribute_of.ensures.malformed (returned c.in_err-attribute_of.field-0.0 malformed) in
    AreRead-nowhere raw_of_attribute MemberAttrFits (AttributeIsValid c.args.kind c.args.known.now.entries) attribute_view parts i (get_or parts i no_part) no_part c.loop-part-test.true refl none
