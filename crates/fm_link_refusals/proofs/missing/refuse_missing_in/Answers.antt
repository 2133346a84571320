use Rattle.std.proofs.Common.{◌≡◌, sym, ◌∙◌, ap, None, Some, option_copied, slice_get}
use Rattle.std.specs.List.{flat_map}
use Rattle.fm_link_names.specs.inner.DescriptorTypes.{first_missing}
use Rattle.fm_link_names.specs.inner.Numbering.{text_of, texts_in}
use Rattle.fm_world.specs.Causes.{missing, MissingClass}
use Rattle.fm_world.specs.Descriptors.{types_in}
use Rattle.fm_link_refusals.proofs.MissingNames.{all_missing-none, all_missing-some, descriptor_at, is_none-none, passes_marked, refusal_is}
use Rattle.fm_link_refusals.specs.inner.GivenClasses.{class_in}
use Rattle.fm_link_refusals.specs.inner.Naming.{is_descriptor_met}
use Rattle.fm_link_refusals.proofs.missing.refuse_missing_in.Goals as goal

pub returns-then-is_marked : goal.returns-then-is_marked
returns-then-is_marked c = λ classes n.
    let class = class_in c.args.file.now in
    let texts = texts_in c.args.naming.texts.now in
    let text = text_of texts c.in-Some.text in
    let said = descriptor_at texts c.args.file.now c.requires c.args.descriptor c.in-Some.text c.text.result c.text.ensures c.in-Some.is in
    let found : first_missing classes (types_in text) ≡ None =
    is_none-none (first_missing classes (types_in text))
    (passes_marked (is_descriptor_met classes) c.args.naming.descriptors_met.now texts c.in-Some.text n.descriptors
    (sym c.is_marked.ensures ∙ c.if-is_marked.true)) in
    ap (λ t. flat_map (missing classes class) (types_in t)) said ∙ all_missing-none classes class (types_in text) found

pub returns-in_ok-bad_of-in-Some-missing_in : goal.returns-in_ok-bad_of-in-Some-missing_in
returns-in_ok-bad_of-in-Some-missing_in c = λ classes n.
    let class = class_in c.args.file.now in
    let texts = texts_in c.args.naming.texts.now in
    let text = text_of texts c.in-Some.text in
    let name = c.in-Some-missing_in.name.now in
    let bad = c.in_ok-bad_of-in-Some-missing_in.field-0 in
    let said = descriptor_at texts c.args.file.now c.requires c.args.descriptor c.in-Some.text c.text.result c.text.ensures c.in-Some.is in
    let found : first_missing classes (types_in text) ≡ Some name =
    ap (λ t. first_missing classes (types_in t)) (sym c.text-2.ensures) ∙ sym (c.missing_in.ensures classes n.numbers)
    ∙ ap option_copied c.in-Some-missing_in.is in
    ap (λ t. slice_get (flat_map (missing classes class) (types_in t)) 0) said
    ∙ all_missing-some classes class (types_in text) name found
    ∙ ap (λ r. Some r)
    (refusal_is MissingClass class name bad c.in_ok-bad_of-in-Some-missing_in.ensures.0
    (c.in_ok-bad_of-in-Some-missing_in.ensures.1 ∙ c.name.ensures))

pub returns-in-None : goal.returns-in-None
returns-in-None c = λ classes n.
    let class = class_in c.args.file.now in
    let texts = texts_in c.args.naming.texts.now in
    let text = text_of texts c.in-Some.text in
    let said = descriptor_at texts c.args.file.now c.requires c.args.descriptor c.in-Some.text c.text.result c.text.ensures c.in-Some.is in
    let found : first_missing classes (types_in text) ≡ None =
    ap (λ t. first_missing classes (types_in t)) (sym c.text-2.ensures) ∙ sym (c.missing_in.ensures classes n.numbers)
    ∙ ap option_copied c.in-None.is in
    ap (λ t. flat_map (missing classes class) (types_in t)) said ∙ all_missing-none classes class (types_in text) found
