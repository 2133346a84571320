use Rattle.std.proofs.Common.{◌≡◌, sym, ◌∙◌, ap, [], None, Some, option_copied, slice_get}
use Rattle.fm_link_names.specs.inner.DescriptorTypes.{missing_name}
use Rattle.fm_link_names.specs.inner.Numbering.{text_of, texts_in}
use Rattle.fm_world.specs.Causes.{missing_at, MissingClass}
use Rattle.fm_world.specs.Descriptors.{class_type}
use Rattle.fm_link_refusals.proofs.MissingNames.{missing-none, missing-some, missing_at-named, name_at_index, refusal_is, when}
use Rattle.fm_link_refusals.specs.Refused.{refusal_as}
use Rattle.fm_link_refusals.specs.inner.GivenClasses.{class_in}
use Rattle.fm_link_refusals.proofs.missing.refuse_missing_use.Goals as goal

pub returns-in_ok-bad_of-in-Some-missing_class : goal.returns-in_ok-bad_of-in-Some-missing_class
returns-in_ok-bad_of-in-Some-missing_class c = λ classes n.
    let class = class_in c.args.file.now in
    let texts = texts_in c.args.naming.texts.now in
    let text = text_of texts c.in-Some.text in
    let name = c.in-Some-missing_class.name.now in
    let bad = c.in_ok-bad_of-in-Some-missing_class.field-0 in
    let named = name_at_index texts c.args.file.now c.requires c.args.place c.in_ok-index_of.field-0 c.in-Some.text c.named_class.result
    c.in_ok-index_of.ensures c.named_class.ensures c.in-Some.is in
    let found : missing_name classes (class_type text) ≡ Some name =
    ap (λ t. missing_name classes (class_type t)) (sym c.text.ensures)
    ∙ ap (missing_name classes) (sym c.class_type.ensures)
    ∙ sym (c.missing_class.ensures classes n.numbers)
    ∙ ap option_copied c.in-Some-missing_class.is in
    when c.args.is_used (missing_at classes class c.args.place) (λ xs. slice_get xs 0 ≡ Some (refusal_as MissingClass bad)) c.if-not-is_used.false
    (ap (λ xs. slice_get xs 0) (missing_at-named classes class c.args.place text named ∙ missing-some classes class (class_type text) name found)
    ∙ ap (λ r. Some r)
    (refusal_is MissingClass class name bad c.in_ok-bad_of-in-Some-missing_class.ensures.0
    (c.in_ok-bad_of-in-Some-missing_class.ensures.1 ∙ c.name.ensures)))

pub returns-in-None : goal.returns-in-None
returns-in-None c = λ classes n.
    let class = class_in c.args.file.now in
    let texts = texts_in c.args.naming.texts.now in
    let text = text_of texts c.in-Some.text in
    let named = name_at_index texts c.args.file.now c.requires c.args.place c.in_ok-index_of.field-0 c.in-Some.text c.named_class.result
    c.in_ok-index_of.ensures c.named_class.ensures c.in-Some.is in
    let found : missing_name classes (class_type text) ≡ None =
    ap (λ t. missing_name classes (class_type t)) (sym c.text.ensures)
    ∙ ap (missing_name classes) (sym c.class_type.ensures)
    ∙ sym (c.missing_class.ensures classes n.numbers)
    ∙ ap option_copied c.in-None.is in
    when c.args.is_used (missing_at classes class c.args.place) (λ xs. xs ≡ []) c.if-not-is_used.false
    (missing_at-named classes class c.args.place text named ∙ missing-none classes class (class_type text) found)
