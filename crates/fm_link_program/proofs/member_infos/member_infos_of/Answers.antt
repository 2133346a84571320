use Rattle.std.proofs.Common.{sym, ◌∙◌, ap, subst, length}
use Rattle.fm_link_names.specs.inner.Numbering.{lent, texts_in}
use Rattle.fm_link_supers.specs.inner.Hierarchy.{IsHierarchy}
use Rattle.fm_link_records.specs.inner.DeclaredKinds.{AreKinds}
use Rattle.fm_link_records.specs.inner.Rows.{lent_kinds}
use Rattle.fm_link_refusals.specs.inner.GivenClasses.{given_in}
use Rattle.fm_link_program.proofs.MemberInfoSteps.{fields_of_classes, kinds_at, kinds-kept, methods_of_classes, same_lent, told-made, uses-given}
use Rattle.fm_link_program.specs.inner.MemberLists.{descriptors_in}
use Rattle.fm_world.specs.Members.{statics_of}
use Rattle.fm_world.specs.Programs.{classes_of}
use Rattle.fm_link_program.proofs.member_infos.member_infos_of.Goals as goal

pub field_infos_of-requires : goal.field_infos_of-requires
field_infos_of-requires c =
    let h = c.args.linking.hierarchy.now in
    subst (λ cs. IsHierarchy cs h) (sym c.requires.linked.hierarchy.classes_are) c.requires.linked.hierarchy

pub returns : goal.returns
returns c = λ o classes uses_are.
    let given = given_in c.args.files.now in
    let all = classes_of given in
    let texts = texts_in c.args.linking.texts.now in
    let same = c.requires.linked.hierarchy.classes_are in
    let field_rows = c.args.linking.fields.now.members.rows.items in
    let method_rows = c.args.linking.methods.now.members.rows.items in
    let of_fields = c.as_slice-of_all_fields.ensures.value ∙ c.in_ok-described.ensures ∙ ap descriptors_in c.as_slice-field_rows.ensures.value in
    let of_methods = c.as_slice-of_all_methods.ensures.value ∙ c.in_ok-typed.ensures ∙ ap descriptors_in c.as_slice-method_rows.ensures.value in
    let behind = ap lent c.as_slice-texts.ensures.keys in
    let kinds = c.as_slice-kinds.result.now in
    let kept = c.as_slice-kinds.ensures.value in
    told-made texts given c.args.files.now o field_rows method_rows kinds (lent_kinds c.as_slice-field_kinds.result.now)
    (lent_kinds c.as_slice-method_kinds.result.now) c.given_uses-resolved.result.now (record {
      methods = c.in_ok-methods.methods;
      fields = c.in_ok-fields.fields;
    }) classes c.requires.spelled c.requires.files c.requires.linked.fields.rows.rows
    c.requires.linked.methods.rows.rows
    (kinds-kept all (lent c.as_slice-texts.result.now) texts (length c.as_slice-texts.result.now) c.as_slice-marks.result.now
    c.as_slice-of_all_fields.result.now c.as_slice-of_all_methods.result.now field_rows method_rows kinds
    (subst (λ ks. AreKinds all (lent c.as_slice-texts.result.now) c.as_slice-marks.result.now ks) (sym kept) (c.in_ok-kept.ensures.kinds all c.requires.named)) behind (same_lent c.as_slice-texts.result.now) of_fields of_methods
    (c.as_slice-marks.ensures.value ∙ c.in_ok-marked.ensures))
    (ap length kept ∙ c.in_ok-kept.ensures.count ∙ same_lent c.as_slice-texts.result.now ∙ ap length behind)
    (ap lent_kinds c.as_slice-field_kinds.ensures.value ∙ c.in_ok-of_fields.ensures ∙ ap (kinds_at kinds) of_fields)
    (ap lent_kinds c.as_slice-method_kinds.ensures.value ∙ c.in_ok-of_methods.ensures ∙ ap (kinds_at kinds) of_methods)
    (c.given_uses-resolved.ensures ∙ uses-given o given c.args.uses.now uses_are)
    (c.in_ok-methods.ensures ∙ methods_of_classes (lent_kinds c.as_slice-method_kinds.result.now) c.args.linking.hierarchy.now.classes.now given same)
    (c.in_ok-fields.ensures.infos ∙ fields_of_classes (lent_kinds c.as_slice-field_kinds.result.now) c.args.linking.hierarchy.now.classes.now given
    c.given_uses-resolved.result.now c.args.files.now same)
    (c.in_ok-fields.ensures.statics ∙ ap statics_of same)
