use Rattle.std.proofs.Common.{sym, ◌∙◌, ap, subst, map, List}
use Rattle.std.proofs.lemmas.Result.{err_from_is_err_and}
use Rattle.fm_link_names.specs.inner.ClassNumbering.{NumbersClasses}
use Rattle.fm_link_names.specs.inner.Numbering.{lent, texts_in}
use Rattle.fm_link_supers.proofs.ParentRefusals.{are_sound}
use Rattle.fm_link.proofs.ClassSteps.{named-made}
use Rattle.fm_link.proofs.Phases.{files_numbered}
use Rattle.fm_link_refusals.proofs.FirstRefusals.{first-append, first_after}
use Rattle.fm_link_refusals.specs.Refused.{refusal_of}
use Rattle.fm_link_refusals.specs.inner.GivenClasses.{given_in}
use Rattle.fm_link_refusals.specs.inner.Linking.{names_array}
use Rattle.fm_world.specs.Linking.{refused_missing_classes, refused_parents}
use Rattle.fm_world.specs.Programs.{classes_of}
use Rattle.fm_world.specs.declared.declarations.DeclaredClass.{DeclaredClass}
use Rattle.fm_link_records.proofs.RefusalLaws.{both_none}
use Rattle.fm_link.proofs.linked.linked_classes.Goals as goal

pub refuse_missing_classes-requires-clause-numbered : goal.refuse_missing_classes-requires-clause-numbered
refuse_missing_classes-requires-clause-numbered c = files_numbered (texts_in c.args.ready.texts.now) c.args.ready.files.now c.requires.files_are

pub refuse_missing_classes-requires-clause-classes : goal.refuse_missing_classes-requires-clause-classes
refuse_missing_classes-requires-clause-classes c =
    let P : List DeclaredClass → Type 0 = λ cs. NumbersClasses cs c.in_ok-numbers.numbers.numbers in subst P c.requires.classes_are
    c.in_ok-numbers.ensures

pub returns-in_err-refuse_missing_classes-clause-refuses : goal.returns-in_err-refuse_missing_classes-clause-refuses
returns-in_err-refuse_missing_classes-clause-refuses c =
    let given = given_in c.args.ready.files.now in
    let p = err_from_is_err_and c.from_residual-in_err-refuse_missing_classes.result c.from_residual-in_err-refuse_missing_classes.ensures.1 in
    rw (p.1, p.2)
    (first-append (refused_missing_classes given) (refused_parents given) (refusal_of c.in_err-refuse_missing_classes.field-0.0)
    c.in_err-refuse_missing_classes.ensures)

pub returns-in_err-refuse_parents-clause-refuses : goal.returns-in_err-refuse_parents-clause-refuses
returns-in_err-refuse_parents-clause-refuses c =
    let given = given_in c.args.ready.files.now in
    let texts = texts_in c.args.ready.texts.now in
    let named = named-made given texts (lent c.as_slice-texts.result.now) c.args.ready.files.now c.args.ready.classes.now c.in_ok-numbers.numbers
    c.as_slice-by_text.result.now c.in_ok-named.named.items c.in_ok-ancestors.ancestors c.requires.classes_are c.requires.files_are
    c.in_ok-numbers.ensures (ap lent c.as_slice-texts.ensures.keys) c.as_slice-by_text.ensures.value c.in_ok-named.ensures c.in_ok-ancestors.ensures in
    let p = err_from_is_err_and c.from_residual-in_err-refuse_parents.result c.from_residual-in_err-refuse_parents.ensures.1 in
    rw (p.1, p.2)
    (first_after (refused_missing_classes given) (refused_parents given) (refusal_of c.in_err-refuse_parents.field-0.0)
    c.in_ok-refuse_missing_classes.ensures
    (c.in_err-refuse_parents.ensures texts (files_numbered texts c.args.ready.files.now c.requires.files_are) named.ancestors named.numbers_are
    named.by_text_is))

pub returns-clause-refuses : goal.returns-clause-refuses
returns-clause-refuses c =
    let given = given_in c.args.ready.files.now in
    let texts = texts_in c.args.ready.texts.now in
    let named = named-made given texts (lent c.as_slice-texts.result.now) c.args.ready.files.now c.args.ready.classes.now c.in_ok-numbers.numbers
    c.as_slice-by_text.result.now c.in_ok-named.named.items c.in_ok-ancestors.ancestors c.requires.classes_are c.requires.files_are
    c.in_ok-numbers.ensures (ap lent c.as_slice-texts.ensures.keys) c.as_slice-by_text.ensures.value c.in_ok-named.ensures c.in_ok-ancestors.ensures in
    both_none (refused_missing_classes given) (refused_parents given) c.in_ok-refuse_missing_classes.ensures
    (c.in_ok-refuse_parents.ensures texts (files_numbered texts c.args.ready.files.now c.requires.files_are) named.ancestors named.numbers_are
    named.by_text_is)

pub returns-clause-linked : goal.returns-clause-linked
returns-clause-linked c =
    let given = given_in c.args.ready.files.now in
    let texts = texts_in c.args.ready.texts.now in
    let classes = classes_of given in
    let read = ap lent c.as_slice-texts.ensures.keys in
    let named = named-made given texts (lent c.as_slice-texts.result.now) c.args.ready.files.now c.args.ready.classes.now c.in_ok-numbers.numbers
    c.as_slice-by_text.result.now c.in_ok-named.named.items c.in_ok-ancestors.ancestors c.requires.classes_are c.requires.files_are
    c.in_ok-numbers.ensures read c.as_slice-by_text.ensures.value c.in_ok-named.ensures c.in_ok-ancestors.ensures in
    let sound = are_sound given c.requires.spelled c.requires.apart
    (c.in_ok-refuse_parents.ensures texts (files_numbered texts c.args.ready.files.now c.requires.files_are) named.ancestors named.numbers_are
    named.by_text_is) in
    let hierarchy = c.in_ok-hierarchy.ensures classes named.ancestors sound in
    record {
      sound = sound;
      numbers = named.numbers_are;
      by_text = sym c.as_slice-by_text.ensures.value ∙ named.by_text_is;
      arrays = c.in_ok-arrays.ensures ∙ ap (map names_array) read;
      hierarchy = hierarchy;
      fields = c.in_ok-fields.ensures texts classes c.requires.texts_are.once hierarchy c.requires.fields_are;
      methods = c.in_ok-methods.ensures texts classes c.requires.texts_are.once hierarchy c.requires.methods_are c.requires.constructor_is;
    }
