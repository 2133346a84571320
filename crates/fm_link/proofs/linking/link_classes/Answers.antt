use Rattle.std.specs.Borrow.{Bor}
use Rattle.std.proofs.Common.{sym, ◌∙◌, ap, map, subst, Ok, Option, List, ℕ}
use Rattle.std.proofs.lemmas.Result.{err_from_is_err_and}
use Rattle.fm_base.specs.declared.kinds.TypeRef.{TypeRef}
use Rattle.fm_link_names.specs.declared.texts.Texts.{Texts}
use Rattle.fm_link_names.specs.inner.Files.{AreFiles}
use Rattle.fm_link_names.specs.inner.DescriptorTypes.{type_of_name}
use Rattle.fm_link_names.specs.inner.Numbering.{lent, texts_in}
use Rattle.fm_link.proofs.Phases.{files_numbered}
use Rattle.fm_link.specs.inner.Judged.{class_refusals, member_refusals}
use Rattle.fm_link_refusals.proofs.FirstRefusals.{first-append, first_after, refuses_after}
use Rattle.fm_link_refusals.specs.Refused.{refusal_of}
use Rattle.fm_link_refusals.specs.inner.GivenClasses.{given_in, AreNumbered}
use Rattle.fm_world.specs.Programs.{classes_of}
use Rattle.fm_link_supers.proofs.ParentTables.{map_twice}
use Rattle.fm_link.proofs.linking.link_classes.Goals as goal

pub returns-in_err-linked-clause-refuses : goal.returns-in_err-linked-clause-refuses
returns-in_err-linked-clause-refuses c =
    let given = given_in c.args.ready.files.now in
    let p = err_from_is_err_and c.from_residual.result c.from_residual.ensures.1 in
    rw (p.1, p.2)
    (first-append (class_refusals given) (member_refusals given c.args.main.now) (refusal_of c.in_err-linked.field-0.0) c.in_err-linked.ensures.refuses)

pub judged_main-requires : goal.judged_main-requires
judged_main-requires c =
    let P : Texts → Type 0 = λ ts. AreNumbered (texts_in ts) c.args.ready.files.now in
    subst P (sym c.linking-linking.ensures.texts) (files_numbered (texts_in c.args.ready.texts.now) c.args.ready.files.now c.requires.files_are)

pub returns-in_err-found-clause-refuses : goal.returns-in_err-found-clause-refuses
returns-in_err-found-clause-refuses c =
    let given = given_in c.args.ready.files.now in
    let p = err_from_is_err_and c.from_residual-in_err-found.result c.from_residual-in_err-found.ensures.1 in
    rw (p.1, p.2)
    (first_after (class_refusals given) (member_refusals given c.args.main.now) (refusal_of c.in_err-found.field-0.0)
    c.in_ok-linked.ensures.refuses
    (c.in_err-found.ensures.refuses (c.linking-linking.ensures.linking (classes_of given) c.requires.texts_are c.in_ok-linked.ensures.linked)))

pub tables_of-requires-clause-linked : goal.tables_of-requires-clause-linked
tables_of-requires-clause-linked c =
    c.linking-linking.ensures.linking (classes_of (given_in c.args.ready.files.now)) c.requires.texts_are c.in_ok-linked.ensures.linked

pub tables_of-requires-clause-types : goal.tables_of-requires-clause-types
tables_of-requires-clause-types c =
    let classes = classes_of (given_in c.args.ready.files.now) in
    let name : List ℕ → Option TypeRef = type_of_name classes in
    c.as_slice-by_text.ensures.value ∙ c.in_ok-named.ensures classes c.in_ok-linked.ensures.linked.numbers
    ∙ sym (map_twice name (λ (b : Bor (List ℕ)). b.now) c.as_slice-texts.result.now)
    ∙ ap (λ ts. map name (lent ts)) c.as_slice-texts.ensures.keys
    ∙ ap (λ (ts : Texts). map name (texts_in ts)) (sym c.linking-linking.ensures.texts)

pub tables_of-requires-clause-files : goal.tables_of-requires-clause-files
tables_of-requires-clause-files c =
    let P : Texts → Type 0 = λ ts. AreFiles (texts_in ts) (given_in c.args.ready.files.now) c.args.ready.files.now in
    subst P (sym c.linking-linking.ensures.texts) c.requires.files_are

pub tables_of-requires-clause-numbered : goal.tables_of-requires-clause-numbered
tables_of-requires-clause-numbered c =
    let P : Texts → Type 0 = λ ts. AreNumbered (texts_in ts) c.args.ready.files.now in
    subst P (sym c.linking-linking.ensures.texts) (files_numbered (texts_in c.args.ready.texts.now) c.args.ready.files.now c.requires.files_are)

pub returns-clause-refuses : goal.returns-clause-refuses
returns-clause-refuses c =
    let given = given_in c.args.ready.files.now in
    refuses_after (class_refusals given) (member_refusals given c.args.main.now) (Ok c.in_ok-tables.tables) c.in_ok-linked.ensures.refuses
    (c.in_ok-found.ensures.refuses (c.linking-linking.ensures.linking (classes_of given) c.requires.texts_are c.in_ok-linked.ensures.linked))

pub returns-clause-tables : goal.returns-clause-tables
returns-clause-tables c =
    let is = c.linking-linking.ensures.linking (classes_of (given_in c.args.ready.files.now)) c.requires.texts_are c.in_ok-linked.ensures.linked in
    record {
      main = c.in_ok-found.found;
      tables = c.in_ok-tables.ensures;
      class = (c.in_ok-found.ensures.main is).class_is;
      method = (c.in_ok-found.ensures.main is).method_is;
    }
