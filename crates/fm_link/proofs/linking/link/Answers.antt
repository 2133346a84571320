use Rattle.std.proofs.Common.{◌≡◌, ◌∙◌, ap, subst, Ok, Err, List}
use Rattle.std.proofs.lemmas.Result.{err_from_is_err_and}
use Rattle.fm_code.specs.declared.class_file.ClassDef.{ClassDef}
use Rattle.fm_link.proofs.Phases.{at_later, at_names, of_given}
use Rattle.fm_link.proofs.ProgramMade.{program_made, tables_asked}
use Rattle.fm_link.specs.inner.Made.{AreTablesOf}
use Rattle.fm_link_refusals.specs.Refused.{refusal_of}
use Rattle.fm_link_refusals.specs.inner.GivenClasses.{given_in}
use Rattle.fm_world.specs.Programs.{classes_of}
use Rattle.fm_link.proofs.linking.link.Goals as goal

pub returns-in_err-texts-clause-refuses : goal.returns-in_err-texts-clause-refuses
returns-in_err-texts-clause-refuses c =
    let p = err_from_is_err_and c.from_residual.result c.from_residual.ensures.1 in
    rw (p.1, p.2) (at_names c.args.given.now c.args.main.now (refusal_of c.in_err-texts.field-0.0) c.in_err-texts.ensures.refuses)

pub returns-in_err-tables-clause-refuses : goal.returns-in_err-tables-clause-refuses
returns-in_err-tables-clause-refuses c =
    let given = c.args.given.now in
    let main = c.args.main.now in
    let are : given_in c.as_slice.result.now ≡ given = ap given_in c.as_slice.ensures.value ∙ c.in_ok-texts.ensures.numbered.given_are in
    let p = err_from_is_err_and c.from_residual-in_err-tables.result c.from_residual-in_err-tables.ensures.1 in
    rw (p.1, p.2)
    (at_later {X = Unit {0}} given main (Err c.in_err-tables.field-0.0) c.in_ok-texts.ensures.refuses
    (of_given {X = Unit {0}} given c.as_slice.result.now main (Err c.in_err-tables.field-0.0) are c.in_err-tables.ensures.refuses))

pub into_program-requires : goal.into_program-requires
into_program-requires c =
    let given = c.args.given.now in
    let main = c.args.main.now in
    let numbered = c.in_ok-texts.ensures.numbered in
    let are : given_in c.as_slice.result.now ≡ given = ap given_in c.as_slice.ensures.value ∙ numbered.given_are in
    let P : List ClassDef → Type 0 = λ cs. AreTablesOf cs main c.in_ok-tables.tables in
    tables_asked given main c.in_ok-texts.field-0.classes.items c.in_ok-tables.tables (numbered.ready.classes_are ∙ ap classes_of numbered.given_are)
    (subst P are c.in_ok-tables.ensures.tables)

pub returns-clause-refuses : goal.returns-clause-refuses
returns-clause-refuses c =
    let given = c.args.given.now in
    let main = c.args.main.now in
    let are : given_in c.as_slice.result.now ≡ given = ap given_in c.as_slice.ensures.value ∙ c.in_ok-texts.ensures.numbered.given_are in
    at_later given main (Ok c.in_ok-tables.tables) c.in_ok-texts.ensures.refuses
    (of_given given c.as_slice.result.now main (Ok c.in_ok-tables.tables) are c.in_ok-tables.ensures.refuses)

pub returns-clause-program : goal.returns-clause-program
returns-clause-program c =
    let given = c.args.given.now in
    let main = c.args.main.now in
    let numbered = c.in_ok-texts.ensures.numbered in
    let are : given_in c.as_slice.result.now ≡ given = ap given_in c.as_slice.ensures.value ∙ numbered.given_are in
    let P : List ClassDef → Type 0 = λ cs. AreTablesOf cs main c.in_ok-tables.tables in
    c.into_program.ensures
    ∙ program_made given main c.in_ok-texts.field-0.classes.items c.in_ok-tables.tables (numbered.ready.classes_are ∙ ap classes_of numbered.given_are)
    (subst P are c.in_ok-tables.ensures.tables)
