use Rattle.std.proofs.Common.{refl, ◌∙◌, ap, subst, List, map, length}
use Rattle.fm_link_names.specs.inner.Numbering.{texts_in}
use Rattle.fm_link_program.proofs.TableSteps.{first-held, hierarchy-held, tables-made}
use Rattle.fm_link_program.specs.inner.Assembled.{AreCounted}
use Rattle.fm_link_records.specs.inner.Classes.{bare_outline}
use Rattle.fm_link_refusals.specs.inner.GivenClasses.{given_in}
use Rattle.fm_link_program.specs.inner.Named.{outline_named}
use Rattle.fm_world.specs.Programs.{class_info, classes_of}
use Rattle.fm_world.specs.declared.declarations.DeclaredClass.{DeclaredClass}
use Rattle.fm_world.specs.inner.Tables.{numbers_below}
use Rattle.fm_link_program.proofs.program_tables.tables_of.Goals as goal

pub class_infos_of-requires-clause-hierarchy : goal.class_infos_of-requires-clause-hierarchy
class_infos_of-requires-clause-hierarchy c =
    hierarchy-held (classes_of (given_in c.args.files.now)) c.args.linking.hierarchy.now c.requires.linked.hierarchy

pub class_infos_of-requires-clause-first : goal.class_infos_of-requires-clause-first
class_infos_of-requires-clause-first c =
    first-held (texts_in c.args.linking.texts.now) (classes_of (given_in c.args.files.now)) c.args.linking.hierarchy.now c.args.linking.methods.now
    c.requires.linked.hierarchy c.requires.linked.methods

pub answers_of-requires-clause-hierarchy : goal.answers_of-requires-clause-hierarchy
answers_of-requires-clause-hierarchy c =
    hierarchy-held (classes_of (given_in c.args.files.now)) c.args.linking.hierarchy.now c.requires.linked.hierarchy

pub answers_of-requires-clause-first : goal.answers_of-requires-clause-first
answers_of-requires-clause-first c =
    first-held (texts_in c.args.linking.texts.now) (classes_of (given_in c.args.files.now)) c.args.linking.hierarchy.now c.args.linking.methods.now
    c.requires.linked.hierarchy c.requires.linked.methods

pub returns : goal.returns
returns c =
    let given = given_in c.args.files.now in
    let h = c.args.linking.hierarchy.now in
    let held = c.requires.linked.hierarchy.classes_are in
    tables-made (texts_in c.args.linking.texts.now) given c.args.main h c.args.linking.methods.now
    (record {
      classes = c.in_ok-classes.classes;
      named = c.in_ok-named.named;
      told = c.in_ok-told.told;
      answers = c.in_ok-answers.answers;
      main = c.args.main;
    })
    c.requires.sound c.requires.linked.hierarchy c.requires.linked.methods
    (let P : List DeclaredClass → Type 0 = λ cs. AreCounted cs c.in_ok-named.named c.in_ok-told.told in subst P held c.in_ok-few_places.ensures)
    (c.in_ok-classes.ensures ∙ ap (λ cs. map (class_info (bare_outline cs)) (numbers_below (length cs))) held)
    c.in_ok-named.ensures
    (c.in_ok-told.ensures (outline_named given c.in_ok-named.named) refl (c.as_slice-uses.ensures.value ∙ c.in_ok-named.ensures.uses))
    c.in_ok-answers.ensures refl
