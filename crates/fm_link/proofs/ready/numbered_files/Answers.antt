use Rattle.std.proofs.Common.{◌≡◌, sym, ◌∙◌, ap, subst, List, ℕ}
use Rattle.std.proofs.lemmas.Result.{err_from_is_err_and}
use Rattle.fm_link_names.specs.declared.given.GivenFile.{GivenFile}
use Rattle.fm_link_names.specs.inner.Files.{AreFiles}
use Rattle.fm_link_names.specs.inner.Numbering.{lent, texts_in}
use Rattle.fm_link.proofs.Phases.{given_is, ready_of}
use Rattle.fm_link_refusals.proofs.FirstRefusals.{first-append, first_after}
use Rattle.fm_link_refusals.specs.Refused.{refusal_of}
use Rattle.fm_world.specs.Linking.{refused_built_ins, refused_duplicates}
use Rattle.fm_link_records.proofs.RefusalLaws.{both_none}
use Rattle.fm_link.proofs.ready.numbered_files.Goals as goal

pub returns-in_err-refuse_duplicates-clause-refuses : goal.returns-in_err-refuse_duplicates-clause-refuses
returns-in_err-refuse_duplicates-clause-refuses c =
    let given = c.args.given.now in
    let p = err_from_is_err_and c.from_residual.result c.from_residual.ensures.1 in
    rw (p.1, p.2)
    (first-append (refused_duplicates given) (refused_built_ins given) (refusal_of c.in_err-refuse_duplicates.field-0.0)
    c.in_err-refuse_duplicates.ensures)

pub returns-in_err-refuse_built_ins-clause-refuses : goal.returns-in_err-refuse_built_ins-clause-refuses
returns-in_err-refuse_built_ins-clause-refuses c =
    let given = c.args.given.now in
    let p = err_from_is_err_and c.from_residual-in_err-refuse_built_ins.result c.from_residual-in_err-refuse_built_ins.ensures.1 in
    rw (p.1, p.2)
    (first_after (refused_duplicates given) (refused_built_ins given) (refusal_of c.in_err-refuse_built_ins.field-0.0)
    c.in_ok-refuse_duplicates.ensures c.in_err-refuse_built_ins.ensures)

pub returns-clause-refuses : goal.returns-clause-refuses
returns-clause-refuses c =
    both_none (refused_duplicates c.args.given.now) (refused_built_ins c.args.given.now) c.in_ok-refuse_duplicates.ensures
    c.in_ok-refuse_built_ins.ensures

pub returns-clause-numbered : goal.returns-clause-numbered
returns-clause-numbered c =
    let given = c.args.given.now in
    let files = c.in_ok-numbered.numbered.items in
    let slice = c.as_slice-files.result.now in
    let same : slice ≡ files = c.as_slice-files.ensures.value in
    let first = texts_in c.given_files.new.texts in
    let second = texts_in c.fields_of.new.texts in
    let are = c.in_ok-numbered.ensures.files in
    let P : List (List ℕ) → List GivenFile → Type 0 = λ ts fs. AreFiles ts given fs in
    record {
      given_are = given_is first given files are;
      ready = ready_of given first second (texts_in c.methods_of.new.texts) c.add.new.self files c.in_ok-classes.classes.items
          c.in_ok-constructor.constructor c.in_ok-fields.fields c.in_ok-methods.methods c.requires c.in_ok-refuse_built_ins.ensures are c.fields_of.ensures.extends
          c.methods_of.ensures.extends c.add.ensures.extends c.add.ensures.are
          (λ of. c.in_ok-fields.ensures.rows given (subst (P first) (sym same) of))
          (λ of. c.in_ok-methods.ensures.rows given (subst (P second) (sym same) of))
          c.in_ok-constructor.ensures.number
          (λ cs of. c.in_ok-classes.ensures cs
          (let Q : List (List ℕ) → Type 0 = λ ts. AreFiles ts cs slice in
          let R : List GivenFile → Type 0 = λ fs. AreFiles (texts_in c.add.new.self) cs fs in
          subst Q (sym (c.as_slice-by_number.ensures.value ∙ c.in_ok-shared.ensures ∙ ap lent c.as_slice-lent.ensures.keys))
          (subst R (sym same) of)));
    }
