use Rattle.std.proofs.Common.{◌++◌}
use Rattle.std.proofs.lemmas.Result.{err_from_is_err_and}
use Rattle.fm_link.proofs.Phases.{at_main, at_methods, at_not_implemented}
use Rattle.fm_link_refusals.proofs.FirstRefusals.{first-append}
use Rattle.fm_link_refusals.specs.Refused.{refusal_of}
use Rattle.fm_link_refusals.specs.inner.GivenClasses.{given_in}
use Rattle.fm_world.specs.Linking.{refused_fields, refused_main, refused_methods, refused_not_implemented}
use Rattle.fm_link.proofs.linked.judged_main.Goals as goal

pub returns-in_err-refuse_fields-clause-refuses : goal.returns-in_err-refuse_fields-clause-refuses
returns-in_err-refuse_fields-clause-refuses c = λ linked.
    let given = given_in c.args.files.now in
    let main = c.args.main.now in
    let p = err_from_is_err_and c.from_residual.result c.from_residual.ensures.1 in
    rw (p.1, p.2)
    (first-append (refused_fields given) (refused_methods given ++ (refused_not_implemented given ++ refused_main given main))
    (refusal_of c.in_err-refuse_fields.field-0.0) (c.in_err-refuse_fields.ensures linked))

pub returns-in_err-refuse_methods-clause-refuses : goal.returns-in_err-refuse_methods-clause-refuses
returns-in_err-refuse_methods-clause-refuses c = λ linked.
    let p = err_from_is_err_and c.from_residual-in_err-refuse_methods.result c.from_residual-in_err-refuse_methods.ensures.1 in
    rw (p.1, p.2)
    (at_methods (given_in c.args.files.now) c.args.main.now (refusal_of c.in_err-refuse_methods.field-0.0) (c.in_ok-refuse_fields.ensures linked)
    (c.in_err-refuse_methods.ensures linked))

pub returns-in_err-refuse_not_implemented-clause-refuses : goal.returns-in_err-refuse_not_implemented-clause-refuses
returns-in_err-refuse_not_implemented-clause-refuses c = λ linked.
    let p = err_from_is_err_and c.from_residual-in_err-refuse_not_implemented.result c.from_residual-in_err-refuse_not_implemented.ensures.1 in
    rw (p.1, p.2)
    (at_not_implemented (given_in c.args.files.now) c.args.main.now (refusal_of c.in_err-refuse_not_implemented.field-0.0)
    (c.in_ok-refuse_fields.ensures linked) (c.in_ok-refuse_methods.ensures linked) (c.in_err-refuse_not_implemented.ensures linked))

pub returns-clause-refuses : goal.returns-clause-refuses
returns-clause-refuses c = λ linked.
    at_main (given_in c.args.files.now) c.args.main.now c.main_of.result (c.in_ok-refuse_fields.ensures linked)
    (c.in_ok-refuse_methods.ensures linked) (c.in_ok-refuse_not_implemented.ensures linked) (c.main_of.ensures.refuses linked)
