use Rattle.std.proofs.Common.{refl, arith, subst, sym, ◌∙◌}
use Rattle.std.proofs.lemmas.Result.{err_from_is_err_and}
use Rattle.fmrun.proofs.JobLemmas.{accepted, all_of_names, both_within, classes_of, classes_within, ends_at_once, ends_run_as, ends_unread, ends_without_input, few_classes, few_of, input_of, none_within, spelled, unread_of}
use Rattle.std.specs.List.{AllByRecursion}
use Rattle.fm_load.proofs.GivenLemmas.{number_within}
use Rattle.fmrun.proofs.RequestLimits.{Fits, fit_array, text_within}
use Rattle.fm_cli_requests.specs.FmrunRequest.{job_of}
use Rattle.fmrun.proofs.top_call.do_job.Goals as goal

pub job_arguments-requires : goal.job_arguments-requires
job_arguments-requires g c =
    text_within c.args.request.arguments c.requires.text

pub given_classes-requires-clause-alone : goal.given_classes-requires-clause-alone
given_classes-requires-clause-alone g c = number_within (job_of c.args.request).files c.args.request.made c.requires.alone

pub returns-in_err-given-clause-within : goal.returns-in_err-given-clause-within
returns-in_err-given-clause-within g c =
    none_within (job_of c.args.request) (g.F.Files.disk c.args.files.now)

pub returns-in_err-given-clause-comes : goal.returns-in_err-given-clause-comes
returns-in_err-given-clause-comes g c =
    let handed = err_from_is_err_and c.from_residual.result c.from_residual.ensures.1 in
    rw (handed.1, handed.2) (ends_at_once (job_of c.args.request) (g.F.Files.disk c.args.files.now) (g.O.Sink.output c.args.out.now))

pub returns-in_err-classes-clause-within : goal.returns-in_err-classes-clause-within
returns-in_err-classes-clause-within g c =
    classes_within (job_of c.args.request) (g.F.Files.disk c.args.files.now) (g.F.Files.disk c.given_classes.new.files) (all_of_names c.args.request c.deref-names.ensures.value c.given_classes.ensures.within)

pub returns-in_err-classes-clause-comes : goal.returns-in_err-classes-clause-comes
returns-in_err-classes-clause-comes g c =
    let few = few_of c.deref-arguments.ensures.value c.in_ok-given.ensures.given (omega (arith, c.if-arguments.false)) in
    let handed = err_from_is_err_and c.from_residual-in_err-classes.result c.from_residual-in_err-classes.ensures.1 in
    rw (handed.1, handed.2)
    (ends_unread (job_of c.args.request) (g.F.Files.disk c.args.files.now) (g.F.Files.disk c.given_classes.new.files) (g.O.Sink.output c.args.out.now) few c.in_err-classes.field-0.0 (unread_of (g.F.Files.disk c.args.files.now) (g.F.Files.disk c.given_classes.new.files) c.args.request c.deref-names.ensures.value c.in_err-classes.field-0.0 c.in_err-classes.ensures.comes))

pub returns-in_err-bytes-clause-within : goal.returns-in_err-bytes-clause-within
returns-in_err-bytes-clause-within g c =
    both_within (classes_of c.args.request c.requires.alone c.deref-names.ensures.value refl c.given_classes.ensures.within c.in_ok-classes.ensures.comes) (few_of c.deref-arguments.ensures.value c.in_ok-given.ensures.given (omega (arith, c.if-arguments.false))) (g.F.Files.disk c.read_input.new.files) c.read_input.ensures.reads

pub returns-in_err-bytes-clause-comes : goal.returns-in_err-bytes-clause-comes
returns-in_err-bytes-clause-comes g c =
    let has = classes_of c.args.request c.requires.alone c.deref-names.ensures.value refl c.given_classes.ensures.within c.in_ok-classes.ensures.comes in
    let few = few_of c.deref-arguments.ensures.value c.in_ok-given.ensures.given (omega (arith, c.if-arguments.false)) in
    let handed = err_from_is_err_and c.from_residual-in_err-bytes.result c.from_residual-in_err-bytes.ensures.1 in
    rw (handed.1, handed.2) (ends_without_input has few (g.F.Files.disk c.read_input.new.files) c.read_input.ensures.reads (g.O.Sink.output c.args.out.now) c.in_err-bytes.field-0.0 c.in_err-bytes.ensures.comes)

pub run_classes-requires-clause-spelled : goal.run_classes-requires-clause-spelled
run_classes-requires-clause-spelled g c =
    spelled (classes_of c.args.request c.requires.alone c.deref-names.ensures.value refl c.given_classes.ensures.within c.in_ok-classes.ensures.comes)

pub run_classes-requires-clause-accepted : goal.run_classes-requires-clause-accepted
run_classes-requires-clause-accepted g c =
    accepted (classes_of c.args.request c.requires.alone c.deref-names.ensures.value refl c.given_classes.ensures.within c.in_ok-classes.ensures.comes)

pub run_classes-requires-clause-few_files : goal.run_classes-requires-clause-few_files
run_classes-requires-clause-few_files g c =
    few_classes (classes_of c.args.request c.requires.alone c.deref-names.ensures.value refl c.given_classes.ensures.within c.in_ok-classes.ensures.comes)

pub run_classes-requires-clause-within : goal.run_classes-requires-clause-within
run_classes-requires-clause-within g c =
    c.requires.budgets

pub run_classes-requires-clause-given : goal.run_classes-requires-clause-given
run_classes-requires-clause-given g c =
    fit_array _ (omega (arith, c.if-arguments.false)) (subst (AllByRecursion Fits) (sym c.deref-arguments.ensures.value) c.in_ok-given.ensures.fit)

pub returns-clause-within : goal.returns-clause-within
returns-clause-within g c =
    both_within (classes_of c.args.request c.requires.alone c.deref-names.ensures.value refl c.given_classes.ensures.within c.in_ok-classes.ensures.comes) (few_of c.deref-arguments.ensures.value c.in_ok-given.ensures.given (omega (arith, c.if-arguments.false))) (g.F.Files.disk c.read_input.new.files) c.read_input.ensures.reads

pub returns-clause-comes : goal.returns-clause-comes
returns-clause-comes g c =
    let has = classes_of c.args.request c.requires.alone c.deref-names.ensures.value refl c.given_classes.ensures.within c.in_ok-classes.ensures.comes in
    let few = few_of c.deref-arguments.ensures.value c.in_ok-given.ensures.given (omega (arith, c.if-arguments.false)) in
    ends_run_as has few (g.F.Files.disk c.read_input.new.files) c.read_input.ensures.reads (input_of c.deref-input.ensures.value c.in_ok-bytes.ensures.comes) (c.deref-arguments.ensures.value ∙ c.in_ok-given.ensures.given)
    (g.O.Sink.output c.args.out.now) (g.O.Sink.output c.run_classes.new.out) c.run_classes.result c.run_classes.ensures
