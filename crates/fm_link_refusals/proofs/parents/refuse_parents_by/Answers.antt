use Rattle.std.specs.List.{flat_map}
use Rattle.std.proofs.lemmas.List.Folds.{flat_map-map}
use Rattle.std.proofs.lemmas.Result.{err_from_is_err_and}
use Rattle.fm_link_names.specs.declared.given.GivenFile.{GivenFile}
use Rattle.fm_world.specs.Causes.{bad_parents}
use Rattle.fm_link_refusals.proofs.FirstRefusals.{numbered_here, refuses_end, refuses_first, refuses_none}
use Rattle.fm_link_refusals.specs.Refused.{refusal_of}
use Rattle.fm_link_refusals.specs.inner.GivenClasses.{class_in, given_in}
use Rattle.fm_link_refusals.proofs.parents.refuse_parents_by.Goals as goal

pub loop-file-init : goal.loop-file-init
loop-file-init c = λ classes texts judges are. flat_map-map (bad_parents classes) class_in c.args.files.now

pub returns-in_err-refuse_parents_of : goal.returns-in_err-refuse_parents_of
returns-in_err-refuse_parents_of c = λ classes texts judges are.
    let p = err_from_is_err_and c.from_residual.result c.from_residual.ensures.1 in
    let here = numbered_here texts c.args.files.now c.loop-file.file-index c.file-item.result are c.loop-file-test.true c.file-item.is in
    rw (p.1, p.2)
    (refuses_first (λ (f : GivenFile). bad_parents classes (class_in f)) c.args.files.now c.loop-file.file-index c.file-item.result
    (flat_map (bad_parents classes) (given_in c.args.files.now))
    (refusal_of c.in_err-refuse_parents_of.field-0.0) c.loop-file-test.true c.file-item.is
    (c.in_err-refuse_parents_of.ensures classes texts judges here) (c.loop-file.invariant classes texts judges are))

pub loop-file-preserved : goal.loop-file-preserved
loop-file-preserved c = λ classes texts judges are.
    let here = numbered_here texts c.args.files.now c.loop-file.file-index c.file-item.result are c.loop-file-test.true c.file-item.is in
    refuses_none (λ (f : GivenFile). bad_parents classes (class_in f)) c.args.files.now c.loop-file.file-index c.file-item.result
    (flat_map (bad_parents classes) (given_in c.args.files.now)) c.loop-file-test.true c.file-item.is
    (c.in_ok-refuse_parents_of.ensures classes texts judges here)
    (c.loop-file.invariant classes texts judges are)

pub returns : goal.returns
returns c = λ classes texts judges are.
    refuses_end (λ (f : GivenFile). bad_parents classes (class_in f)) c.args.files.now c.loop-file.file-index
    (flat_map (bad_parents classes) (given_in c.args.files.now))
    c.loop-file-test.false (c.loop-file.invariant classes texts judges are)
