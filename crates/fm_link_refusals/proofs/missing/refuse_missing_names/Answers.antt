use Rattle.std.specs.List.{flat_map}
use Rattle.std.proofs.lemmas.List.Folds.{flat_map-map}
use Rattle.std.proofs.lemmas.Result.{err_from_is_err_and}
use Rattle.fm_link_names.specs.declared.given.GivenFile.{GivenFile}
use Rattle.fm_link_names.specs.inner.Numbering.{texts_in}
use Rattle.fm_world.specs.Causes.{missing_classes}
use Rattle.fm_link_refusals.proofs.FirstRefusals.{numbered_here, refuses_end, refuses_first, refuses_none}
use Rattle.fm_link_refusals.specs.Refused.{refusal_of}
use Rattle.fm_link_refusals.specs.inner.GivenClasses.{class_in, given_in}
use Rattle.fm_link_refusals.proofs.missing.refuse_missing_names.Goals as goal

pub loop-file-init : goal.loop-file-init
loop-file-init c = λ classes n. flat_map-map (missing_classes classes) class_in c.args.files.now

pub refuse_missing_of-requires : goal.refuse_missing_of-requires
refuse_missing_of-requires c =
    numbered_here (texts_in c.args.naming.texts.now) c.args.files.now c.loop-file.file-index c.file-item.result c.requires c.loop-file-test.true
    c.file-item.is

pub returns-in_err-refuse_missing_of : goal.returns-in_err-refuse_missing_of
returns-in_err-refuse_missing_of c = λ classes n.
    let p = err_from_is_err_and c.from_residual.result c.from_residual.ensures.1 in
    rw (p.1, p.2)
    (refuses_first (λ (f : GivenFile). missing_classes classes (class_in f)) c.args.files.now c.loop-file.file-index c.file-item.result
    (flat_map (missing_classes classes) (given_in c.args.files.now))
    (refusal_of c.in_err-refuse_missing_of.field-0.0) c.loop-file-test.true c.file-item.is
    (c.in_err-refuse_missing_of.ensures classes n) (c.loop-file.invariant classes n))

pub loop-file-preserved : goal.loop-file-preserved
loop-file-preserved c = λ classes n.
    refuses_none (λ (f : GivenFile). missing_classes classes (class_in f)) c.args.files.now c.loop-file.file-index c.file-item.result
    (flat_map (missing_classes classes) (given_in c.args.files.now)) c.loop-file-test.true c.file-item.is
    (c.in_ok-refuse_missing_of.ensures classes n)
    (c.loop-file.invariant classes n)

pub returns : goal.returns
returns c = λ classes n.
    refuses_end (λ (f : GivenFile). missing_classes classes (class_in f)) c.args.files.now c.loop-file.file-index
    (flat_map (missing_classes classes) (given_in c.args.files.now))
    c.loop-file-test.false (c.loop-file.invariant classes n)
