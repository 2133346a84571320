use Rattle.std.proofs.Common.{Err, ap}
use Rattle.fm_frames.specs.declared.turns.StepFail.TheVariants as fail
use Rattle.fm_run.proofs.Ranging.{same_error}
use Rattle.fm_run.proofs.runs.do_cheap.Goals as goal

pub do_step-requires-clause-going : goal.do_step-requires-clause-going
do_step-requires-clause-going g c = c.in-Some-cheap_next.ensures.going

pub do_step-requires-clause-can : goal.do_step-requires-clause-can
do_step-requires-clause-can g c = c.in-Some-cheap_next.ensures.can

pub do_step-requires-clause-at : goal.do_step-requires-clause-at
do_step-requires-clause-at g c = c.in-Some-cheap_next.ensures.at

pub returns-clause-did : goal.returns-clause-did
returns-clause-did g c h =
    record { goes = c.in-Some-cheap_next.ensures.goes; does = c.in_ok-do_step.ensures.does; stepped = c.in_ok-do_step.ensures.stepped }

pub returns-in_err-do_step-clause-failed : goal.returns-in_err-do_step-clause-failed
returns-in_err-do_step-clause-failed g c failed =
    let why = same_error c.from_residual.result c.in_err-do_step.field-0.0 fail.SinkFailed c.from_residual.ensures.1 failed in
    record { goes = c.in-Some-cheap_next.ensures.goes; fails = c.in_err-do_step.ensures.failed (ap Err why) }

pub returns-in_err-do_step-clause-kept : goal.returns-in_err-do_step-clause-kept
returns-in_err-do_step-clause-kept g c wanting =
    let why = same_error c.from_residual.result c.in_err-do_step.field-0.0 fail.NoMemory c.from_residual.ensures.1 wanting in
    c.in_err-do_step.ensures.kept (ap Err why)
