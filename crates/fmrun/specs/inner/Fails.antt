-- What becomes of a step that couldn't be done.
use Rattle.std.specs.Prelude.{◌≡◌}
use Rattle.fm_frames.specs.declared.turns.StepFail.{StepFail}
use Rattle.fm_frames.specs.declared.turns.StepFail.TheVariants as step_fail
use Rattle.fm_load.specs.declared.refusal.JobRefusal.TheVariants as job_refusal
use Rattle.fm_cli.specs.declared.command_refusal.CommandRefusal.TheVariants as refusal
use Rattle.fmrun.specs.declared.outcome.JobFail.{JobFail}
use Rattle.fmrun.specs.declared.outcome.JobFail.TheVariants as fail

-- a sink that failed fails the output, and no memory refuses the job
abbrev pub IsOfStep : StepFail → JobFail → Type 0
IsOfStep step_fail.SinkFailed e = e ≡ fail.Output
IsOfStep step_fail.NoMemory e = e ≡ fail.Refused (job_refusal.Shared refusal.OutOfMemory)
