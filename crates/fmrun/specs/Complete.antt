-- That a job is run to an end where nothing is against it and nothing fails, as long as there is memory.
use Rattle.std.specs.Prelude.{◌≡◌, ◌≤◌, ◌⊎◌, Contains}
use Rattle.fm_cli.specs.declared.status.TheConstants.{OUT_OF_MEMORY}
use Rattle.fm_cli_requests.specs.FmrunRequest.{FmrunJob, Asks}
use Rattle.fm_files.specs.Files.{Bytes}
use Rattle.fm_load.specs.ProgramCalls.{ProgramCall}
use Rattle.fmrun.specs.Causes.{IsKnownReady, SaysRun}
use Rattle.fmrun.specs.Jobs.{job_files}

-- In this call no read of a file of the job failed, that of the input among them, and no put of what is printed or of the line.
-- Over `SureFiles` and `SureSink` of `fm_files` this always holds: their counts are 0.
pub record NothingFails (job : FmrunJob) (call : ProgramCall) : Type 0 where
  pub reads : (file : Bytes) → Contains (job_files job) file → call.new.read_faults file ≤ call.old.read_faults file
  pub prints : call.after.faults ≤ call.before.faults
  pub puts : call.reported.faults ≤ call.report.faults

-- Where the words ask for a job that is known to be ready, so that its class files hold classes with a
-- spelling, of the profile, within the limits, linked and typed, and nothing fails, its run reaches
-- one of its ends (JVMS 5.7), whose status is returned and whose line is put; or memory can't be had.
abbrev pub IsComplete : ProgramCall → Type 0
IsComplete call =
    (job : FmrunJob) → Asks call.words job → IsKnownReady call.old job → NothingFails job call → SaysRun call ⊎ (call.status ≡ OUT_OF_MEMORY)
