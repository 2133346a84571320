-- The result of the run of the classes that were read.
use Rattle.std.specs.Prelude.{◌≡◌, ℕ, ◌⊎◌, List, [], Result, Ok, Err}
use Rattle.fm_code.specs.declared.class_file.ClassDef.{ClassDef}
use Rattle.fm_files.specs.Sink.{Output}
use Rattle.fm_load.specs.Judging.{ComesOfProgram}
use Rattle.fm_load.specs.declared.refusal.JobRefusal.TheVariants as job_refusal
use Rattle.fm_run.specs.Running.{BreaksRun, FailsRun}
use Rattle.fm_run_job.specs.Runs.{IsReportOf, choice, opened_run}
use Rattle.fm_run_job.specs.declared.runs.Budgets.{Budgets}
use Rattle.fm_run_job.specs.declared.runs.RunReport.{RunReport}
use Rattle.fm_same.specs.Resolved.{CallsNoFreeMe}
use Rattle.fm_cli.specs.declared.command_refusal.CommandRefusal.TheVariants as refusal
use Rattle.fm_check_program.specs.Untyped.{AreTyped}
use Rattle.fm_world.specs.Linking.{refusals}
use Rattle.fm_law_no_fault.specs.Whole.{HasNoFault}
use Rattle.fm_world.specs.Programs.{Program, program_of}
use Rattle.fmrun.specs.declared.outcome.JobFail.{JobFail}
use Rattle.fmrun.specs.declared.outcome.JobFail.TheVariants as fail

-- they make a program, and its methods are typed
pub record AreProgram (classes : List ClassDef) (main : List ℕ) : Type 0 where
  pub linked : refusals classes main ≡ []
  pub typed : AreTyped (program_of classes main)

-- the run of the program is reported, and where no method of it calls FreeMe it didn't end in a
-- fault
pub record ReportsRun (p : Program) (b : Budgets) (arguments : List (List ℕ)) (input : List ℕ) (report : RunReport) (before after : Output) : Type 0 where
  pub reported : IsReportOf p b arguments input report before after
  pub no_fault : CallsNoFreeMe p → HasNoFault reported.last

-- the run of their program is reported; or the put of what it prints failed; or memory couldn't be
-- had, before it or after some of its steps; or they make no program of typed methods
abbrev pub ComesOfClasses : List ClassDef → List ℕ → Budgets → (arguments : List (List ℕ)) → (input : List ℕ) → Output → Output → Result RunReport JobFail → Type 0
ComesOfClasses classes main b arguments input before after (Ok reported) =
    AreProgram classes main × ReportsRun (program_of classes main) b arguments input reported before after
ComesOfClasses classes main b arguments input before after (Err fail.Output) =
    AreProgram classes main × FailsRun (program_of classes main) choice b.steps (opened_run (program_of classes main) b arguments input) before after
ComesOfClasses classes main b arguments input before after (Err (fail.Refused (job_refusal.Shared refusal.OutOfMemory))) =
    (after ≡ before)
    ⊎ (AreProgram classes main × BreaksRun (program_of classes main) choice b.steps (opened_run (program_of classes main) b arguments input) before after)
ComesOfClasses classes main b arguments input before after (Err (fail.Refused r)) = ComesOfProgram classes main (Err r) × (after ≡ before)
