-- The result of the run of a program, from its opening on, and its report.
use Rattle.std.specs.Prelude.{◌≡◌, ℕ, ◌≤◌, List, Some, Result, Ok, Err, string_bytes}
use Rattle.fm_base.specs.declared.limits.TheConstants.{MAX_LIVE_WORDS, MAX_MADE_WORDS, MAX_STEPS}
use Rattle.fm_cells.specs.Choices.{last_choice, lawful}
use Rattle.fm_cells.specs.Stores.{empty_lists, opened}
use Rattle.fm_files.specs.Sink.{Output}
use Rattle.fm_frames.specs.Acts.{Choose}
use Rattle.fm_frames.specs.Reports.{report_of}
use Rattle.fm_frames.specs.Runs.{opening}
use Rattle.fm_frames.specs.States.{State}
use Rattle.fm_frames.specs.declared.turns.StepFail.{StepFail}
use Rattle.fm_frames.specs.declared.turns.StepFail.TheVariants as fail
use Rattle.fm_run_job.specs.Reports.{end_status, report_line}
use Rattle.fm_run.specs.Running.{BreaksRun, FailsRun, RunsTo}
use Rattle.fm_run_job.specs.declared.runs.Budgets.{Budgets}
use Rattle.fm_run_job.specs.declared.runs.RunReport.{RunReport}
use Rattle.fm_world.specs.Programs.{Program}

-- the budgets are within their limits
pub record AreWithin (b : Budgets) : Type 0 where
  pub words : b.words ≤ MAX_LIVE_WORDS
  pub store : b.store ≤ MAX_MADE_WORDS
  pub steps : b.steps ≤ MAX_STEPS

-- the cells that are taken: the one of the size that was freed last, and else one after all that were made
abbrev pub choice : Choose
choice = lawful last_choice

-- the state at the opening of the run, over a memory in which nothing was made
abbrev pub opened_run : Program → Budgets → (arguments : List (List ℕ)) → (input : List ℕ) → State
opened_run p b arguments input =
    (opening p choice (record { arguments = arguments; input = input; depth = b.frames }) (opened b.words (Some b.store) empty_lists)).state

-- the run reached its end, and this is reported: the line of its report, and the status of its end
pub record IsReportOf (p : Program) (b : Budgets) (arguments : List (List ℕ)) (input : List ℕ) (reported : RunReport) (before after : Output) : Type 0 where
  pub last : State
  pub runs : RunsTo p choice b.steps (opened_run p b arguments input) last before after
  pub line_is : string_bytes reported.line ≡ report_line p (report_of last)
  pub status_is : reported.status ≡ end_status (report_of last).end

-- it reached its end; or the put of what a step prints failed; or memory couldn't be had after its
-- first steps, which may be none
abbrev pub ComesOfRun : Program → Budgets → (arguments : List (List ℕ)) → (input : List ℕ) → (before after : Output) → Result RunReport StepFail → Type 0
ComesOfRun p b arguments input before after (Ok reported) = IsReportOf p b arguments input reported before after
ComesOfRun p b arguments input before after (Err fail.SinkFailed) = FailsRun p choice b.steps (opened_run p b arguments input) before after
ComesOfRun p b arguments input before after (Err fail.NoMemory) = BreaksRun p choice b.steps (opened_run p b arguments input) before after
