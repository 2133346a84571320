-- The program of classes that are taken can be run, and what comes of it.
use Rattle.std.proofs.Common.{◌≤◌, ℕ, inl, inr, List, length, Some, Ok, Err, refl, sym, subst}
use Rattle.std.specs.List.{AllByRecursion}
use Rattle.fm_base.proofs.ListFacts.{AllByRecursion-weaker}
use Rattle.fm_base.specs.declared.limits.TheConstants.{MAX_CLASS_FILES}
use Rattle.fm_cells.specs.Choices.{last_choice}
use Rattle.fm_cells.specs.Stores.{empty_lists}
use Rattle.fm_code.specs.Profile.{IsSupported, IsWithinLimits, Profile}
use Rattle.fm_code.specs.declared.class_file.ClassDef.{ClassDef}
use Rattle.fm_files.specs.Sink.{Output}
use Rattle.fm_frames.specs.States.{Moved, State}
use Rattle.fm_frames.specs.declared.turns.StepFail.{StepFail}
use Rattle.fm_frames.specs.declared.turns.StepFail.TheVariants as step_fail
use Rattle.fm_load.proofs.TakenLemmas.{have_spellings}
use Rattle.fm_load.specs.Judging.{ComesOfProgram}
use Rattle.fm_load.specs.Taking.{ClassIsSpelled}
use Rattle.fm_load.specs.declared.refusal.JobRefusal.{JobRefusal}
use Rattle.fm_load.specs.declared.refusal.JobRefusal.TheVariants as job_refusal
use Rattle.fm_law_can_step.specs.Ready.{CanRun}
use Rattle.fm_law_linked.specs.Laws.{ProgramsCanRun}
use Rattle.fm_run.specs.Running.{BreaksRun, FailsRun, RunsTo}
use Rattle.fm_run_job.proofs.Opened.{job_of, last_after, typings_are, typings_of}
use Rattle.fm_run_job.specs.Runs.{AreWithin, ComesOfRun, IsReportOf, choice, opened_run}
use Rattle.fm_run_job.specs.declared.runs.Budgets.{Budgets}
use Rattle.fm_run_job.specs.declared.runs.RunReport.{RunReport}
use Rattle.fm_same.specs.Resolved.{CallsNoFreeMe}
use Rattle.fm_law_sound.specs.Making.{ArgumentsFit}
use Rattle.fm_cli.specs.declared.command_refusal.CommandRefusal.TheVariants as refusal
use Rattle.fm_check_program.specs.Untyped.{AreTyped}
use Rattle.fm_law_no_fault.specs.NoFault.{LinkedProgramsNeverFault}
use Rattle.fm_law_no_fault.specs.Whole.{HasNoFault}
use Rattle.fm_world.specs.Programs.{Program, program_of}
use Rattle.fmrun.specs.declared.outcome.JobFail.{JobFail}
use Rattle.fmrun.specs.declared.outcome.JobFail.TheVariants as fail
use Rattle.fmrun.specs.inner.Fails.{IsOfStep}
use Rattle.fmrun.specs.inner.Running.{AreProgram, ComesOfClasses}

-- classes of the profile have counts within the limits
pub are_within : (classes : List ClassDef) → AllByRecursion Profile classes → AllByRecursion IsWithinLimits classes
are_within classes = AllByRecursion-weaker Profile IsWithinLimits (λ c accepted. accepted.limits) classes

module _ (classes : List ClassDef) (main : List ℕ) where
  -- the program can be run
  pub can_run : ProgramsCanRun → (program : Program) → AllByRecursion ClassIsSpelled classes → AllByRecursion Profile classes → length classes ≤ MAX_CLASS_FILES
      → ComesOfProgram classes main (Ok program) → CanRun program
  can_run law program spelled accepted few comes =
      subst CanRun (sym comes.0.1)
      (law classes main (have_spellings classes spelled) (AllByRecursion-weaker Profile IsSupported (λ c profile. profile.supported) classes accepted) comes.0.0 few)

  -- its methods are typed
  pub are_typed : (program : Program) → ComesOfProgram classes main (Ok program) → AreTyped program
  are_typed program comes = subst AreTyped (sym comes.0.1) comes.1

  module _ (b : Budgets) (arguments : List (List ℕ)) (input : List ℕ) where
    -- they make no program of typed methods
    pub comes_refused : (out : Output) (r : JobRefusal) → ComesOfProgram classes main (Err r) → ComesOfClasses classes main b arguments input out out (Err (fail.Refused r))
    comes_refused out (job_refusal.Link link) now = (now, refl)
    comes_refused out (job_refusal.Check name) now = (now, refl)
    comes_refused out (job_refusal.Shared refusal.OutOfMemory) now = inl refl
    comes_refused out r now = absurd now

    module _ (before after : Output) (program : Program) (comes : ComesOfProgram classes main (Ok program)) where
      are_program : AreProgram classes main
      are_program = record { linked = comes.0.0; typed = comes.1 }

      -- a run of the program doesn't end in a fault where no method calls FreeMe
      never_faults : LinkedProgramsNeverFault → AllByRecursion ClassIsSpelled classes → AllByRecursion Profile classes → length classes ≤ MAX_CLASS_FILES
          → AreWithin b → ArgumentsFit arguments → (last : State)
          → RunsTo (program_of classes main) choice b.steps (opened_run (program_of classes main) b arguments input) last before after
          → CallsNoFreeMe (program_of classes main) → HasNoFault last
      never_faults law spelled accepted few within given last runs frees_none =
          let p = program_of classes main in
          let supported = AllByRecursion-weaker Profile IsSupported (λ c profile. profile.supported) classes accepted in
          let kept = law classes main (have_spellings classes spelled) supported comes.0.0 few (typings_of p are_program.typed)
          (typings_are p are_program.typed) frees_none last_choice (job_of b arguments input) given b.words (Some b.store) empty_lists
          within.words runs.run.count in
          subst (λ (m : Moved). HasNoFault m.state) (last_after p b arguments input last before after runs) kept.1

      -- their run is reported
      pub comes_reported : LinkedProgramsNeverFault → AllByRecursion ClassIsSpelled classes → AllByRecursion Profile classes → length classes ≤ MAX_CLASS_FILES
          → AreWithin b → ArgumentsFit arguments → (reported : RunReport) → ComesOfRun program b arguments input before after (Ok reported)
          → ComesOfClasses classes main b arguments input before after (Ok reported)
      comes_reported law spelled accepted few within given reported now =
          let P : Program → Type 0 = λ p. IsReportOf p b arguments input reported before after in
          let own : IsReportOf (program_of classes main) b arguments input reported before after = subst P comes.0.1 now in
          (are_program, record { reported = own; no_fault = never_faults law spelled accepted few within given own.last own.runs })

      -- or a step of it couldn't be done
      pub comes_failed : (f : StepFail) (e : JobFail) → IsOfStep f e → ComesOfRun program b arguments input before after (Err f) → ComesOfClasses classes main b arguments input before after (Err e)
      comes_failed step_fail.SinkFailed e is now =
          let P : Program → Type 0 = λ p. FailsRun p choice b.steps (opened_run p b arguments input) before after in
          let Q : JobFail → Type 0 = λ x. ComesOfClasses classes main b arguments input before after (Err x) in
          subst Q (sym is) (are_program, subst P comes.0.1 now)
      comes_failed step_fail.NoMemory e is now =
          let P : Program → Type 0 = λ p. BreaksRun p choice b.steps (opened_run p b arguments input) before after in
          let Q : JobFail → Type 0 = λ x. ComesOfClasses classes main b arguments input before after (Err x) in
          subst Q (sym is) (inr (are_program, subst P comes.0.1 now))
