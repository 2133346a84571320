-- What else is known of a run that is reported: when it ends in a fault, and how many cells it
-- made.
use Rattle.std.proofs.Common.{◌≡◌, ◌⊎◌, ℕ, inl, inr, List, Contains, Option, Some, None, refl, sym, ◌∙◌, ap, subst, arith}
use Rattle.std.specs.List.{sum}
use Rattle.std.specs.Prelude.{unwrap_or}
use Rattle.fm_base.proofs.ListFacts.{AllByRecursion-weaker}
use Rattle.fm_base.proofs.OptionFacts.{Some-from_is_some}
use Rattle.fm_code.specs.Profile.{IsSupported, Profile}
use Rattle.fm_code.specs.declared.class_file.ClassDef.{ClassDef}
use Rattle.fm_frames.specs.Reports.{report_of}
use Rattle.fm_frames.specs.States.{Moved, State}
use Rattle.fm_frames.specs.declared.ends.Ended.{Ended}
use Rattle.fm_frames.specs.declared.ends.Ended.TheVariants as end
use Rattle.fm_load.proofs.GivenLemmas.{Behind, behind_once, given_accepted, given_few, given_passes, given_spelled}
use Rattle.fm_load.proofs.TakenLemmas.{have_spellings}
use Rattle.fm_load.proofs.VerdictLemmas.{Ends, EndsOnce, one_judgement}
use Rattle.fm_load.specs.Given.{AreChecked, AreGiven}
use Rattle.fm_load.specs.ProgramCalls.{ProgramCall}
use Rattle.fm_law_cells_made.specs.MostHeld.{all_most_held, MadeIsMostHeld}
use Rattle.fm_law_can_step.specs.Ready.{CanRun}
use Rattle.fm_run_job.specs.declared.status.TheConstants.{FAULT}
use Rattle.fm_cli_requests.proofs.FmrunRequestLemmas.{asks_one}
use Rattle.fm_cli_requests.specs.FmrunRequest.{FmrunJob}
use Rattle.fm_law_linked.specs.Laws.{ProgramsCanRun}
use Rattle.fm_run_job.proofs.Opened.{job_of, last_after, opening-silent}
use Rattle.fm_same.specs.Resolved.{CallsNoFreeMe}
use Rattle.fm_cli.specs.Encoding.{modified}
use Rattle.fm_law_no_fault.specs.Whole.{HasNoFault}
use Rattle.fmrun.proofs.EndStatuses.{among_refusals, fault_status, IsFault}
use Rattle.fmrun.specs.Causes.{AskFor, IsForFault, IsKnownFreeless, refusal_statuses, ReportsMostHeld, SaysFault, SaysRun}
use Rattle.fmrun.specs.Jobs.{budgets_of, given_of, job_arguments, job_program}

-- ---- 83

-- a run that ends in a fault has ended
ended_in : (ended : Option Ended) → IsFault (unwrap_or ended end.Running) → (last : State) → last.ended ≡ ended → HasNoFault last → ⊥
ended_in None (method, offset, cell, is) last same none = absurd (cc)
ended_in (Some e) (method, offset, cell, is) last same none = none method offset cell (same ∙ ap Some is)

-- classes of which none calls FreeMe end in 0, and others in 1
abbrev Frees : FmrunJob → Ends
Frees job classes status =
    (CallsNoFreeMe (job_program job classes) × (status ≡ 0)) ⊎ ((CallsNoFreeMe (job_program job classes) → ⊥) × (status ≡ 1))

not_both : (status : ℕ) → status ≡ 0 → status ≡ 1 → ⊥
not_both status first second = omega arith

frees_once : (job : FmrunJob) → EndsOnce (Frees job)
frees_once job classes s t (inl p) (inl q) = p.1 ∙ sym q.1
frees_once job classes s t (inl p) (inr q) = absurd (q.0 p.0)
frees_once job classes s t (inr p) (inl q) = absurd (p.0 q.0)
frees_once job classes s t (inr p) (inr q) = p.1 ∙ sym q.1

module _ (call : ProgramCall) where
  fault_said : call.status ≡ FAULT → SaysRun call → SaysFault call
  fault_said is said = record {
    run = said;
    frees = λ none. ended_in said.ran.last.ended (fault_status (report_of said.ran.last).end (sym said.ran.status_is ∙ is)) said.ran.last refl (said.ran.no_fault none);
  }

  -- where contents are known, the classes of a job are the same
  known_frees : AskFor call.words (IsKnownFreeless call.old) → SaysFault call → ⊥
  known_frees (job, (asked, known)) fault =
      let found = Some-from_is_some call.old.contents known.known in
      let P : FmrunJob → Type 0 = λ j. (classes : List ClassDef) × AreGiven (given_of j) call.old.contents classes × (CallsNoFreeMe (job_program j classes) → ⊥) in
      let own = subst P (asks_one call.words fault.run.job job fault.run.asked asked)
      (fault.run.ran.classes, fault.run.ran.ready.checked.linked.source, fault.frees) in
      not_both 0 refl (one_judgement (Behind job.made (Frees job)) (behind_once job.made (Frees job) (frees_once job)) found.0 job.files 0 1
      (inr (given_passes (Frees job) found.0 found.1 known.checked.linked.source 0 (inl (known.frees_none, refl))))
      (inr (given_passes (Frees job) found.0 found.1 own.1 1 (inr (own.2, refl)))))

  no_refusal : Contains refusal_statuses FAULT → ⊥
  no_refusal among = let bounds = among_refusals FAULT among in let high = bounds.high in omega arith

  pub is_for_fault : (¬ Contains refusal_statuses call.status → SaysRun call) → IsForFault call
  is_for_fault run = record { only = only; never = λ known is. known_frees known (only is) } where
    only : call.status ≡ FAULT → SaysFault call
    only is = fault_said is (run (λ among. no_refusal (let P : ℕ → Type 0 = Contains refusal_statuses in subst P is among)))

  -- ---- cells

  can_run : ProgramsCanRun → (job : FmrunJob) (classes : List ClassDef) → AreChecked (given_of job) call.old.contents classes → CanRun (job_program job classes)
  can_run law job classes checked =
      let source = checked.linked.source in
      let spelled = have_spellings classes (given_spelled source) in
      let accepted = given_accepted source in
      law classes (modified job.main) spelled (AllByRecursion-weaker Profile IsSupported (λ c profile. profile.supported) classes accepted) checked.linked.linked (given_few source)

  pub reports_most_held : ProgramsCanRun → MadeIsMostHeld → ReportsMostHeld call
  reports_most_held can law said =
      let job = said.job in
      let ran = said.ran in
      let p = job_program job ran.classes in
      let b = budgets_of job in
      let count = ran.runs.run.count in
      let made = law p (can_run can job ran.classes ran.ready.checked) (job_of b (job_arguments job) ran.input) b.words (Some b.store) count in
      let same = last_after p b (job_arguments job) ran.input ran.last call.before call.after ran.runs in
      sym (ap (λ (m : Moved). sum m.state.areas.store.made) same)
      ∙ ap sum made
      ∙ ap (λ (first : Moved). sum (all_most_held p first count)) (opening-silent p b (job_arguments job) ran.input)
