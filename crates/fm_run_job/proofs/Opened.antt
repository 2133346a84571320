-- The opening of a run: from it the run can go on, and each end of the run can be reported.
use Rattle.std.proofs.Common.{◌≡◌, ◌<◌, ◌≤◌, ◌^◌, ℕ, zero, List, [], length, Option, Some, None, refl, sym, ap, subst, arith, ◌∙◌}
use Rattle.std.specs.Prelude.{IsSome}
use Rattle.std.specs.List.{AllByRecursion}
use Rattle.fm_base.proofs.ListFacts.{AllByRecursion-weaker}
use Rattle.fm_base.specs.declared.limits.TheConstants.{MAX_ARGUMENTS}
use Rattle.fm_cells.specs.Choices.{IsLawful, last_choice}
use Rattle.fm_cells.specs.Soundness.{CellsFit}
use Rattle.fm_cells.specs.Stores.{empty_lists, opened}
use Rattle.fm_code.specs.declared.code_array.Code.{Code}
use Rattle.fm_files.proofs.SinkLemmas.{with_pieces-nil}
use Rattle.fm_files.specs.Sink.{Output}
use Rattle.fm_frames.specs.Reports.{report_of}
use Rattle.fm_frames.specs.Runs.{after, end_of, Job, opening}
use Rattle.fm_frames.specs.States.{Moved, silent, State}
use Rattle.fm_law_can_step.proofs.Loops.{opened_steady}
use Rattle.fm_law_can_step.proofs.Openings.{opened_births}
use Rattle.fm_law_can_step.specs.Ready.{CanRun}
use Rattle.fm_run_job.specs.Reports.{IsEndIn}
use Rattle.fm_run.specs.Running.{BreaksRun, CanGo, RunsTo}
use Rattle.fm_run_job.proofs.EndLemmas.{ends_there}
use Rattle.fm_run_job.specs.Runs.{AreWithin, choice, opened_run}
use Rattle.fm_run_job.specs.declared.runs.Budgets.{Budgets}
use Rattle.fm_law_sound.specs.Making.{ArgumentsFit, AreUnits}
use Rattle.fm_law_sound.specs.Sound.{Typings}
use Rattle.fm_law_sound.specs.Sound as sound
use Rattle.fm_types.specs.States.{TypeState}
use Rattle.fm_types.specs.Typed.{IsTyping}
use Rattle.fm_check_program.specs.Untyped.{AreTyped}
use Rattle.fm_world.specs.Programs.{code_at, Program}

-- ---- typings

-- the states of a method that has code, by that code
states_by : (p : Program) → AreTyped p → (method : ℕ) (found : Option Code) → code_at p method ≡ found → List (Option TypeState)
states_by p typed method None is = []
states_by p typed method (Some code) is = (typed method (subst IsSome (sym is) refl)).0

-- typed methods have a typing each
pub typings_of : (p : Program) → AreTyped p → Typings
typings_of p typed method = states_by p typed method (code_at p method) refl

pub typings_are : (p : Program) (typed : AreTyped p) → sound.AreTyped p (typings_of p typed)
unfolding states_by typings_of
typings_are p typed method code is = by_code (code_at p method) refl is where
  by_code : (found : Option Code) (same : code_at p method ≡ found) → found ≡ Some code → IsTyping p method (states_by p typed method found same)
  by_code None same reported = absurd (cc)
  by_code (Some code) same reported = (typed method (subst IsSome (sym same) refl)).1

-- ---- the opening

-- what a run is given
abbrev pub job_of : Budgets → List (List ℕ) → List ℕ → Job
job_of b arguments input = record { arguments = arguments; input = input; depth = b.frames }

-- nothing is printed in it
pub opening-silent : (p : Program) (b : Budgets) (arguments : List (List ℕ)) (input : List ℕ)
    → opening p choice (job_of b arguments input) (opened b.words (Some b.store) empty_lists) ≡ silent (opened_run p b arguments input)
unfolding opening
opening-silent p b arguments input = refl

-- the texts of the arguments are short
pub short_texts : (arguments : List (List ℕ)) → ArgumentsFit arguments → AllByRecursion (λ (text : List ℕ). length text < 2 ^ 31) arguments
short_texts arguments given = AllByRecursion-weaker (λ text. (length text < 2 ^ 31) × AreUnits text) (λ text. length text < 2 ^ 31) (λ text h. h.0) arguments given.texts

-- from it the run can go on
pub opened_goes : (p : Program) (b : Budgets) (arguments : List (List ℕ)) (input : List ℕ) → IsLawful choice → CanRun p → AreTyped p → AreWithin b
    → length arguments ≤ MAX_ARGUMENTS → ArgumentsFit arguments → CellsFit (opened_run p b arguments input).areas.store
    → CanGo p b.steps (opened_run p b arguments input)
opened_goes p b arguments input may can typed within few given fit =
    let job = job_of b arguments input in
    let steady = opened_steady p (typings_of p typed) choice job may can (typings_are p typed) given b.words (Some b.store) empty_lists within.words fit in
    let births = opened_births p choice job (opened b.words (Some b.store) empty_lists) may can in
    let texts = can.few_texts in
    let types = can.steps.calls.runnable.few_types in
    let steps = within.steps in record {
      sound = steady.0;
      cells = steady.1;
      births = omega (arith, births, texts, types, steps, few);
    }

-- after all its steps the run is at its last state
pub last_after : (p : Program) (b : Budgets) (arguments : List (List ℕ)) (input : List ℕ) (last : State) (before later : Output)
    → (runs : RunsTo p choice b.steps (opened_run p b arguments input) last before later)
    → after p choice runs.run.count (opening p choice (job_of b arguments input) (opened b.words (Some b.store) empty_lists))
    ≡ record { state = last; printed = runs.printed }
last_after p b arguments input last before later runs = ap (after p choice runs.run.count) (opening-silent p b arguments input) ∙ sym runs.run.is

-- what the end of the run names is there
pub end_reported : (p : Program) (b : Budgets) (arguments : List (List ℕ)) (input : List ℕ) → CanRun p → AreTyped p → AreWithin b → ArgumentsFit arguments
    → (last : State) (before later : Output) → RunsTo p choice b.steps (opened_run p b arguments input) last before later
    → IsEndIn p (report_of last).end
end_reported p b arguments input can typed within given last before later runs =
    let job = job_of b arguments input in
    let there = ends_there p (typings_of p typed) (typings_are p typed) can last_choice job given b.words (Some b.store) empty_lists within.words runs.run.count in
    subst (λ (m : Moved). IsEndIn p (end_of m.state)) (last_after p b arguments input last before later runs) there

-- ---- what is left undone

-- the run reached its end, so its steps were done
pub ends-breaks : (p : Program) (b : Budgets) (x last : State) (before later : Output) → RunsTo p choice b.steps x last before later
    → BreaksRun p choice b.steps x before later
ends-breaks p b x last before later runs = record {
  count = runs.run.count;
  goes = runs.run.goes;
  put = runs.put;
}

-- no step was done
pub none-breaks : (p : Program) (b : Budgets) (x : State) (before later : Output) → later ≡ before → BreaksRun p choice b.steps x before later
none-breaks p b x before later kept = record {
  count = zero;
  goes = λ k h. absurd (omega (arith, h));
  put = kept ∙ sym (with_pieces-nil before);
}
