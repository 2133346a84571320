-- What the state from which a run goes on has, the one to which it comes has too.
use Rattle.std.proofs.Common.{◌≡◌, ℕ, zero, suc, ◌≤◌, List, refl, sym, ◌∙◌, ap, subst}
use Rattle.fm_base.specs.declared.limits.TheConstants.{MAX_LIVE_WORDS}
use Rattle.fm_cells.proofs.Choices.{lawful-is}
use Rattle.fm_cells.specs.Choices.{IsLawful, lawful}
use Rattle.fm_files.specs.Sink.{Output}
use Rattle.fm_frames.specs.Acts.{Choose}
use Rattle.fm_frames.specs.Runs.{after, IsRun}
use Rattle.fm_frames.specs.States.{Moved, silent, State}
use Rattle.fm_law_cells_made.specs.MostHeld.{MadeSince, MadeSinceIsMostHeld}
use Rattle.fm_law_can_step.specs.Ready.{CanRun}
use Rattle.fm_run.specs.Running.{KeepsWhole, MakesMostHeld, RunsTo}
use Rattle.fm_same.specs.Resolved.{CallsNoFreeMe, IsResolved}
use Rattle.fm_law_sound.proofs.Budgets.{step_budget}
use Rattle.fm_law_sound.proofs.RunsSound.{makes_few}
use Rattle.fm_law_sound.specs.Sound.{IsSound, Typings}
use Rattle.fm_law_no_fault.specs.CellsResolved.{CellsAreResolved}
use Rattle.fm_law_no_fault.specs.Laws.{StepsKeepWhole}
use Rattle.fm_law_no_fault.specs.Whole.{HasNoFault, IsWholeBy}
use Rattle.fm_world.specs.Programs.{Program}

module _ (law : StepsKeepWhole) (p : Program) (can : CanRun p) (typings : Typings) (linked : IsResolved p) (cells : CellsAreResolved p) (frees_none : CallsNoFreeMe p) (choose : Choose) where
  -- no step changes how many words may live
  after_budget : (x : Moved) (count : ℕ) → (after p (lawful choose) count x).state.areas.store.budget ≡ x.state.areas.store.budget
  unfolding after
  after_budget x zero = refl
  after_budget x (suc count) = step_budget p (lawful choose) (after p (lawful choose) count x).state ∙ after_budget x count

  -- so is the state after any number of steps
  after_whole : (x : Moved) → x.state.areas.store.budget ≤ MAX_LIVE_WORDS → IsWholeBy p typings x.state × HasNoFault x.state → (count : ℕ)
      → IsWholeBy p typings (after p (lawful choose) count x).state × HasNoFault (after p (lawful choose) count x).state
  unfolding after
  after_whole x few kept zero = kept
  after_whole x few kept (suc count) =
      let before = after_whole x few kept count in
      law p typings linked can.steps can.makes cells frees_none choose (after p (lawful choose) count x).state before.0 before.1
      (makes_few p (after p (lawful choose) count x).state (subst (λ n. n ≤ MAX_LIVE_WORDS) (sym (after_budget x count)) few))

-- the state to which a run leads, by what its steps lead to
ran-state : (p : Program) (choose : Choose) (budget : ℕ) (x y : State) (printed : List ℕ)
    → (run : IsRun p choose budget (silent x) (record { state = y; printed = printed })) → (after p choose run.count (silent x)).state ≡ y
ran-state p choose budget x y printed run = sym (ap (λ (m : Moved). m.state) run.is)

pub run-keeps_whole : StepsKeepWhole → (p : Program) (choose : Choose) → IsLawful choose → CanRun p → (budget : ℕ) (x y : State) (old new : Output)
    → RunsTo p choose budget x y old new → IsSound p x → KeepsWhole p x y
run-keeps_whole law p choose may can budget x y old new runs sound typings linked cells frees_none whole no_fault =
    let Holds : State → Type 0 = λ z. IsWholeBy p typings z × HasNoFault z in
    subst Holds (ran-state p choose budget x y runs.printed runs.run)
    (subst (λ c. Holds (after p c runs.run.count (silent x)).state) (lawful-is choose may)
    (after_whole law p can typings linked cells frees_none choose (silent x) sound.2 (whole, no_fault) runs.run.count))

pub run-makes_most : MadeSinceIsMostHeld → (p : Program) (choose : Choose) → CanRun p → (budget : ℕ) (x y : State) → MakesMostHeld p choose budget x y
run-makes_most law p choose can budget x y same last printed run =
    subst (λ z. MadeSince p x z run.count) (ran-state p choose budget x y printed run)
    (subst (λ c. MadeSince p x (after p c run.count (silent x)).state run.count) (sym same) (law p can x last run.count))
