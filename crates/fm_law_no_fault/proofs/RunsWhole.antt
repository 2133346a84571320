-- Each state of a run is whole, from its opening on, and none is a fault.
use Rattle.std.proofs.Common.{ℕ, zero, suc, ◌<◌, ◌≤◌, List, Option, arith}
use Rattle.fm_base.specs.declared.limits.TheConstants.{MAX_LIVE_WORDS}
use Rattle.fm_cells.specs.Choices.{lawful}
use Rattle.fm_cells.specs.Stores.{opened}
use Rattle.fm_world.specs.Programs.{Program}
use Rattle.fm_frames.specs.Acts.{Choose}
use Rattle.fm_frames.specs.Runs.{after, Job, opening}
use Rattle.fm_frames.specs.States.{Moved}
use Rattle.fm_law_sound.specs.Laws.{MakesFewBefore, no_frame}
use Rattle.fm_law_sound.specs.Making.{ArgumentsFit, MakesAreResolved, MakesFew}
use Rattle.fm_law_sound.specs.Resolved.{MainIsReady, StepsAreResolved}
use Rattle.fm_law_sound.specs.Sound.{AreTyped, IsSoundBy, Typings}
use Rattle.fm_law_sound.proofs.Opening.{opening_sound}
use Rattle.fm_law_sound.proofs.OpeningActs.{opening_fits}
use Rattle.fm_law_sound.proofs.RunsSound.{run_makes_few}
use Rattle.fm_law_sound.proofs.StartActs.{start_alone}
use Rattle.fm_law_no_fault.specs.CellsResolved.{CellsAreResolved}
use Rattle.fm_law_no_fault.proofs.OpeningWhole.{Opened, opening_open}
use Rattle.fm_law_no_fault.proofs.StartsSuit.{NumbersAreConstants}
use Rattle.fm_law_no_fault.proofs.StepKeeps.{IsWholeStill, RowsOwe, step_kept}

module _ (p : Program) (typings : Typings) (typed : AreTyped p typings) (steps : StepsAreResolved p) (makes : MakesAreResolved p) (cells : CellsAreResolved p) (numbers : NumbersAreConstants p.outline) (rows : RowsOwe p typings typed steps cells) (choose : Choose) where
  after_kept : (x : Moved) → IsWholeStill p typings x.state → (k : ℕ) → ((j : ℕ) → j < k → MakesFew p (after p (lawful choose) j x).state)
      → IsWholeStill p typings (after p (lawful choose) k x).state
  unfolding after
  after_kept x kept zero few = kept
  after_kept x kept (suc k) few =
      step_kept p typings typed steps makes cells numbers rows choose (after p (lawful choose) k x).state (after_kept x kept k (λ j less. few j (omega (arith, less))))
      (few k (omega arith))

  -- while no object has more words than `fmrun` allows at most, whatever the budget is
  pub kept_while_few : MainIsReady p → (job : Job) → ArgumentsFit job.arguments → (budget : ℕ) (limit : Option ℕ) (free : List (List ℕ)) (k : ℕ)
      → MakesFewBefore p (lawful choose) job (opened budget limit free) k
      → IsWholeStill p typings (after p (lawful choose) k (opening p (lawful choose) job (opened budget limit free))).state
  kept_while_few main job given budget limit free k few =
      let first : Opened p typings (opening p (lawful choose) job (opened budget limit free)).state =
      opening_open p typings typed steps makes cells numbers main choose job given budget limit free in
      let sound : IsSoundBy p typings (opening p (lawful choose) job (opened budget limit free)).state =
      opening_sound p typings typed steps main choose job budget limit free (record {
        opening = opening_fits p makes.makeable (opened budget limit free) no_frame job given;
        start = start_alone p makes.makeable makes.constants (opened budget limit free) no_frame;
      }) in
      after_kept (opening p (lawful choose) job (opened budget limit free))
      (record { whole = record { sound = sound; frames = first.frames; areas = first.areas }; no_fault = first.no_fault }) k few

  pub runs_kept : MainIsReady p → (job : Job) → ArgumentsFit job.arguments → (budget : ℕ) (limit : Option ℕ) (free : List (List ℕ))
      → budget ≤ MAX_LIVE_WORDS → (k : ℕ)
      → IsWholeStill p typings (after p (lawful choose) k (opening p (lawful choose) job (opened budget limit free))).state
  runs_kept main job given budget limit free few k =
      kept_while_few main job given budget limit free k (λ j less. run_makes_few p (lawful choose) job (opened budget limit free) few j)
