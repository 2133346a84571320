-- Each state of a run is sound, from its opening on.
use Rattle.std.proofs.Common.{ℕ, zero, suc, ◌<◌, ◌≤◌, List, Option, sym, subst, arith}
use Rattle.fm_base.specs.declared.limits.TheConstants.{MAX_LIVE_WORDS}
use Rattle.fm_cells.specs.Choices.{lawful}
use Rattle.fm_cells.specs.Stores.{opened, Store}
use Rattle.fm_world.specs.Programs.{Program}
use Rattle.fm_frames.specs.Acts.{Choose}
use Rattle.fm_frames.specs.Runs.{after, Job, opening}
use Rattle.fm_frames.specs.States.{Moved, State}
use Rattle.fm_frames.specs.Steps.{next_effect}
use Rattle.fm_law_sound.specs.Laws.{MakesFewBefore, no_frame}
use Rattle.fm_law_sound.specs.Making.{ArgumentsFit, MakesAreResolved, MakesFew}
use Rattle.fm_law_sound.specs.Resolved.{MainIsReady, StepsAreResolved}
use Rattle.fm_law_sound.specs.Sound.{AreTyped, IsSoundBy, Typings}
use Rattle.fm_law_sound.proofs.Budgets.{run_budget}
use Rattle.fm_law_sound.proofs.FewWords.{few_within}
use Rattle.fm_law_sound.proofs.NextActs.{next_acts_fit}
use Rattle.fm_law_sound.proofs.Opening.{opening_sound}
use Rattle.fm_law_sound.proofs.OpeningActs.{opening_fits}
use Rattle.fm_law_sound.proofs.StartActs.{start_alone}
use Rattle.fm_law_sound.proofs.StepsSound.{step_sound}

-- within the words that `fmrun` allows at most no object has more
pub makes_few : (p : Program) (x : State) → x.areas.store.budget ≤ MAX_LIVE_WORDS → MakesFew p x
makes_few p x few within = few_within p.outline x.areas (next_effect p x).actions few within

-- and so it is along a run
pub run_makes_few : (p : Program) (choose : Choose) (job : Job) (store : Store) → store.budget ≤ MAX_LIVE_WORDS → (k : ℕ)
    → MakesFew p (after p choose k (opening p choose job store)).state
run_makes_few p choose job store few k =
    makes_few p (after p choose k (opening p choose job store)).state (subst (λ n. n ≤ MAX_LIVE_WORDS) (sym (run_budget p choose job store k)) few)

module _ (p : Program) (typings : Typings) (ready : StepsAreResolved p) (made : MakesAreResolved p) (choose : Choose) (x : Moved) (sound : IsSoundBy p typings x.state) where
  after_sound : (k : ℕ) → ((j : ℕ) → j < k → MakesFew p (after p (lawful choose) j x).state) → IsSoundBy p typings (after p (lawful choose) k x).state
  unfolding after
  after_sound zero few = sound
  after_sound (suc k) few =
      let before : IsSoundBy p typings (after p (lawful choose) k x).state = after_sound k (λ j less. few j (omega (arith, less))) in
      step_sound p typings ready choose (after p (lawful choose) k x).state before
      (λ running. next_acts_fit p typings ready made (after p (lawful choose) k x).state before (few k (omega arith)))

-- while no object has more words than `fmrun` allows at most, whatever the budget is
pub sound_while_few : (p : Program) (typings : Typings) → AreTyped p typings → StepsAreResolved p → MakesAreResolved p → MainIsReady p → (choose : Choose)
    (job : Job) → ArgumentsFit job.arguments → (budget : ℕ) (limit : Option ℕ) (free : List (List ℕ)) (k : ℕ)
    → MakesFewBefore p (lawful choose) job (opened budget limit free) k
    → IsSoundBy p typings (after p (lawful choose) k (opening p (lawful choose) job (opened budget limit free))).state
sound_while_few p typings typed ready made main choose job given budget limit free k few =
    after_sound p typings ready made choose (opening p (lawful choose) job (opened budget limit free))
    (opening_sound p typings typed ready main choose job budget limit free (record {
      opening = opening_fits p made.makeable (opened budget limit free) no_frame job given;
      start = start_alone p made.makeable made.constants (opened budget limit free) no_frame;
    })) k few

pub runs_sound : (p : Program) (typings : Typings) → AreTyped p typings → StepsAreResolved p → MakesAreResolved p → MainIsReady p → (choose : Choose)
    (job : Job) → ArgumentsFit job.arguments → (budget : ℕ) (limit : Option ℕ) (free : List (List ℕ)) → budget ≤ MAX_LIVE_WORDS → (k : ℕ)
    → IsSoundBy p typings (after p (lawful choose) k (opening p (lawful choose) job (opened budget limit free))).state
runs_sound p typings typed ready made main choose job given budget limit free few k =
    sound_while_few p typings typed ready made main choose job given budget limit free k
    (λ j less. run_makes_few p (lawful choose) job (opened budget limit free) few j)
