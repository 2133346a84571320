-- What holds of a state from which a run goes on holds of the one after its step, and of the opening.
use Rattle.std.proofs.Common.{◌≡◌, ℕ, ◌≤◌, List, Option, sym, subst}
use Rattle.fm_base.specs.declared.limits.TheConstants.{MAX_LIVE_WORDS}
use Rattle.fm_cells.proofs.Choices.{lawful-is}
use Rattle.fm_cells.specs.Choices.{IsLawful, lawful}
use Rattle.fm_cells.specs.Soundness.{CellsFit}
use Rattle.fm_cells.specs.Soundness as cells
use Rattle.fm_cells.specs.Stores.{opened, Store}
use Rattle.fm_frames.specs.Acts.{Choose}
use Rattle.fm_frames.specs.Runs.{Job, opening}
use Rattle.fm_frames.specs.States.{State}
use Rattle.fm_frames.specs.Steps.{step}
use Rattle.fm_law_can_step.specs.Ready.{CanRun}
use Rattle.fm_law_sound.proofs.Budgets.{opening_budget, step_budget}
use Rattle.fm_law_sound.proofs.NextActs.{next_acts_fit}
use Rattle.fm_law_sound.proofs.Opening.{opening_sound}
use Rattle.fm_law_sound.proofs.OpeningActs.{opening_fits}
use Rattle.fm_law_sound.proofs.OpeningCells.{opening_holds}
use Rattle.fm_law_sound.proofs.RunsSound.{makes_few}
use Rattle.fm_law_sound.proofs.StartActs.{start_alone}
use Rattle.fm_law_sound.proofs.StepCells.{step_holds}
use Rattle.fm_law_sound.proofs.StepsSound.{step_sound}
use Rattle.fm_law_sound.specs.HeldCells.{HoldsCells}
use Rattle.fm_law_sound.specs.Laws.{no_frame}
use Rattle.fm_law_sound.specs.Making.{ArgumentsFit, MakesFew}
use Rattle.fm_law_sound.specs.Sound.{AreTyped, IsSound, IsSoundBy, Typings}
use Rattle.fm_world.specs.Programs.{Program}

-- a step keeps a state sound, whose cells are numbers of 32 bits
pub steady : (p : Program) (x : State) (choose : Choose) → IsLawful choose → CanRun p → IsSound p x → HoldsCells p x
    → CellsFit (step p choose x).state.areas.store → IsSound p (step p choose x).state × HoldsCells p (step p choose x).state
steady p x choose may can sound cells fit =
    let typings : Typings = sound.0 in
    let same : lawful choose ≡ choose = lawful-is choose may in
    let few : MakesFew p x = makes_few p x sound.2 in
    let next : IsSoundBy p typings (step p choose x).state =
    subst (λ c. IsSoundBy p typings (step p c x).state) same
    (step_sound p typings can.steps choose x sound.1 (λ goes. next_acts_fit p typings can.steps can.makes x sound.1 few)) in
    let held : HoldsCells p (step p choose x).state =
    subst (λ c. HoldsCells p (step p c x).state) same
    (step_holds p typings can.steps can.makes choose x sound.1 few cells (subst (λ c. CellsFit (step p c x).state.areas.store) (sym same) fit)) in
    ((typings, next, subst (λ n. n ≤ MAX_LIVE_WORDS) (sym (step_budget p choose x)) sound.2), held)

-- the opening leads to such a state
pub opened_steady : (p : Program) (typings : Typings) (choose : Choose) (job : Job) → IsLawful choose → CanRun p → AreTyped p typings
    → ArgumentsFit job.arguments → (budget : ℕ) (limit : Option ℕ) (free : List (List ℕ)) → budget ≤ MAX_LIVE_WORDS
    → CellsFit (opening p choose job (opened budget limit free)).state.areas.store
    → IsSound p (opening p choose job (opened budget limit free)).state × HoldsCells p (opening p choose job (opened budget limit free)).state
opened_steady p typings choose job may can typed given budget limit free few fit =
    let same : lawful choose ≡ choose = lawful-is choose may in
    let first : IsSoundBy p typings (opening p choose job (opened budget limit free)).state =
    subst (λ c. IsSoundBy p typings (opening p c job (opened budget limit free)).state) same
    (opening_sound p typings typed can.steps can.main choose job budget limit free (record {
      opening = opening_fits p can.makes.makeable (opened budget limit free) no_frame job given;
      start = start_alone p can.makes.makeable can.makes.constants (opened budget limit free) no_frame;
    })) in
    let held : HoldsCells p (opening p choose job (opened budget limit free)).state =
    subst (λ c. HoldsCells p (opening p c job (opened budget limit free)).state) same
    (opening_holds p can.steps can.makes choose job given budget limit free
    (subst (λ c. CellsFit (opening p c job (opened budget limit free)).state.areas.store) (sym same) fit)) in
    ((typings, first, subst (λ n. n ≤ MAX_LIVE_WORDS) (sym (opening_budget p choose job (opened budget limit free))) few), held)

-- and so it does over each memory in which nothing was made
pub opened_first : (p : Program) (typings : Typings) (choose : Choose) (job : Job) (store : Store) → IsLawful choose → CanRun p → AreTyped p typings
    → ArgumentsFit job.arguments → cells.IsSound store → store.births ≡ 0 → store.budget ≤ MAX_LIVE_WORDS
    → CellsFit (opening p choose job store).state.areas.store
    → IsSound p (opening p choose job store).state × HoldsCells p (opening p choose job store).state
opened_first p typings choose job store may can typed given sound none few fit =
    let same : store ≡ opened store.budget store.limit store.free = sound.untouched none in
    let first = opened_steady p typings choose job may can typed given store.budget store.limit store.free few
    (subst (λ s. CellsFit (opening p choose job s).state.areas.store) same fit) in (
      subst (λ s. IsSound p (opening p choose job s).state) (sym same) first.0,
      subst (λ s. HoldsCells p (opening p choose job s).state) (sym same) first.1,
    )
