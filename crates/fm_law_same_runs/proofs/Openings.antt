-- The runs of one job: each state is the step of the one before, and at the opening nothing is counted or printed.
use Rattle.std.proofs.Common.{◌≡◌, ℕ, suc, Bool, true, false, List, [], ◌∷◌, nat_lt, length, None, refl, Some, if◌then◌else◌}
use Rattle.std.specs.List.{slice_index_or}
use Rattle.fm_base.specs.declared.limits.TheConstants.{MAX_MADE_WORDS}
use Rattle.fm_cells.specs.Choices.{lawful, never_choice}
use Rattle.fm_cells.specs.Stores.{opened, Store}
use Rattle.fm_world.specs.Programs.{Outline, Program}
use Rattle.fm_frames.specs.Acts.{Choose, performed, Performed, Did, FullAt, LostAt}
use Rattle.fm_frames.specs.Effects.{Action}
use Rattle.fm_frames.specs.Runs.{after, after_action, first_areas, Job, opened_by, opening, opening_actions, opening_frames, unopened, with_streams}
use Rattle.fm_frames.specs.Starts.{start_actions, start_methods, to_start}
use Rattle.fm_frames.specs.States.{Frame, Moved, State}
use Rattle.fm_frames.specs.Steps.{is_over, step}
use Rattle.fm_law_same_runs.specs.Laws.{RunsGoBySteps}

-- ---- a run

-- a state of a run is the step of the one before
after_goes : (p : Program) (choose : Choose) (start : Moved) (k : ℕ) → (after p choose (suc k) start).state ≡ (step p choose (after p choose k start).state).state
unfolding after
after_goes p choose start k = refl

-- ---- its opening

-- no step is counted
abbrev IsUncounted : State → Type 0
IsUncounted x = x.steps ≡ 0

-- what follows counts none
abbrev CountsNone : (State → List ℕ → State) → Type 0
CountsNone follows = (x : State) (made : List ℕ) → IsUncounted x → IsUncounted (follows x made)

either : (test : Bool) (x y : State) → IsUncounted x → IsUncounted y → IsUncounted (if test then x else y)
either true x y one other = one
either false x y one other = other

acted : (x : State) (result : Performed) (follows : State → List ℕ → State) → CountsNone follows → IsUncounted x → IsUncounted (after_action x result follows)
acted x (Did areas made) follows goes none = goes (record x { areas = areas }) made none
acted x (FullAt areas needed) follows goes none = none
acted x (LostAt v) follows goes none = none

module _ (p : Program) (choose : Choose) where
  opened_uncounted : (actions : List Action) (x : State) (made : List ℕ) (follows : State → List ℕ → State) → CountsNone follows → IsUncounted x
      → IsUncounted (opened_by p choose actions x made follows)
  opened_uncounted [] x made follows goes none = goes x made none
  opened_uncounted (action ∷ more) x made follows goes none =
      either (is_over p.outline x.areas (action ∷ [])) _ _ none
      (acted x (performed p.outline choose [] [] (action ∷ []) x.areas made) (λ y cells. opened_by p choose more y cells follows)
      (λ y cells still. opened_uncounted more y cells follows goes still) none)

  opening_uncounted : (job : Job) (store : Store) → IsUncounted (opening p choose job store).state
  unfolding opening
  opening_uncounted job store =
      let o : Outline = p.outline in
      let classes : List ℕ = to_start o (first_areas o store).started o.main_class in
      opened_uncounted (opening_actions o job) (unopened p job (first_areas o store)) [] _
      (λ x made none. opened_uncounted (start_actions o classes) (record x { areas = with_streams x.areas made }) made _
      (λ y cells still.
      let frames : List Frame = opening_frames p (start_methods o classes) (slice_index_or made 2 0) in
      either (nat_lt y.depth (length frames)) _ _ still still) none) refl

  opening_prints : (job : Job) (store : Store) → (opening p choose job store).printed ≡ []
  unfolding opening
  opening_prints job store = refl

  -- the first state of a run
  first_uncounted : (job : Job) (store : Store) → IsUncounted (after p choose 0 (opening p choose job store)).state
  unfolding after
  first_uncounted job store = opening_uncounted job store

  first_prints : (job : Job) (store : Store) → (after p choose 0 (opening p choose job store)).printed ≡ []
  unfolding after
  first_prints job store = opening_prints job store

pub runs_go : RunsGoBySteps
runs_go one other marks steps words other_words job choose free = record {
  first_goes = after_goes one (lawful never_choice) (opening one (lawful never_choice) job (opened words None []));
  second_goes = after_goes other (lawful choose) (opening other (lawful choose) job (opened other_words (Some MAX_MADE_WORDS) free));
  first_steps = first_uncounted one (lawful never_choice) job (opened words None []);
  second_steps = first_uncounted other (lawful choose) job (opened other_words (Some MAX_MADE_WORDS) free);
  first_printed = first_prints one (lawful never_choice) job (opened words None []);
  second_printed = first_prints other (lawful choose) job (opened other_words (Some MAX_MADE_WORDS) free);
}
