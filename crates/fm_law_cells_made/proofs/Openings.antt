-- The opening of a run lets the cells of each size class grow: it frees nothing.
use Rattle.std.proofs.Common.{ℕ, ◌+◌, Bool, true, false, cond, nat_lt, List, [], ◌∷◌, length, slice_index_or}
use Rattle.std.specs.List.{AllByRecursion}
use Rattle.fm_cells.specs.Soundness.{IsLastReused}
use Rattle.fm_cells.specs.Stores.{Store}
use Rattle.fm_world.specs.Programs.{Outline, Program}
use Rattle.fm_frames.specs.Acts.{Did, FullAt, LostAt, performed, Performed}
use Rattle.fm_frames.specs.Effects.{Action}
use Rattle.fm_frames.specs.Runs.{after_action, argument_actions, first_areas, Job, opened_by, opening, opening_actions, opening_frames, unopened, with_streams}
use Rattle.fm_frames.specs.Starts.{start_actions, start_methods, to_start}
use Rattle.fm_frames.specs.States.{Frame, State}
use Rattle.fm_frames.specs.Steps.{is_over}
use Rattle.fm_law_cells_made.proofs.Acts.{acts_grow, choice, IsGrowing, LeadsBy, own_content}
use Rattle.fm_law_cells_made.proofs.Counts.{Grows, same_grows}
use Rattle.fm_law_cells_made.proofs.Steps.{starts_grow}

arguments_grow : (o : Outline) (place : ℕ) (texts : List (List ℕ)) → AllByRecursion IsGrowing (argument_actions o place texts)
arguments_grow o place [] = tt
arguments_grow o place (text ∷ texts) = (own_content text, (tt, arguments_grow o (place + 1) texts))

opening_grows : (o : Outline) (job : Job) → AllByRecursion IsGrowing (opening_actions o job)
unfolding opening_actions
opening_grows o job = (tt, (tt, (tt, arguments_grow o 0 job.arguments)))

module _ (p : Program) (store : Store) where
  -- what follows lets them grow, wherever the actions led
  abbrev GoesOn : (State → List ℕ → State) → Type 0
  GoesOn follows = (x : State) (made : List ℕ) → Grows store x.areas.store → Grows store (follows x made).areas.store

  either_grows : (b : Bool) (one other : State) → Grows store one.areas.store → Grows store other.areas.store → Grows store (cond b one other).areas.store
  either_grows true one other first second = first
  either_grows false one other first second = second

  after_grows : (x : State) (result : Performed) (follows : State → List ℕ → State) → Grows store x.areas.store → LeadsBy Grows store result → GoesOn follows
      → Grows store (after_action x result follows).areas.store
  after_grows x (Did areas made) follows h leads goes = goes (record x { areas = areas }) made leads
  after_grows x (FullAt areas needed) follows h leads goes = leads
  after_grows x (LostAt v) follows h leads goes = h

  opened_grow : (actions : List Action) (x : State) (made : List ℕ) (follows : State → List ℕ → State) → AllByRecursion IsGrowing actions
      → Grows store x.areas.store → GoesOn follows → Grows store (opened_by p choice actions x made follows).areas.store
  opened_grow [] x made follows all h goes = goes x made h
  opened_grow (action ∷ more) x made follows all h goes =
      either_grows (is_over p.outline x.areas (action ∷ [])) _ _ h
      (after_grows x (performed p.outline choice [] [] (action ∷ []) x.areas made) (λ y cells. opened_by p choice more y cells follows) h
      (acts_grow p.outline [] [] store (action ∷ []) x.areas made (all.0, tt) h)
      (λ y cells grown. opened_grow more y cells follows all.1 grown goes))

  pub opening_follows : (job : Job) → IsLastReused store → Grows store (opening p choice job store).state.areas.store
  unfolding opening
  opening_follows job last =
      let o : Outline = p.outline in
      let classes : List ℕ = to_start o (first_areas o store).started o.main_class in
      opened_grow (opening_actions o job) (unopened p job (first_areas o store)) [] _ (opening_grows o job) (same_grows store last)
      (λ x made grown. opened_grow (start_actions o classes) (record x { areas = with_streams x.areas made }) made _ (starts_grow o classes) grown
      (λ y cells later.
      let frames : List Frame = opening_frames p (start_methods o classes) (slice_index_or made 2 0) in
      either_grows (nat_lt y.depth (length frames)) _ _ later later))
