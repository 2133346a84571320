-- The opening of a run is within closed sets, and so is each state after it.
use Rattle.std.proofs.Common.{◌≡◌, ℕ, zero, suc, ◌+◌, nat_lt, cond, codes, Bool, true, false, List, [], ◌∷◌, length, Option, Some, slice_index_or, arith}
use Rattle.std.specs.FinMap.{gets}
use Rattle.std.specs.List.{AllByRecursion}
use Rattle.std.proofs.lemmas.Bool.Decides.{nat_tests}
use Rattle.fm_cells.specs.Choices.{lawful}
use Rattle.fm_cells.specs.Objects.{Object}
use Rattle.fm_cells.specs.Stores.{object_at, opened, Store}
use Rattle.fm_frames.specs.Acts.{Choose, Did, FullAt, LostAt, performed, Performed}
use Rattle.fm_frames.specs.Effects.{Action}
use Rattle.fm_frames.specs.Runs.{after, after_action, argument_actions, arguments_type, first_areas, framed, Job, opened_by, opening, opening_actions, opening_frames, unopened, with_streams}
use Rattle.fm_frames.specs.Starts.{start_actions, start_methods, to_start}
use Rattle.fm_frames.specs.States.{Frame, Moved, ref, State}
use Rattle.fm_frames.specs.Steps.{is_over, new_frame, stopped}
use Rattle.fm_frames.specs.declared.ends.Ended.TheVariants as end
use Rattle.fm_law_reached.proofs.ActsHold.{acts_hold, LeavesHeld}
use Rattle.fm_law_reached.proofs.MadeTypes.{array_number, input_known, MakesMade, named_made, number_made, output_known, text_is_made}
use Rattle.fm_law_reached.proofs.Steps.{OfMade, start_acts, starts_in, starts_within, step_stays}
use Rattle.fm_law_reached.specs.Laws.{IsReady, RunsStayInReach}
use Rattle.fm_law_reached.specs.Reached.{HoldsMade, IsInReach}
use Rattle.fm_law_sound.proofs.RunsSound.{sound_while_few}
use Rattle.fm_law_sound.specs.Laws.{MakesFewBefore}
use Rattle.fm_law_sound.specs.Making.{ArgumentsFit}
use Rattle.fm_law_sound.specs.Resolved.{MainIsReady}
use Rattle.fm_law_sound.specs.Sound.{AreTyped, Typings}
use Rattle.fm_rapid.specs.Reach.{IsClosed}
use Rattle.fm_types.specs.Named.{built_in_type}
use Rattle.fm_world.specs.Programs.{Outline, Program}

module _ (p : Program) (ready : IsReady p) (methods made : List Bool) (closed : IsClosed p methods made) where
  abbrev o : Outline
  o = p.outline

  abbrev R : State → Type 0
  R x = IsInReach o methods made x

  -- ---- what the opening makes

  arguments_make : (place : ℕ) (texts : List (List ℕ)) → AllByRecursion (MakesMade o made) (argument_actions o place texts)
  arguments_make place [] = tt
  arguments_make place (text ∷ texts) =
      (text_is_made p ready.makes.makeable made closed.built_in, (tt, arguments_make (place + 1) texts))

  opening_makes : (job : Job) → AllByRecursion (MakesMade o made) (opening_actions o job)
  unfolding opening_actions
  opening_makes job =
      let runnable = ready.makes.makeable.runnable in (
        number_made p ready.makes.makeable made closed.built_in (built_in_type o (codes "java/io/PrintStream"))
            (named_made p runnable made closed.built_in (codes "java/io/PrintStream") output_known),
        (
          number_made p ready.makes.makeable made closed.built_in (built_in_type o (codes "java/io/InputStream"))
              (named_made p runnable made closed.built_in (codes "java/io/InputStream") input_known),
          (
            array_number p ready.makes.makeable made closed.built_in (arguments_type o) (omega arith),
            arguments_make 0 job.arguments,
          ),
        ),
      )

  -- ---- its actions, each by itself

  either_state : (b : Bool) (one other : State) → R one → R other → R (cond b one other)
  either_state true one other first second = first
  either_state false one other first second = second

  performed_in : (x : State) (r : Performed) (follows : State → List ℕ → State) → R x → LeavesHeld (OfMade p methods made) r
      → ((y : State) (cells : List ℕ) → R y → R (follows y cells)) → R (after_action x r follows)
  performed_in x (Did areas cells) follows within held each = each (record x { areas = areas }) cells (record { frames = within.frames; objects = held })
  performed_in x (FullAt areas needed) follows within held each = record { frames = within.frames; objects = held }
  performed_in x (LostAt v) follows within held each = within

  opened_in : (choose : Choose) (actions : List Action) (x : State) (cells : List ℕ) (follows : State → List ℕ → State)
      → AllByRecursion (MakesMade o made) actions → R x → ((y : State) (later : List ℕ) → R y → R (follows y later))
      → R (opened_by p choose actions x cells follows)
  opened_in choose [] x cells follows all within each = each x cells within
  opened_in choose (action ∷ more) x cells follows all within each =
      either_state (is_over o x.areas (action ∷ [])) (stopped x _) _ (record { frames = within.frames; objects = within.objects })
      (performed_in x (performed o choose [] [] (action ∷ []) x.areas cells) (λ y later. opened_by p choose more y later follows) within
      (acts_hold (OfMade p methods made) o choose [] [] (action ∷ []) x.areas cells (all.0, tt) within.objects)
      (λ y later h. opened_in choose more y later follows all.1 h each))

  framed_in : (y : State) (started : List Bool) (cell : ℕ) → HoldsMade o made y.areas.store
      → R (framed y (opening_frames p (start_methods o (to_start o started o.main_class)) cell))
  framed_in y started cell holds =
      let starts : List ℕ = start_methods o (to_start o started o.main_class) in
      let frames : List Frame = opening_frames p starts cell in
      either_state (nat_lt y.depth (length frames)) (stopped (record y { frames = [] }) (end.TooDeep 1)) (record y { frames = frames })
      (record { frames = tt; objects = holds })
      (record {
        frames = starts_in p methods made starts (new_frame p o.main (ref cell ∷ []) ∷ [])
            (starts_within o methods started o.main_class closed.opening) (closed.main, tt);
        objects = holds;
      })

  nothing_held : (budget : ℕ) (limit : Option ℕ) (free : List (List ℕ)) → HoldsMade o made (opened budget limit free)
  nothing_held budget limit free = λ cell object held. absurd (empty cell object held) where
    empty : (cell : ℕ) (object : Object) → object_at (opened budget limit free) cell ≡ Some object → ⊥
    empty cell object held = grind (arith, gets, nat_tests)

  abbrev last_frames : List Bool → List ℕ → State → List ℕ → State
  last_frames started cells y later = framed y (opening_frames p (start_methods o (to_start o started o.main_class)) (slice_index_or cells 2 0))

  abbrev main_started : Choose → List Bool → State → List ℕ → State
  main_started choose started x cells =
      opened_by p choose (start_actions o (to_start o started o.main_class)) (record x { areas = with_streams x.areas cells }) cells (last_frames started cells)

  pub opening_in : (choose : Choose) (job : Job) (budget : ℕ) (limit : Option ℕ) (free : List (List ℕ)) → R (opening p choose job (opened budget limit free)).state
  unfolding opening
  opening_in choose job budget limit free =
      let store : Store = opened budget limit free in
      let started : List Bool = (first_areas o store).started in
      opened_in choose (opening_actions o job) (unopened p job (first_areas o store)) [] (main_started choose started) (opening_makes job)
      (record { frames = tt; objects = nothing_held budget limit free })
      (λ x cells within.
      opened_in choose (start_actions o (to_start o started o.main_class)) (record x { areas = with_streams x.areas cells }) cells (last_frames started cells)
      (start_acts p ready.makes.makeable methods made closed.built_in (to_start o started o.main_class))
      (record { frames = within.frames; objects = within.objects })
      (λ y later h. framed_in y started (slice_index_or cells 2 0) h.objects))

  -- ---- a run

  module _ (typings : Typings) (typed : AreTyped p typings) (main : MainIsReady p) (choose : Choose) (job : Job) (given : ArgumentsFit job.arguments)
      (budget : ℕ) (limit : Option ℕ) (free : List (List ℕ)) where
    abbrev first : Moved
    first = opening p (lawful choose) job (opened budget limit free)

    run_in : (k : ℕ) → MakesFewBefore p (lawful choose) job (opened budget limit free) k → R (after p (lawful choose) k first).state
    unfolding after
    run_in zero few = opening_in (lawful choose) job budget limit free
    run_in (suc k) few =
        step_stays p typings ready methods made closed (lawful choose) (after p (lawful choose) k first).state
        (sound_while_few p typings typed ready.steps ready.makes main choose job given budget limit free k (λ j less. few j (omega (arith, less))))
        (run_in k (λ j less. few j (omega (arith, less))))

pub runs_stay : RunsStayInReach
runs_stay p typings typed ready main methods made closed choose job given budget limit free k few =
    run_in p ready methods made closed typings typed main choose job given budget limit free k few
