-- At the opening each frame is at its first item, so no place is one of an object that isn't initialised.
use Rattle.std.proofs.Common.{◌≡◌, ℕ, nat_lt, cond, Bool, true, false, List, [], ◌∷◌, ◌++◌, length, refl, slice_index_or, ⊎_elim}
use Rattle.std.specs.List.{AllByRecursion}
use Rattle.fm_cells.specs.Choices.{lawful}
use Rattle.fm_cells.specs.Stores.{Store}
use Rattle.fm_world.specs.Programs.{Program}
use Rattle.fm_frames.specs.Acts.{Choose, Did, FullAt, LostAt, performed, Performed}
use Rattle.fm_frames.specs.Effects.{Action}
use Rattle.fm_frames.specs.Runs.{after_action, first_areas, framed, Job, opened_by, opening, opening_actions, opening_frames, unopened, with_streams}
use Rattle.fm_frames.specs.Starts.{start_actions, start_methods, to_start}
use Rattle.fm_frames.specs.States.{Frame, ref, State}
use Rattle.fm_frames.specs.Steps.{is_over, new_frame, start_frames, stopped}
use Rattle.fm_frames.specs.declared.ends.Ended.TheVariants as end
use Rattle.fm_law_sound.specs.Sound.{AreTyped, Calling, IsSoundBy, Stand, StandBelow, Starting, Typings}
use Rattle.fm_law_holders.specs.Uninitialised.{AreMade, FrameIsMade, Made}
use Rattle.fm_law_holders.proofs.FramesMade.{begun_made}

-- the frame is at its first item, with no word
abbrev HasBegun : Frame → Type 0
HasBegun f = (f.item ≡ 0) × (f.stack ≡ [])

abbrev HaveBegun : State → Type 0
HaveBegun x = AllByRecursion HasBegun x.frames

-- ---- the frames of the opening

either_begun : (b : Bool) (one other : State) → HaveBegun one → HaveBegun other → HaveBegun (cond b one other)
either_begun true one other first second = first
either_begun false one other first second = second

starts_begin : (p : Program) (methods : List ℕ) (frames : List Frame) → AllByRecursion HasBegun frames
    → AllByRecursion HasBegun (start_frames p methods ++ frames)
starts_begin p [] frames h = h
starts_begin p (m ∷ methods) frames h = ((refl, refl), starts_begin p methods frames h)

module _ (p : Program) (choose : Choose) where
  performed_begun : (x : State) (r : Performed) (follows : State → List ℕ → State) → HaveBegun x
      → ((y : State) (cells : List ℕ) → HaveBegun y → HaveBegun (follows y cells)) → HaveBegun (after_action x r follows)
  performed_begun x (Did areas made) follows begun each = each (record x { areas = areas }) made begun
  performed_begun x (FullAt areas needed) follows begun each = begun
  performed_begun x (LostAt v) follows begun each = begun

  opened_begun : (actions : List Action) (x : State) (made : List ℕ) (follows : State → List ℕ → State) → HaveBegun x
      → ((y : State) (cells : List ℕ) → HaveBegun y → HaveBegun (follows y cells)) → HaveBegun (opened_by p choose actions x made follows)
  opened_begun [] x made follows begun each = each x made begun
  opened_begun (action ∷ more) x made follows begun each =
      either_begun (is_over p.outline x.areas (action ∷ [])) (stopped x _) _ begun
      (performed_begun x (performed p.outline choose [] [] (action ∷ []) x.areas made) (λ y cells. opened_by p choose more y cells follows) begun
      (λ y cells later. opened_begun more y cells follows later each))

  framed_begun : (y : State) (classes : List ℕ) (cell : ℕ) → HaveBegun (framed y (opening_frames p (start_methods p.outline classes) cell))
  framed_begun y classes cell =
      let frames : List Frame = opening_frames p (start_methods p.outline classes) cell in
      either_begun (nat_lt y.depth (length frames)) (stopped (record y { frames = [] }) (end.TooDeep 1)) (record y { frames = frames }) tt
      (starts_begin p (start_methods p.outline classes) (new_frame p p.outline.main (ref cell ∷ []) ∷ []) ((refl, refl), tt))

  abbrev last_frames : List ℕ → List ℕ → State → List ℕ → State
  last_frames classes made y cells = framed y (opening_frames p (start_methods p.outline classes) (slice_index_or made 2 0))

  abbrev main_started : List ℕ → State → List ℕ → State
  main_started classes x made =
      opened_by p choose (start_actions p.outline classes) (record x { areas = with_streams x.areas made }) made (last_frames classes made)

  opening_begun : (job : Job) (store : Store) → HaveBegun (opening p choose job store).state
  unfolding opening
  opening_begun job store =
      let classes : List ℕ = to_start p.outline (first_areas p.outline store).started p.outline.main_class in
      opened_begun (opening_actions p.outline job) (unopened p job (first_areas p.outline store)) [] (main_started classes) tt
      (λ x made begun. opened_begun (start_actions p.outline classes) (record x { areas = with_streams x.areas made }) made (last_frames classes made) begun
      (λ y cells later. framed_begun y classes (slice_index_or made 2 0)))

-- ---- frames that have begun

module _ (p : Program) (typings : Typings) (typed : AreTyped p typings) (store : Store) (made : Made) where
  below_made : (f : Frame) (callers : List Frame) → StandBelow p typings f callers → AllByRecursion HasBegun callers
      → AllByRecursion (FrameIsMade typings store made) callers
  below_made f [] below begun = tt
  below_made f (g ∷ callers) below begun = (
    ⊎_elim
        (λ (call : Calling p typings f g). begun_made p typings typed store made g call.words begun.0.0 begun.0.1 call.stands)
        (λ (start : Starting p typings f g). begun_made p typings typed store made g 0 begun.0.0 begun.0.1 start.stands)
        below.0,
    below_made g callers below.1 begun.1,
  )

  all_made : (frames : List Frame) → Stand p typings frames → AllByRecursion HasBegun frames → AllByRecursion (FrameIsMade typings store made) frames
  all_made [] stand begun = tt
  all_made (f ∷ callers) stand begun =
      (begun_made p typings typed store made f 0 begun.0.0 begun.0.1 stand.0, below_made f callers stand.1 begun.1)

pub opening_made : (p : Program) (typings : Typings) (choose : Choose) (job : Job) (store : Store) (made : Made)
    → IsSoundBy p typings (opening p (lawful choose) job store).state → AreMade typings (opening p (lawful choose) job store).state made
opening_made p typings choose job store made sound =
    all_made p typings sound.typed (opening p (lawful choose) job store).state.areas.store made (opening p (lawful choose) job store).state.frames sound.frames
    (opening_begun p (lawful choose) job store)
