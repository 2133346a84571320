-- The opening as a whole: what is there before it, main's frame, and the frames that its class's start needs.
use Rattle.std.proofs.Common.{◌≡◌, ℕ, ◌+◌, ◌<◌, ◌≤◌, Bool, true, false, nat_lt, if◌then◌else◌, List, [], ◌∷◌, ◌++◌, length, length-append, map, drop, replicate, None, Some, refl, ap, sym, ◌∙◌, arith, zero, suc}
use Rattle.std.proofs.lemmas.Bool.{le-ltb, lt-ltb}
use Rattle.std.proofs.lemmas.List.{length-map}
use Rattle.std.specs.List.{slice_index_or}
use Rattle.fm_cells.specs.Stores.{Store}
use Rattle.fm_cells.specs.declared.answers.Cell.{Cell}
use Rattle.fm_frames.specs.Acts.{Choose}
use Rattle.fm_frames.specs.Literals.{literal_count}
use Rattle.fm_frames.specs.Runs.{first_areas, first_statics, framed, Job, opened_by, opening, opening_actions, opening_frames, unopened, with_streams}
use Rattle.fm_frames.specs.Starts.{start_actions, start_methods, to_start}
use Rattle.fm_frames.specs.States.{Frame, ref, State}
use Rattle.fm_frames.specs.Steps.{max_locals_of, new_frame, start_frames, stopped}
use Rattle.fm_frames.specs.declared.actions.StartAction.{StartAction}
use Rattle.fm_frames.specs.declared.ends.Ended.TheVariants as end
use Rattle.fm_frames.specs.declared.values.Value.{Value}
use Rattle.fm_frames.specs.inner.Frames.{main_frame}
use Rattle.fm_frames.specs.inner.Opening.{opening_classes, OpensAll, OpensMain, OpensObjects}
use Rattle.fm_frames.specs.inner.StartActions.{action_of}
use Rattle.fm_world.specs.Programs.{Program}

-- ---- main's frame

abbrev framed_by : State → List Frame → Bool → State
framed_by x frames deep = if deep then stopped (record x { frames = [] }) (end.TooDeep 1) else record x { frames = frames }

frames_count : (p : Program) (methods : List ℕ) (array : ℕ) → length (opening_frames p methods array) ≡ length methods + 1
frames_count p methods array =
    length-append (start_frames p methods) (new_frame p p.outline.main (ref array ∷ []) ∷ [])
    ∙ ap (λ n. n + 1) (length-map methods (λ method. new_frame p method []))

module _ (p : Program) (choose : Choose) (x y : State) (classes : List ℕ) (actions : List StartAction) (array : ℕ)
    (same : map action_of actions ≡ start_actions p.outline classes) where
  pub main-ended : OpensAll p choose x y (map action_of actions) false → OpensMain p choose x y classes array
  main-ended told cells at =
      let frames = opening_frames p (start_methods p.outline classes) (slice_index_or cells 2 0) in
      ap (λ all. opened_by p choose all x cells (λ z made. framed_by z frames (nat_lt z.depth (length frames)))) (sym same)
      ∙ told cells (λ z made. framed_by z frames (nat_lt z.depth (length frames)))

  pub main-deep : OpensAll p choose x y (map action_of actions) true → (count : ℕ) → count ≡ length (start_methods p.outline classes) → y.depth ≤ count
      → (z : State) → z ≡ stopped (record y { frames = [] }) (end.TooDeep 1) → OpensMain p choose x z classes array
  main-deep told count many deep z is cells at =
      let frames = opening_frames p (start_methods p.outline classes) (slice_index_or cells 2 0) in
      let long = frames_count p (start_methods p.outline classes) (slice_index_or cells 2 0) in
      ap (λ all. opened_by p choose all x cells (λ z made. framed_by z frames (nat_lt z.depth (length frames)))) (sym same)
      ∙ told cells (λ z made. framed_by z frames (nat_lt z.depth (length frames)))
      ∙ ap (framed_by y frames) (lt-ltb y.depth (length frames) (omega (arith, long, many, deep))) ∙ sym is

  pub main-begun : OpensAll p choose x y (map action_of actions) true → (count : ℕ) → count ≡ length (start_methods p.outline classes) → count < y.depth
      → (max_locals : ℕ) → max_locals ≡ max_locals_of p p.outline.main → (begun z : State)
      → begun ≡ record y { frames = main_frame p.outline.main max_locals (ref array) ∷ [] }
      → z ≡ record begun { frames = start_frames p (start_methods p.outline classes) ++ begun.frames } → OpensMain p choose x z classes array
  main-begun told count many room max_locals locals begun z main_is is cells at =
      let methods = start_methods p.outline classes in
      let frames = opening_frames p methods (slice_index_or cells 2 0) in
      let long = frames_count p methods (slice_index_or cells 2 0) in
      ap (λ all. opened_by p choose all x cells (λ z made. framed_by z frames (nat_lt z.depth (length frames)))) (sym same)
      ∙ told cells (λ z made. framed_by z frames (nat_lt z.depth (length frames)))
      ∙ ap (framed_by y frames) (le-ltb y.depth (length frames) (omega (arith, long, many, room)))
      ∙ (λ i. record y { frames = start_frames p methods ++ main_frame p.outline.main (sym locals i) (ref (at i)) ∷ [] })
      ∙ sym (is ∙ ap (λ (begun : State). record begun { frames = start_frames p methods ++ begun.frames }) main_is)

-- ---- before it

no_literals : (count : ℕ) → map (λ (c : Cell). c.0) (replicate count (record { 0 = 0 })) ≡ replicate count 0
no_literals zero = refl
no_literals (suc count) = ap (λ cells. 0 ∷ cells) (no_literals count)

none_started : {A : Type 0} (classes : List A) → replicate (length classes) false ≡ map (λ class. false) classes
none_started [] = refl
none_started (c ∷ classes) = ap (λ marks. false ∷ marks) (none_started classes)

pub unopened-is : (p : Program) (job : Job) (store : Store) (frames : List Frame) (statics : List Value) (started : List Bool) (literals : List Cell) (bytes : List ℕ) (depth : ℕ)
    → frames ≡ [] → statics ≡ first_statics p.outline → started ≡ replicate (length p.outline.classes) false → literals ≡ replicate (literal_count p.outline) (record { 0 = 0 })
    → bytes ≡ job.input → depth ≡ job.depth
    → ◌≡◌ {A = State} (record {
      frames = frames;
      areas = record {
        store = store;
        statics = statics;
        literals = map (λ (cell : Cell). cell.0) literals;
        started = started;
        frees = 0;
        freed_words = 0;
      };
      input = drop 0 bytes;
      depth = depth;
      steps = 0;
      ended = None;
    }) (unopened p job (first_areas p.outline store))
unopened-is p job store frames statics started literals bytes depth alone first none unmade read most = λ i. record {
  frames = alone i;
  areas = record {
    store = store;
    statics = first i;
    literals = (ap (map (λ (cell : Cell). cell.0)) unmade ∙ no_literals (literal_count p.outline)) i;
    started = (none ∙ none_started p.outline.classes) i;
    frees = 0;
    freed_words = 0;
  };
  input = drop 0 (read i);
  depth = most i;
  steps = 0;
  ended = None;
}

-- ---- the whole

abbrev then_main : Program → Choose → List ℕ → State → List ℕ → State
then_main p choose classes w made =
    opened_by p choose (start_actions p.outline classes) w made
    (λ z cells. framed z (opening_frames p (start_methods p.outline classes) (slice_index_or made 2 0)))

abbrev opened_from : Program → Choose → Job → List ℕ → State → State
opened_from p choose job classes x =
    opened_by p choose (opening_actions p.outline job) x []
    (λ z made. then_main p choose classes (record z { areas = with_streams z.areas made }) made)

opening-is : (p : Program) (choose : Choose) (job : Job) (store : Store)
    → opened_from p choose job (opening_classes p.outline) (unopened p job (first_areas p.outline store)) ≡ (opening p choose job store).state
unfolding opening
opening-is p choose job store = refl

pub opening-ended : (p : Program) (choose : Choose) (job : Job) (store : Store) (x y : State) → x ≡ unopened p job (first_areas p.outline store)
    → OpensObjects p choose x y job.arguments None → y ≡ (opening p choose job store).state
opening-ended p choose job store x y is told =
    sym (told job refl (λ z made. then_main p choose (opening_classes p.outline) (record z { areas = with_streams z.areas made }) made)) ∙ ap (opened_from p choose job (opening_classes p.outline)) is
    ∙ opening-is p choose job store

pub opening-done : (p : Program) (choose : Choose) (job : Job) (store : Store) (x y z : State) (array : Cell) (classes : List ℕ)
    → x ≡ unopened p job (first_areas p.outline store) → OpensObjects p choose x y job.arguments (Some array) → classes ≡ opening_classes p.outline
    → OpensMain p choose y z classes array.0 → z ≡ (opening p choose job store).state
opening-done p choose job store x y z array classes is told are main =
    let (cells, at, opened) = told job refl in
    sym (opened (then_main p choose classes) ∙ main cells at) ∙ (λ i. opened_from p choose job (are i) (is i)) ∙ opening-is p choose job store

-- the classes that are to start before anything is made
pub classes-are : (p : Program) (job : Job) (store : Store) (x : State) (main_class : ℕ) (classes : List ℕ) → x ≡ unopened p job (first_areas p.outline store)
    → main_class ≡ p.outline.main_class → classes ≡ to_start p.outline x.areas.started main_class → classes ≡ opening_classes p.outline
classes-are p job store x main_class classes is main are = are ∙ (λ i. to_start p.outline (is i).areas.started (main i))
