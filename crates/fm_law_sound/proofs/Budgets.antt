-- No step of a run changes how many words may live.
use Rattle.std.proofs.Common.{◌≡◌, ℕ, zero, suc, ◌+◌, Bool, true, false, cond, List, [], ◌∷◌, ◌++◌, length, max, nat_lt, Option, Some, None, refl, ◌∙◌, ap, slice_index_or}
use Rattle.fm_cells.specs.Changes.{chained_by, Choice, freed_by, made_by, on_object, RefuseStore, Take, with_chain, with_object, without_object}
use Rattle.fm_cells.specs.Objects.{Object, object_words, Request}
use Rattle.fm_cells.specs.Stores.{object_at, Store}
use Rattle.fm_world.specs.Programs.{Outline, Program}
use Rattle.fm_frames.proofs.OpeningSteps.{put_kept}
use Rattle.fm_frames.proofs.StepCounts.{step_is, stepped}
use Rattle.fm_frames.specs.Acts.{all_freed, cell_of, chain_freed, chain_from, chained, Choose, class_started, copied, Did, freed, freed_object, FullAt, is_there, literal_made, literal_text, literal_type, LostAt, made_then, performed, Performed, put_value, requested, set_static, Sources, value_of, with_content}
use Rattle.fm_frames.specs.Effects.{Action, Copy, Effect, Free, FreeChain, Make, MakeFixed, MakeLiteral, Put, SetChain, SetStatic, Start}
use Rattle.fm_frames.specs.Elements.{kept}
use Rattle.fm_frames.specs.Runs.{after, after_action, first_areas, Job, opened_by, opening, opening_actions, opening_frames, unopened, with_streams}
use Rattle.fm_frames.specs.Starts.{start_actions, start_methods, to_start}
use Rattle.fm_frames.specs.States.{Areas, Frame, Moved, State, word_at}
use Rattle.fm_frames.specs.Steps.{finished, input_after, is_deep, is_done, is_over, locals_of, next_effect, objects_made, stack_of, step}
use Rattle.fm_frames.specs.declared.ends.Ended.{Ended}
use Rattle.fm_frames.specs.declared.values.Value.{Value}
use Rattle.fm_law_sound.proofs.ActsKeep.{content_in}
use Rattle.fm_law_sound.proofs.Following.{continued_is, followed_areas}
use Rattle.fm_law_sound.proofs.StepsSound.{moved_by}
use Rattle.fm_law_sound.specs.Leading.{sources_of}

-- ---- stores

content_budget : (store : Store) (cell : ℕ) (content : List ℕ) → (with_content store cell content).budget ≡ store.budget
content_budget store cell [] = refl
content_budget store cell (unit ∷ units) = by_object (object_at store cell) where
  by_object : (found : Option Object) → (content_in store cell unit units found).budget ≡ store.budget
  by_object None = refl
  by_object (Some object) = refl

either_budget : (b : Bool) (one other : Store) (budget : ℕ) → one.budget ≡ budget → other.budget ≡ budget → (cond b one other).budget ≡ budget
either_budget true one other budget first second = first
either_budget false one other budget first second = second

freed_by_budget : (store : Store) (cell : ℕ) → (freed_by store cell).budget ≡ store.budget
freed_by_budget store cell = by_object (object_at store cell) where
  by_object : (found : Option Object)
      → (on_object found (λ (object : Object). cond object.fixed store (without_object store cell object)) store).budget ≡ store.budget
  by_object None = refl
  by_object (Some object) = either_budget object.fixed store (without_object store cell object) store.budget refl refl

chained_by_budget : (store : Store) (cell to : ℕ) → (chained_by store cell to).budget ≡ store.budget
chained_by_budget store cell to = by_object (object_at store cell) where
  by_object : (found : Option Object) → (on_object found (λ (object : Object). with_object store cell (with_chain object to)) store).budget ≡ store.budget
  by_object None = refl
  by_object (Some object) = refl

-- ---- one action

freed_budget : (x : Areas) (cell : ℕ) → (freed x cell).store.budget ≡ x.store.budget
freed_budget x cell = by_object (object_at x.store cell) where
  by_fixed : (object : Object) (b : Bool)
      → (cond b x (record x { store = freed_by x.store cell; frees = x.frees + 1; freed_words = x.freed_words + object_words object })).store.budget ≡ x.store.budget
  by_fixed object true = refl
  by_fixed object false = freed_by_budget x.store cell

  by_object : (found : Option Object) → (freed_object x cell found).store.budget ≡ x.store.budget
  by_object None = refl
  by_object (Some object) = by_fixed object object.fixed

all_freed_budget : (x : Areas) (cells : List ℕ) → (all_freed x cells).store.budget ≡ x.store.budget
all_freed_budget x [] = refl
all_freed_budget x (cell ∷ cells) = all_freed_budget (freed x cell) cells ∙ freed_budget x cell

-- ---- all actions, one after the other

-- the areas have this budget, where there are any
abbrev Within : ℕ → Performed → Type 0
Within budget (Did x made) = x.store.budget ≡ budget
Within budget (FullAt x needed) = x.store.budget ≡ budget
Within budget (LostAt v) = Unit {0}

module _ (budget : ℕ) where
  made_budget : (x : Areas) (request : Request) (content : List ℕ) (choice : Choice) (follows : Areas → ℕ → Performed) → x.store.budget ≡ budget
      → ((later : Store) (cell : ℕ) → later.budget ≡ budget → Within budget (follows (record x { store = later }) cell))
      → Within budget (made_then x request content choice follows)
  made_budget x request content RefuseStore follows is rest = is
  made_budget x request content (Take cell grows) follows is rest =
      rest (with_content (made_by x.store request (Take cell grows)) cell content) cell
      (content_budget (made_by x.store request (Take cell grows)) cell content ∙ is)

  chain_budget : (x : Areas) (v : Value) (cells : Option (List ℕ)) (follows : Areas → Performed) → x.store.budget ≡ budget
      → ((y : Areas) → y.store.budget ≡ budget → Within budget (follows y)) → Within budget (chain_freed x v cells follows)
  chain_budget x v None follows is rest = tt
  chain_budget x v (Some cells) follows is rest = rest (all_freed x cells) (all_freed_budget x cells ∙ is)

  either_within : (b : Bool) (one other : Performed) → Within budget one → Within budget other → Within budget (cond b one other)
  either_within true one other first second = first
  either_within false one other first second = second

  acts_budget : (o : Outline) (choose : Choose) (locals stack : List Value) (actions : List Action) (x : Areas) (made : List ℕ) → x.store.budget ≡ budget
      → Within budget (performed o choose locals stack actions x made)
  unfolding performed
  acts_budget o choose locals stack [] x made is = is
  acts_budget o choose locals stack (Make t len content ∷ more) x made is =
      made_budget x (requested o t len false) content (choose x.store (requested o t len false))
      (λ y cell. performed o choose locals stack more y (made ++ cell ∷ [])) is
      (λ later cell same. acts_budget o choose locals stack more (record x { store = later }) (made ++ cell ∷ []) same)
  acts_budget o choose locals stack (MakeFixed t ∷ more) x made is =
      made_budget x (requested o t 0 true) [] (choose x.store (requested o t 0 true))
      (λ y cell. performed o choose locals stack more y (made ++ cell ∷ [])) is
      (λ later cell same. acts_budget o choose locals stack more (record x { store = later }) (made ++ cell ∷ []) same)
  acts_budget o choose locals stack (MakeLiteral text ∷ more) x made is =
      let request : Request = requested o (literal_type o text) (length (literal_text o text)) true in
      let follows : Areas → ℕ → Performed = λ y cell. performed o choose locals stack more (literal_made y text cell) made in
      either_within (is_there x text) (performed o choose locals stack more x made)
      (made_then x request (literal_text o text) (choose x.store request) follows) (acts_budget o choose locals stack more x made is)
      (made_budget x request (literal_text o text) (choose x.store request) follows is
      (λ later cell same. acts_budget o choose locals stack more (literal_made (record x { store = later }) text cell) made same))
  acts_budget o choose locals stack (Put object place k v ∷ more) x made is =
      let from : Sources = record { locals = locals; stack = stack; areas = x; made = made } in
      acts_budget o choose locals stack more (put_value x (value_of from object) place k (value_of from v)) made
      ((put_kept x.store (cell_of (value_of from object)) place (kept k (value_of from v))).1 ∙ is)
  acts_budget o choose locals stack (SetStatic slot k v ∷ more) x made is =
      let from : Sources = record { locals = locals; stack = stack; areas = x; made = made } in
      acts_budget o choose locals stack more (set_static x slot k (value_of from v)) made is
  acts_budget o choose locals stack (Start class ∷ more) x made is = acts_budget o choose locals stack more (class_started x class) made is
  acts_budget o choose locals stack (Free operand ∷ more) x made is =
      acts_budget o choose locals stack more (freed x (cell_of (word_at stack operand))) made (freed_budget x (cell_of (word_at stack operand)) ∙ is)
  acts_budget o choose locals stack (SetChain operand to ∷ more) x made is =
      acts_budget o choose locals stack more (chained x (cell_of (word_at stack operand)) (cell_of (word_at stack to))) made
      (chained_by_budget x.store (cell_of (word_at stack operand)) (cell_of (word_at stack to)) ∙ is)
  acts_budget o choose locals stack (FreeChain operand ∷ more) x made is =
      chain_budget x (word_at stack operand) (chain_from x.store (cell_of (word_at stack operand)))
      (λ y. performed o choose locals stack more y made) is
      (λ y same. acts_budget o choose locals stack more y made same)
  acts_budget o choose locals stack (Copy t len operand ∷ more) x made is =
      made_budget x (requested o t len false) (copied x.store (cell_of (word_at stack operand)) len) (choose x.store (requested o t len false))
      (λ y cell. performed o choose locals stack more y (made ++ cell ∷ [])) is
      (λ later cell same. acts_budget o choose locals stack more (record x { store = later }) (made ++ cell ∷ []) same)

  -- ---- states

  -- the store of the state has this budget
  abbrev Has : State → Type 0
  Has x = x.areas.store.budget ≡ budget

  finished_budget : (p : Program) (price : ℕ) (e : Effect) (z : State) (frames : List Frame) (result : Performed) → Has z → Within budget result
      → Has (finished p price e (record z { frames = frames }) result)
  finished_budget p price e z frames (FullAt areas needed) is h = h
  finished_budget p price e z frames (LostAt v) is h = is
  finished_budget p price e z [] (Did areas made) is h = h
  finished_budget p price e z (f ∷ callers) (Did areas made) is h =
      ap (λ (y : State). y.areas.store.budget) (continued_is p (sources_of f areas made) e f callers done)
      ∙ ap (λ (a : Areas). a.store.budget) (followed_areas p (sources_of f areas made) e f callers done e.next) ∙ h where
        done : State
        done = record z {
          frames = f ∷ callers;
          areas = areas;
          input = input_after e.reads z.input;
          steps = cond (is_done e.next) (z.steps + price) z.steps;
        }

  step_has : (p : Program) (choose : Choose) (x : State) → Has x → (ended : Option Ended) → Has (stepped p choose x ended).state
  step_has p choose x is (Some ended) = is
  step_has p choose x is None =
      let e : Effect = next_effect p x in
      moved_by Has (is_deep x e.next) _ _ (λ deep. is)
      (λ shallow. moved_by Has (is_over p.outline x.areas e.actions) _ _ (λ over. is)
      (λ within. finished_budget p (max 1 (objects_made e.actions)) e x x.frames
      (performed p.outline choose (locals_of x) (stack_of x) e.actions x.areas []) is
      (acts_budget p.outline choose (locals_of x) (stack_of x) e.actions x.areas [] is)))

  either_has : (b : Bool) (one other : State) → Has one → Has other → Has (cond b one other)
  either_has true one other first second = first
  either_has false one other first second = second

  after_has : (x : State) (result : Performed) (follows : State → List ℕ → State) → Has x → Within budget result
      → ((y : State) (cells : List ℕ) → Has y → Has (follows y cells)) → Has (after_action x result follows)
  after_has x (Did areas made) follows is h rest = rest (record x { areas = areas }) made h
  after_has x (FullAt areas needed) follows is h rest = h
  after_has x (LostAt v) follows is h rest = is

  opened_has : (p : Program) (choose : Choose) (actions : List Action) (x : State) (made : List ℕ) (follows : State → List ℕ → State) → Has x
      → ((y : State) (cells : List ℕ) → Has y → Has (follows y cells)) → Has (opened_by p choose actions x made follows)
  opened_has p choose [] x made follows is rest = rest x made is
  opened_has p choose (action ∷ more) x made follows is rest =
      either_has (is_over p.outline x.areas (action ∷ [])) _ _ is
      (after_has x (performed p.outline choose [] [] (action ∷ []) x.areas made) (λ y cells. opened_by p choose more y cells follows) is
      (acts_budget p.outline choose [] [] (action ∷ []) x.areas made is)
      (λ y cells same. opened_has p choose more y cells follows same rest))

-- a step
pub step_budget : (p : Program) (choose : Choose) (x : State) → (step p choose x).state.areas.store.budget ≡ x.areas.store.budget
step_budget p choose x =
    ap (λ (m : Moved). m.state.areas.store.budget) (step_is p choose x) ∙ step_has x.areas.store.budget p choose x refl x.ended

-- the opening
pub opening_budget : (p : Program) (choose : Choose) (job : Job) (store : Store) → (opening p choose job store).state.areas.store.budget ≡ store.budget
unfolding opening
opening_budget p choose job store =
    let o : Outline = p.outline in
    let classes : List ℕ = to_start o (first_areas o store).started o.main_class in
    opened_has store.budget p choose (opening_actions o job) (unopened p job (first_areas o store)) [] _ refl
    (λ x made is. opened_has store.budget p choose (start_actions o classes) (record x { areas = with_streams x.areas made }) made _ is
    (λ y cells same. either_has store.budget (nat_lt y.depth (length (opening_frames p (start_methods o classes) (slice_index_or made 2 0)))) _ _ same same))

-- each state of a run
pub run_budget : (p : Program) (choose : Choose) (job : Job) (store : Store) (k : ℕ)
    → (after p choose k (opening p choose job store)).state.areas.store.budget ≡ store.budget
unfolding after
run_budget p choose job store zero = opening_budget p choose job store
run_budget p choose job store (suc k) =
    step_budget p choose (after p choose k (opening p choose job store)).state ∙ run_budget p choose job store k
