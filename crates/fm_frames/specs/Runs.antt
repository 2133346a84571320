-- The opening of a run and the run itself: its states one after the other, as far as the budget of steps allows.
use Rattle.std.specs.Prelude.{ℕ, zero, suc, ◌+◌, ◌≤◌, ◌<◌, ◌≡◌, false, List, [], ◌∷◌, ◌++◌, length, map, None, unwrap_or, nat_lt, replicate, slice_set, codes, if◌then◌else◌}
use Rattle.std.specs.List.{flat_map, slice_index_or}
use Rattle.fm_cells.specs.Sizes.{cell_words}
use Rattle.fm_cells.specs.Stores.{Store, live_words}
use Rattle.fm_base.specs.declared.kinds.TypeRef.{TypeRef}
use Rattle.fm_code.specs.AccessFlags.{is_static}
use Rattle.fm_types.specs.Named.{built_in_type}
use Rattle.fm_world.specs.Members.{fields_of, OwnedField, field_kind}
use Rattle.fm_world.specs.Programs.{Outline, Program}
use Rattle.fm_frames.specs.Acts.{Choose, performed, Performed, Did, FullAt, LostAt}
use Rattle.fm_frames.specs.Effects.{Action, Make, MakeFixed, Put, OfMade}
use Rattle.fm_frames.specs.Elements.{first_of}
use Rattle.fm_frames.specs.Literals.{literal_count}
use Rattle.fm_frames.specs.NativeRows.{text_kind, text_made, text_type}
use Rattle.fm_frames.specs.Starts.{start_actions, start_methods, to_start}
use Rattle.fm_frames.specs.States.{Areas, Frame, Moved, ref, State}
use Rattle.fm_frames.specs.Steps.{cost, is_over, new_frame, start_frames, step, stopped, words_made}
use Rattle.fm_frames.specs.declared.ends.Ended.{Ended}
use Rattle.fm_frames.specs.declared.ends.Ended.TheVariants as end
use Rattle.fm_frames.specs.declared.values.Value.{Value}

-- what a run is given: the units of each argument, the input, and how many frames may be
pub record Job : Type 0 where
  pub arguments : List (List ℕ)
  pub input : List ℕ
  pub depth : ℕ

-- ---- the opening

-- the static fields at first, in the order of their places
abbrev pub first_statics : Outline → List Value
first_statics o = flat_map of_field (fields_of o.classes) where
  of_field : OwnedField → List Value
  of_field f = if is_static f.field.flags then first_of (field_kind o.classes f.field) ∷ [] else []

-- the areas before anything is made: static fields have their first values, no literal is made, and no class has started
abbrev pub first_areas : Outline → Store → Areas
first_areas o store = record {
  store = store;
  statics = first_statics o;
  literals = replicate (literal_count o) 0;
  started = map (λ class. false) o.classes;
  frees = 0;
  freed_words = 0;
}

-- System.out, System.in, and the array of the arguments with their texts: the objects made as 0, 1, 2 and from 3 on
abbrev pub arguments_type : Outline → TypeRef
arguments_type o = record { dims = 1; base = (text_type o).base }

-- the texts of the arguments are made and put into their array, from a place on
abbrev pub argument_actions : Outline → ℕ → List (List ℕ) → List Action
argument_actions o place [] = []
argument_actions o place (text ∷ texts) =
    text_made o text ∷ Put (OfMade 2) place (text_kind o) (OfMade (3 + place)) ∷ argument_actions o (place + 1) texts

-- what the opening does, but for the static fields of System; and for the class that holds main what its start does
unfoldable pub opening_actions : Outline → Job → List Action
opening_actions o job =
    MakeFixed (built_in_type o (codes "java/io/PrintStream")) ∷ MakeFixed (built_in_type o (codes "java/io/InputStream"))
    ∷ Make (arguments_type o) (length job.arguments) []
    ∷ argument_actions o 0 job.arguments

-- the first two static fields are those of System
abbrev pub with_streams : Areas → List ℕ → Areas
with_streams x made = record x { statics = slice_set (slice_set x.statics 0 (ref (slice_index_or made 0 0))) 1 (ref (slice_index_or made 1 0)) }

-- the state while the run is opened
abbrev pub unopened : Program → Job → Areas → State
unopened p job areas = record { frames = []; areas = areas; input = job.input; depth = job.depth; steps = 0; ended = None }

-- what follows where this is the result of one action
abbrev pub after_action : State → Performed → (State → List ℕ → State) → State
after_action x (Did areas made) follows = follows (record x { areas = areas }) made
after_action x (FullAt areas needed) follows =
    stopped (record x { areas = areas }) (end.StoreFull areas.store.made_words (cell_words needed))
after_action x (LostAt v) follows = x

-- each object is made by itself, so that those before stay where one would pass a budget
abbrev pub opened_by : Program → Choose → List Action → State → List ℕ → (State → List ℕ → State) → State
opened_by p choose [] x made follows = follows x made
opened_by p choose (action ∷ more) x made follows =
    if is_over p.outline x.areas (action ∷ []) then
    stopped x (end.Exhausted (live_words x.areas.store) (words_made p.outline x.areas (action ∷ [])))
    else after_action x (performed p.outline choose [] [] (action ∷ []) x.areas made) (λ y cells. opened_by p choose more y cells follows)

-- main's frame, and above it those that its class's start needs; the array of arguments is main's first local
abbrev pub opening_frames : Program → List ℕ → ℕ → List Frame
opening_frames p methods arguments = start_frames p methods ++ new_frame p p.outline.main (ref arguments ∷ []) ∷ []

-- the state with these frames, or its end where they are more than may be
abbrev pub framed : State → List Frame → State
framed x frames = if nat_lt x.depth (length frames) then stopped (record x { frames = [] }) (end.TooDeep 1) else record x { frames = frames }

-- the state at the opening of a run, or its end
unfoldable pub opening : Program → Choose → Job → Store → Moved
opening p choose job store =
    let o = p.outline in
    let classes = to_start o (first_areas o store).started o.main_class in
    record {
      state =
          opened_by p choose (opening_actions o job) (unopened p job (first_areas o store)) []
          (λ x made. opened_by p choose (start_actions o classes) (record x { areas = with_streams x.areas made }) made
          (λ y cells. framed y (opening_frames p (start_methods o classes) (slice_index_or made 2 0))));
      printed = [];
    }

-- ---- the run

-- the state after this many steps, with all that was printed on the way
unfoldable pub after : Program → Choose → ℕ → Moved → Moved
after p choose zero x = x
after p choose (suc k) x = onto (after p choose k x) where
  joined : Moved → Moved → Moved
  joined before next = record { state = next.state; printed = before.printed ++ next.printed }

  onto : Moved → Moved
  onto before = joined before (step p choose before.state)

-- the next step is within the budget
pub record Goes (p : Program) (budget : ℕ) (x : State) : Type 0 where
  pub not_ended : x.ended ≡ None
  pub within : x.steps + cost p x ≤ budget

-- a run within a budget: this many steps go, the next one doesn't, and this is the state with what
-- was printed
pub record IsRun (p : Program) (choose : Choose) (budget : ℕ) (opened result : Moved) : Type 0 where
  pub count : ℕ
  pub goes : (k : ℕ) → k < count → Goes p budget (after p choose k opened).state
  pub stops : ¬ Goes p budget (after p choose count opened).state
  pub is : result ≡ after p choose count opened

-- how it ended: Running where it could have gone on
abbrev pub end_of : State → Ended
end_of x = unwrap_or x.ended end.Running
