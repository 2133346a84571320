-- A step stays within closed sets.
use Rattle.std.proofs.Common.{◌≡◌, ℕ, ◌+◌, ◌&&◌, max, nat_lt, nat_le, not, cond, replicate, reverse, filter, Bool, true, false, List, [], ◌∷◌, ◌++◌, length, take, Option, Some, None, IfSome, is_some, option_and_then, refl, sym, ◌∙◌, ap, subst, slice_get}
use Rattle.std.specs.List.{AllByRecursion, filter_map}
use Rattle.std.specs.Prelude.{is_none}
use Rattle.std.proofs.lemmas.Bool.{and_parts, leb-true}
use Rattle.fm_base.proofs.ListFacts.{AllByRecursion-append, AllByRecursion-weaker}
use Rattle.fm_base.proofs.OptionFacts.{cond-some_then}
use Rattle.fm_base.specs.Rows.{has}
use Rattle.fm_base.specs.declared.kinds.TypeRef.{TypeRef}
use Rattle.fm_cells.specs.Stores.{live_words}
use Rattle.fm_code.proofs.EdgesLemmas.{Contains-from_filter}
use Rattle.fm_code.specs.Edges.{insn_of}
use Rattle.fm_code.specs.declared.code_array.Code.{Code}
use Rattle.fm_code.specs.declared.instructions.Insn.{Insn}
use Rattle.fm_conn.specs.Shapes.{method_with}
use Rattle.fm_frames.proofs.StepCounts.{step_is, stepped}
use Rattle.fm_frames.specs.Acts.{Choose, Did, FullAt, LostAt, performed, Performed, Sources, value_of}
use Rattle.fm_frames.specs.Effects.{Action, Calls, Effect, Enters, Exits, Falls, Faults, Jumps, JumpsIfSame, MakeLiteral, Next, Returns, SetStatic, Start, Throws}
use Rattle.fm_frames.specs.Rows.{effect_of}
use Rattle.fm_frames.specs.Sights.{sights, type_numbered}
use Rattle.fm_frames.specs.Starts.{is_started, start_actions, start_methods, to_start, with_start}
use Rattle.fm_frames.specs.States.{Areas, Frame, Moved, State}
use Rattle.fm_frames.specs.Steps.{attempted, caught, Caught, caught_in, done_by, effect_by, finished, halted, handler_of, InFrames, input_after, is_deep, is_done, is_over, is_start, Leaves, locals_of, next_effect, next_insn, objects_made, returned, stack_of, start_frames, thrown_by, type_at, words_made}
use Rattle.fm_frames.specs.declared.ends.Ended.{Ended}
use Rattle.fm_frames.specs.declared.ends.Ended.TheVariants as end
use Rattle.fm_frames.specs.declared.values.Value.{Value}
use Rattle.fm_law_reached.proofs.ActsHold.{acts_hold, LeavesHeld}
use Rattle.fm_law_reached.proofs.Covered.{call_target}
use Rattle.fm_law_reached.proofs.Goes.{Goes, insn_goes, LeadsIn}
use Rattle.fm_law_reached.proofs.MadeTypes.{HasBuiltIns, literal_is_made, MakesMade}
use Rattle.fm_law_reached.proofs.Rows.{insn_acts, NestsDeep}
use Rattle.fm_law_reached.specs.Laws.{IsReady, StepsStayInReach}
use Rattle.fm_law_reached.specs.Reached.{AreOfMethods, HoldsMade, IsInReach, IsMadeType}
use Rattle.fm_law_sound.proofs.Following.{continued_is, followed, followed_areas}
use Rattle.fm_law_sound.proofs.FramesStand.{met_row, typing_of}
use Rattle.fm_law_sound.proofs.ObjectRows.{row_of_type}
use Rattle.fm_law_sound.proofs.Opening.{IsOfStart, start_made}
use Rattle.fm_law_sound.proofs.StartActs.{after_methods, for_class}
use Rattle.fm_law_sound.specs.Making.{IsMakeable}
use Rattle.fm_law_sound.specs.Sound.{IsSoundBy, StandsWithout, Typings}
use Rattle.fm_place.proofs.FullLemmas.{all-from}
use Rattle.fm_rapid.specs.Reach.{AreIn, IsClosed, IsFollowed, narrowed, started_by, starts_of}
use Rattle.fm_types.specs.ArrayRows.{multi_array_row}
use Rattle.fm_types.specs.Rows.{row_after}
use Rattle.fm_types.specs.States.{TypeState, worked}
use Rattle.fm_types.specs.Typed.{IsTypingOf, made_at, MeetsItem, use_by}
use Rattle.fm_types.specs.Named.{class_of_method}
use Rattle.fm_types.specs.declared.slots.Slot.TheVariants as slot
use Rattle.fm_world.proofs.ElementLemmas.{Contains-filter_map, Contains-from_filter_map}
use Rattle.fm_world.specs.Chains.{chain_of, class_at}
use Rattle.fm_world.specs.Members.{start_of}
use Rattle.fm_world.specs.Programs.{Outline, Program, targets}
use Rattle.fm_world.specs.declared.calls.Call.{Call}
use Rattle.fm_world.specs.declared.uses.Use.{Use}

-- ---- what comes next

-- a method that is called is in the set, and so are those that start classes
abbrev pub NextIn : List Bool → Next → Type 0
NextIn methods (Calls m) = has methods m ≡ true
NextIn methods (Enters starts) = AllByRecursion (λ m. has methods m ≡ true) starts
NextIn methods next = Unit {0}

as_next : (methods : List Bool) (next : Next) → LeadsIn methods next → NextIn methods next
as_next methods Falls leads = leads
as_next methods (Jumps n) leads = leads
as_next methods (JumpsIfSame same) leads = leads
as_next methods (Calls m) leads = leads
as_next methods (Returns n) leads = leads
as_next methods (Throws source) leads = leads
as_next methods (Enters starts) leads = absurd leads
as_next methods (Exits n) leads = leads
as_next methods (Faults source) leads = leads

-- what the effect makes and where it leads
pub record EffectIn (o : Outline) (methods made : List Bool) (e : Effect) : Type 0 where
  pub actions : AllByRecursion (MakesMade o made) e.actions
  pub next : NextIn methods e.next

-- ---- frames

module _ (p : Program) (methods made : List Bool) where
  abbrev In : List Frame → Type 0
  In frames = AreOfMethods methods frames

  pub starts_in : (starts : List ℕ) (rest : List Frame) → AllByRecursion (λ m. has methods m ≡ true) starts → In rest → In (start_frames p starts ++ rest)
  starts_in [] rest all h = h
  starts_in (m ∷ starts) rest all h = (all.0, starts_in starts rest all.1 h)

  caught_frames : (t : TypeRef) (v : Value) (frames next : List Frame) → In frames → caught p t v frames ≡ InFrames next → In next
  unfolding caught
  caught_frames t v [] next h is = absurd (cc)
  caught_frames t v (f ∷ callers) next h is = by_handler (handler_of p f t) is (caught_frames t v callers next h.1) where
    by_start : (b : Bool)
        → cond b (Leaves (end.InitFailed (record { 0 = class_of_method p.outline f.method }))) (caught p t v callers) ≡ InFrames next
        → (caught p t v callers ≡ InFrames next → In next) → In next
    by_start true e later = absurd (cc)
    by_start false e later = later e

    by_handler : (found : Option ℕ) → caught_in p v f callers found (caught p t v callers) ≡ InFrames next
        → (caught p t v callers ≡ InFrames next → In next) → In next
    by_handler (Some handler) e later =
        let frames : record f { item = handler; stack = v ∷ [] } ∷ callers ≡ next = cc in subst In frames h
    by_handler None e later = by_start (is_start p.outline f.method) e later

  module _ (f : Frame) (callers : List Frame) (from : Sources) (e : Effect) (x : State) (frames_are : x.frames ≡ f ∷ callers) (h : In (f ∷ callers)) where
    stays : In x.frames
    stays = subst In (sym frames_are) h

    gone : (frames : List Frame) → In frames → (n : ℕ) → In (returned p n f frames x).frames
    gone [] below n = stays
    gone (g ∷ rest) below n = by_start (is_start p.outline f.method) where
      by_start : (b : Bool)
          → In (cond b (record x { frames = g ∷ rest }) (record x { frames = record g { item = g.item + 1; stack = take n f.stack ++ g.stack } ∷ rest })).frames
      by_start true = below
      by_start false = below

    thrown : (c : Caught) → ((next : List Frame) → c ≡ InFrames next → In next) → In (thrown_by x c).frames
    thrown (InFrames next) each = each next refl
    thrown (Leaves ended) each = stays

    next_frames : (nx : Next) → NextIn methods nx → In (followed p from e f callers x nx).frames
    next_frames Falls leads = h
    next_frames (Jumps n) leads = h
    next_frames (JumpsIfSame same) leads = h
    next_frames (Calls m) leads = (leads, h)
    next_frames (Returns n) leads = gone callers h.1 n
    next_frames (Throws source) leads =
        thrown (caught p (type_at p.outline x.areas.store (value_of from source)) (value_of from source) (f ∷ callers))
        (λ next is. caught_frames (type_at p.outline x.areas.store (value_of from source)) (value_of from source) (f ∷ callers) next h is)
    next_frames (Enters starts) leads = starts_in starts (f ∷ callers) leads h
    next_frames (Exits n) leads = stays
    next_frames (Faults source) leads = stays

  -- ---- states

  -- the type of a number
  abbrev pub OfMade : ℕ → Type 0
  OfMade n = IsMadeType made (type_numbered p.outline n)

  abbrev R : State → Type 0
  R x = IsInReach p.outline methods made x

  either_in : (b : Bool) (one other : Moved) → R one.state → R other.state → R (cond b one other).state
  either_in true one other first second = first
  either_in false one other first second = second

  finished_in : (y : State) (frames : List Frame) (price : ℕ) (e : Effect) (r : Performed) → In frames → HoldsMade p.outline made y.areas.store
      → NextIn methods e.next → LeavesHeld OfMade r → R (finished p price e (record y { frames = frames }) r)
  finished_in y frames price e (FullAt areas needed) all holds leads held = record { frames = all; objects = held }
  finished_in y frames price e (LostAt v) all holds leads held = record { frames = all; objects = holds }
  finished_in y [] price e (Did areas made_here) all holds leads held = record { frames = tt; objects = held }
  finished_in y (f ∷ callers) price e (Did areas made_here) all holds leads held =
      let x : State = record (record y { frames = f ∷ callers }) {
        areas = areas;
        input = input_after e.reads y.input;
        steps = cond (is_done e.next) (y.steps + price) y.steps;
      } in
      let from : Sources = record { locals = f.locals; stack = f.stack; areas = areas; made = made_here } in
      subst R (sym (continued_is p from e f callers x)) (record {
        frames = next_frames f callers from e x refl all e.next leads;
        objects = subst (λ (a : Areas). HoldsMade p.outline made a.store) (sym (followed_areas p from e f callers x e.next)) held;
      })

  attempted_in : (choose : Choose) (y : State) (frames : List Frame) (e : Effect) → In frames → HoldsMade p.outline made y.areas.store → EffectIn p.outline methods made e
      → R (attempted p choose (record y { frames = frames }) e).state
  attempted_in choose y frames e all holds effect =
      let x : State = record y { frames = frames } in
      let result : Performed = performed p.outline choose (locals_of x) (stack_of x) e.actions y.areas [] in
      let over : Moved = halted x (end.Exhausted (live_words y.areas.store) (words_made p.outline y.areas e.actions)) in
      let done : Moved = done_by p (max 1 (objects_made e.actions)) e x result in
      either_in (is_deep x e.next) (halted x (end.TooDeep (length frames))) (cond (is_over p.outline y.areas e.actions) over done)
      (record { frames = all; objects = holds })
      (either_in (is_over p.outline y.areas e.actions) over done (record { frames = all; objects = holds })
      (finished_in y frames (max 1 (objects_made e.actions)) e result all holds effect.next
      (acts_hold OfMade p.outline choose (locals_of x) (stack_of x) e.actions y.areas [] effect.actions holds)))

-- ---- starts of classes

-- the methods that start those of a chain that aren't started are among those that start all of it
pub starts_within : (o : Outline) (methods started : List Bool) (class : ℕ) → AreIn methods (starts_of o class)
    → AllByRecursion (λ m. has methods m ≡ true) (start_methods o (to_start o started class))
unfolding starts_of
starts_within o methods started class are = by_file (is_none (class_at o.classes class).file) are where
  chain : List ℕ
  chain = reverse (chain_of o.classes class)

  waits : ℕ → Bool
  waits above = not (is_started o started above)

  by_file : (b : Bool) → AreIn methods (cond b [] (filter_map (start_of o.classes) chain))
      → AllByRecursion (λ m. has methods m ≡ true) (filter_map (start_of o.classes) (cond b [] (filter waits chain)))
  by_file true each = tt
  by_file false each =
      all-from (λ m. has methods m ≡ true) (filter_map (start_of o.classes) (filter waits chain))
      (λ m found.
      let from = Contains-from_filter_map (start_of o.classes) (filter waits chain) m found in
      each m (Contains-filter_map (start_of o.classes) chain from.0 m (Contains-from_filter waits chain from.0 from.1).0 from.2))

module _ (p : Program) (ready : IsMakeable p) (methods made : List Bool) (built : HasBuiltIns made) where
  of_start : (action : Action) → IsOfStart action → MakesMade p.outline made action
  of_start (MakeLiteral text) is = literal_is_made p ready made built text
  of_start (SetStatic place k v) is = tt
  of_start (Start class) is = tt
  of_start action is = absurd is

  pub start_acts : (classes : List ℕ) → AllByRecursion (MakesMade p.outline made) (start_actions p.outline classes)
  start_acts classes = AllByRecursion-weaker IsOfStart (MakesMade p.outline made) of_start (start_actions p.outline classes) (start_made p.outline classes)

  methods_in : (classes : List ℕ) (e : Effect) (starts : List ℕ) → AllByRecursion (λ m. has methods m ≡ true) starts → EffectIn p.outline methods made e
      → EffectIn p.outline methods made (after_methods p.outline classes e starts)
  methods_in classes e [] all effect = record {
    actions = AllByRecursion-append (MakesMade p.outline made) (start_actions p.outline classes) e.actions (start_acts classes) effect.actions;
    next = effect.next;
  }
  methods_in classes e (m ∷ starts) all effect = record { actions = start_acts classes; next = all }

  class_in : (started : List Bool) (e : Effect) (class : Option ℕ) → IfSome class (λ c. AreIn methods (starts_of p.outline c)) → EffectIn p.outline methods made e
      → EffectIn p.outline methods made (for_class p.outline started e class)
  class_in started e None are effect = effect
  class_in started e (Some class) are effect =
      methods_in (to_start p.outline started class) e (start_methods p.outline (to_start p.outline started class)) (starts_within p.outline methods started class are) effect

-- ---- at an item

-- an array of arrays that is made has a dimension for each count
nests_deep : (o : Outline) (method item : ℕ) (news : ℕ → Option TypeRef) (u : Use) (i : Insn) (known after : TypeState)
    → row_after o method item news u i known ≡ Some after → NestsDeep o i u
unfolding row_after multi_array_row
nests_deep o method item news u i known after row = λ index dimensions n t it_is used at.
    let there : multi_array_row o u dimensions known ≡ Some after = subst (λ j. row_after o method item news u j known ≡ Some after) it_is row in
    let placed = row_of_type o u _ n t after used at there in
    let parts = cond-some_then (nat_lt 0 dimensions && nat_le dimensions t.dims) (worked o (replicate dimensions slot.Int) (slot.Ref t ∷ []) known) after placed in
    leb-true dimensions t.dims (and_parts (nat_lt 0 dimensions) (nat_le dimensions t.dims) parts.0).1

module _ (p : Program) (typings : Typings) (ready : IsReady p) (methods made : List Bool) (closed : IsClosed p methods made) (z : State) (f : Frame) (callers : List Frame) where
  -- the state, with its frames
  abbrev x : State
  x = record z { frames = f ∷ callers }

  module _ (sound : IsSoundBy p typings x) (within : IsInReach p.outline methods made x) where
    abbrev stands : StandsWithout p typings 0 f
    stands = sound.frames.0

    typing : IsTypingOf p f.method stands.code (typings f.method)
    typing = typing_of p typings sound.typed f.method stands.code stands.code_is

    meets : MeetsItem p f.method stands.code (typings f.method) f.item stands.known
    meets = typing.items f.item stands.known stands.at

    module _ (i : Insn) (after : TypeState) (insn_is : insn_of stands.code f.item ≡ Some i) (row : row_after p.outline f.method f.item (made_at p f.method stands.code) (use_by p f.method i) i stands.known ≡ Some after) where
      abbrev own : Effect
      own = effect_of p.outline f.method (use_by p f.method i) i (slice_get z.input 0) (sights p.outline z.areas.store f.stack)

      follows : IsFollowed methods made (method_with p f.method stands.code []) i
      follows =
          closed.items f.method stands.code f.item i within.frames.0 stands.code_is ((typing.reachable f.item).0 (ap is_some stands.at)) insn_is

      goes : Goes p.outline methods i (use_by p f.method i) own
      goes =
          insn_goes p.outline (sights p.outline z.areas.store f.stack) f.method (slice_get z.input 0) methods i (use_by p f.method i)
          (λ target e.
          let found = call_target p ready.resolved made z.areas sound.areas within.objects f stands.code stands.code_is [] i insn_is target e in
          subst (λ (call : Option Call). IfSome call (λ c. AreIn methods (targets (narrowed p made) c))) found.is follows.calls target found.among)

      own_in : EffectIn p.outline methods made own
      own_in = record {
        actions = insn_acts p ready.makes.makeable made closed.built_in z.areas.store within.objects f.stack f.method i (use_by p f.method i)
            (slice_get z.input 0) (λ class is. subst (λ (found : Option ℕ). IfSome found (λ c. has made c ≡ true)) is follows.makes)
            (nests_deep p.outline f.method f.item (made_at p f.method stands.code) (use_by p f.method i) i stands.known after row);
        next = as_next methods own.next goes.next;
      }

      -- the class that is started before is the one that the instruction uses
      own_starts : (class : Option ℕ) → own.starts ≡ class → IfSome class (λ c. AreIn methods (starts_of p.outline c))
      own_starts None is = tt
      own_starts (Some class) is =
          subst (λ (found : Option ℕ). IfSome found (λ c. AreIn methods (starts_of p.outline c)))
          (subst (λ (found : Option ℕ). IfSome found (λ c. started_by p.outline i (use_by p f.method i) ≡ Some c)) is goes.starts) follows.starts

      found_insn : next_insn p f ≡ Some i
      found_insn = ap (λ found. option_and_then (λ (c : Code). insn_of c f.item) found) stands.code_is ∙ insn_is

      next_in : EffectIn p.outline methods made (next_effect p x)
      unfolding next_effect
      next_in =
          subst (λ e. EffectIn p.outline methods made (with_start p.outline z.areas.started e)) (sym (ap (effect_by p x f) found_insn))
          (class_in p ready.makes.makeable methods made closed.built_in z.areas.started own own.starts (own_starts own.starts refl) own_in)

    topmost_in : EffectIn p.outline methods made (next_effect p x)
    topmost_in = let met = met_row p typings f stands.code stands.known meets in next_in met.insn met.after met.insn_is met.row

effect_in : (p : Program) (typings : Typings) → IsReady p → (methods made : List Bool) → IsClosed p methods made → (z : State) (frames : List Frame)
    → IsSoundBy p typings (record z { frames = frames }) → IsInReach p.outline methods made (record z { frames = frames })
    → EffectIn p.outline methods made (next_effect p (record z { frames = frames }))
unfolding next_effect
effect_in p typings ready methods made closed z [] sound within = record { actions = tt; next = tt }
effect_in p typings ready methods made closed z (f ∷ callers) sound within = topmost_in p typings ready methods made closed z f callers sound within

-- ---- a step

stepped_in : (p : Program) (typings : Typings) → IsReady p → (methods made : List Bool) → IsClosed p methods made → (choose : Choose) (x : State)
    → IsSoundBy p typings x → IsInReach p.outline methods made x → (ended : Option Ended) → IsInReach p.outline methods made (stepped p choose x ended).state
stepped_in p typings ready methods made closed choose x sound within (Some e) = within
stepped_in p typings ready methods made closed choose x sound within None =
    attempted_in p methods made choose x x.frames (next_effect p x) within.frames within.objects
    (effect_in p typings ready methods made closed x x.frames sound within)

pub step_stays : StepsStayInReach
step_stays p typings ready methods made closed choose x sound within =
    subst (λ (m : Moved). IsInReach p.outline methods made m.state) (sym (step_is p choose x))
    (stepped_in p typings ready methods made closed choose x sound within x.ended)
