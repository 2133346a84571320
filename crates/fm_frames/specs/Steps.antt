-- One step of the machine: the effect of the next instruction is found and carried out (JVMS 2.6, 2.10, 2.11, 6.5).
use Rattle.std.specs.Prelude.{ℕ, ◌+◌, ◌-◌, ◌^◌, ◌==◌, ◌&&◌, ◌||◌, not, Bool, true, false, List, [], ◌∷◌, ◌++◌, length, map, max, min, take, drop, reverse, replicate, nat_le, nat_lt, Option, Some, None, option_map, option_and_then, unwrap_or, count_by, slice_get, slice_set, if◌then◌else◌}
use Rattle.std.specs.List.{slice_index_or}
use Rattle.fm_base.specs.declared.kinds.TypeRef.{TypeRef}
use Rattle.fm_cells.specs.Objects.{Object, request_words}
use Rattle.fm_cells.specs.Sizes.{cell_words}
use Rattle.fm_cells.specs.Stores.{Store, live_words, object_at}
use Rattle.fm_code.specs.Edges.{insn_of}
use Rattle.fm_code.specs.SpellsCode.{targets_of}
use Rattle.fm_code.specs.declared.code_array.Code.{Code}
use Rattle.fm_code.specs.declared.code_array.Handler.{Handler}
use Rattle.fm_code.specs.declared.code_array.Item.{Item}
use Rattle.fm_code.specs.declared.instructions.Insn.{Insn}
use Rattle.fm_types.specs.Named.{class_of_method, throwable_type}
use Rattle.fm_types.specs.Typed.{type_of_use, use_by, use_in}
use Rattle.fm_world.specs.Chains.{is_among, is_sub}
use Rattle.fm_world.specs.Members.{start_of}
use Rattle.fm_world.specs.Programs.{class_of_type, code_at, Outline, Program}
use Rattle.fm_frames.specs.Acts.{cell_of, Choose, is_there, literal_text, literal_type, performed, Performed, Did, FullAt, LostAt, requested, same_cell, Sources, value_of}
use Rattle.fm_frames.specs.Effects.{Action, Make, MakeFixed, MakeLiteral, Copy, Effect, Next, Falls, Jumps, JumpsIfSame, Calls, Returns, Throws, Enters, Exits, Faults, Source, stuck}
use Rattle.fm_frames.specs.Rows.{effect_of}
use Rattle.fm_frames.specs.Sights.{sights, type_numbered}
use Rattle.fm_frames.specs.Starts.{with_start}
use Rattle.fm_frames.specs.States.{Areas, Frame, Moved, State, word_at}
use Rattle.fm_frames.specs.declared.ends.Ended.{Ended}
use Rattle.fm_frames.specs.declared.ends.Ended.TheVariants as end
use Rattle.fm_frames.specs.declared.values.Value.{Value}
use Rattle.fm_frames.specs.declared.values.Value.TheVariants as value

-- ---- the effect of the next instruction

-- the instruction that is next in a frame
abbrev pub next_insn : Program → Frame → Option Insn
next_insn p f = option_and_then (λ code. insn_of code f.item) (code_at p f.method)

-- the effect of an instruction in a frame, which sees all words of its stack and the next byte of the input
abbrev pub effect_by : Program → State → Frame → Option Insn → Effect
effect_by p x f None = stuck
effect_by p x f (Some i) =
    effect_of p.outline f.method (use_by p f.method i) i (slice_get x.input 0) (sights p.outline x.areas.store f.stack)

-- that of the topmost frame
abbrev pub effect_at : Program → State → Effect
effect_at p x = of_frames x.frames where
  of_frames : List Frame → Effect
  of_frames [] = stuck
  of_frames (f ∷ callers) = effect_by p x f (next_insn p f)

-- with what the start of a class makes of it
unfoldable pub next_effect : Program → State → Effect
next_effect p x = with_start p.outline x.areas.started (effect_at p x)

-- ---- what a step needs

-- the words of what an action makes; a literal that is there already needs none
abbrev pub words_of : Outline → Areas → List ℕ → Action → ℕ
words_of o x literals (Make t len content) = request_words (requested o t len false)
words_of o x literals (MakeFixed t) = request_words (requested o t 0 true)
words_of o x literals (MakeLiteral text) =
    if is_there x text || is_among text literals then 0 else request_words (requested o (literal_type o text) (length (literal_text o text)) true)
words_of o x literals (Copy t len operand) = request_words (requested o t len false)
words_of o x literals action = 0

-- the literals that an action makes
abbrev pub literal_of : Action → List ℕ
literal_of (MakeLiteral text) = text ∷ []
literal_of action = []

-- the words of all that the actions make: each literal once
abbrev pub words_among : Outline → Areas → List ℕ → List Action → ℕ
words_among o x literals [] = 0
words_among o x literals (action ∷ more) = words_of o x literals action + words_among o x (literal_of action ++ literals) more

-- the greatest number of words that is reported
abbrev pub most_words : ℕ
most_words = 2 ^ 64 - 1

-- the words of all that the actions make; a sum above the greatest 64-bit number counts as that number
abbrev pub words_made : Outline → Areas → List Action → ℕ
words_made o x actions = min (words_among o x [] actions) most_words

-- whether some action makes an object
abbrev pub is_making : Action → Bool
is_making (Make t len content) = true
is_making (MakeFixed t) = true
is_making (MakeLiteral text) = true
is_making (Copy t len operand) = true
is_making action = false

-- whether one of the actions makes an object
abbrev pub makes : List Action → Bool
makes [] = false
makes (action ∷ more) = is_making action || makes more

-- the objects would pass the budget of live words: a step that makes none needs none
abbrev pub is_over : Outline → Areas → List Action → Bool
is_over o x actions =
    if makes actions then (let needed = words_made o x actions in nat_lt 0 needed && nat_lt x.store.budget (live_words x.store + needed)) else false

-- how many frames come on top
abbrev pub frames_needed : Next → ℕ
frames_needed (Calls m) = 1
frames_needed (Enters methods) = length methods
frames_needed next = 0

-- whether the frames that come on top would be more than may be
abbrev pub is_deep : State → Next → Bool
is_deep x (Calls m) = nat_lt x.depth (length x.frames + 1)
is_deep x (Enters methods) = nat_lt x.depth (length x.frames + length methods)
is_deep x next = false

-- the cost of a step: the objects of one instruction that makes several arrays count each (JVMS 6.5.multianewarray), and else it is 1
abbrev pub objects_made : List Action → ℕ
objects_made actions = count_by is_make actions where
  is_make : Action → Bool
  is_make (Make t len content) = true
  is_make (Copy t len operand) = true
  is_make action = false

-- what the next step costs: 1, or as many as it makes objects
unfoldable pub cost : Program → State → ℕ
cost p x = max 1 (objects_made (next_effect p x).actions)

-- ---- frames

-- the locals of the topmost frame
abbrev pub locals_of : State → List Value
locals_of x = of_frames x.frames where
  of_frames : List Frame → List Value
  of_frames [] = []
  of_frames (f ∷ callers) = f.locals

-- the stack of the topmost frame
abbrev pub stack_of : State → List Value
stack_of x = of_frames x.frames where
  of_frames : List Frame → List Value
  of_frames [] = []
  of_frames (f ∷ callers) = f.stack

-- the locals with what is written into them
abbrev pub written : Sources → List (ℕ × Source) → List Value → List Value
written from [] locals = locals
written from (w ∷ writes) locals = written from writes (slice_set locals w.0 (value_of from w.1))

-- the stack with what is taken and given
abbrev pub stack_after : Sources → Effect → List Value → List Value
stack_after from e stack = map (value_of from) e.gives ++ drop e.takes stack

-- the frame of a method that has code: its arguments are the first locals, and the others have no value (JVMS 2.6.1)
abbrev pub max_locals_of : Program → ℕ → ℕ
max_locals_of p method = of_code (code_at p method) where
  of_code : Option Code → ℕ
  of_code None = 0
  of_code (Some code) = code.max_locals

-- a method's frame at its first item: the arguments are the first locals, and the stack is empty
abbrev pub new_frame : Program → ℕ → List Value → Frame
new_frame p method arguments = record {
  method = method;
  item = 0;
  locals = arguments ++ replicate (max_locals_of p method - length arguments) value.Top;
  stack = [];
}

-- the methods that start classes: the first of them on top
abbrev pub start_frames : Program → List ℕ → List Frame
start_frames p methods = map (λ method. new_frame p method []) methods

-- the method is the one that starts its class
abbrev pub is_start : Outline → ℕ → Bool
is_start o method = of_start (start_of o.classes (class_of_method o method)) where
  of_start : Option ℕ → Bool
  of_start None = false
  of_start (Some start) = start == method

-- the item of a target of the frame's instruction
abbrev pub target_at : Program → Frame → ℕ → ℕ
target_at p f n = of_insn (next_insn p f) where
  of_insn : Option Insn → ℕ
  of_insn None = f.item
  of_insn (Some i) = slice_index_or (targets_of i) n f.item

-- the bytes before the frame's instruction
abbrev pub offset_at : Program → Frame → ℕ
offset_at p f = unwrap_or (option_and_then (λ code. option_map (λ (item : Item). item.offset) (slice_get code.items f.item)) (code_at p f.method)) 0

-- ---- exceptions (JVMS 2.10)

-- the entry's range holds the item, and it catches the type
abbrev pub catches : Program → Frame → TypeRef → Handler → Bool
catches p f t h = nat_le h.start f.item && nat_lt f.item h.end && takes_type where
  takes_type : Bool
  takes_type =
      if h.catch_class == 0 then true else
      unwrap_or (option_map (is_sub p.outline.classes t) (type_of_use p.outline (use_in p f.method h.catch_class))) false

-- the handler of the first entry that catches it
abbrev pub handler_among : Program → Frame → TypeRef → List Handler → Option ℕ
handler_among p f t [] = None
handler_among p f t (h ∷ handlers) = if catches p f t h then Some h.handler else handler_among p f t handlers

-- the item at which a frame goes on with a thrown object of this type
abbrev pub handler_of : Program → Frame → TypeRef → Option ℕ
handler_of p f t = option_and_then (λ (code : Code). handler_among p f t code.handlers) (code_at p f.method)

-- the type of a thrown object
abbrev pub type_at : Outline → Store → Value → TypeRef
type_at o store v = of_object (object_at store (cell_of v)) where
  of_object : Option Object → TypeRef
  of_object None = throwable_type o
  of_object (Some object) = type_numbered o object.class

-- the class of a thrown object's type
abbrev pub class_at_type : TypeRef → ℕ
class_at_type t = unwrap_or (class_of_type t) 0

-- the frames once it is caught, or how the run ends
pub data Caught : Type 0 where
  InFrames : List Frame → Caught
  Leaves : Ended → Caught

-- in a frame that has a handler for it, it is the only word of the stack; the start of a class
-- isn't left
abbrev pub caught_in : Program → Value → Frame → List Frame → Option ℕ → Caught → Caught
caught_in p v f callers (Some handler) below = InFrames (record f { item = handler; stack = v ∷ [] } ∷ callers)
caught_in p v f callers None below =
    if is_start p.outline f.method then Leaves (end.InitFailed (record { 0 = class_of_method p.outline f.method })) else below

-- frames without an entry that catches it are taken off; out of main, or out of the start of a class, the run ends
unfoldable pub caught : Program → TypeRef → Value → List Frame → Caught
caught p t v [] = Leaves (end.Uncaught (record { 0 = class_at_type t }))
caught p t v (f ∷ callers) = caught_in p v f callers (handler_of p f t) (caught p t v callers)

-- ---- the state after an effect

-- the state once the run has ended so
abbrev pub stopped : State → Ended → State
stopped x e = record x { ended = Some e }

-- a fault at a value's cell, which the topmost frame's instruction met
abbrev pub fault_of : Program → State → Value → Ended
fault_of p x v = of_frames x.frames where
  of_frames : List Frame → Ended
  of_frames [] = end.Fault (record { 0 = 0 }) 0 (cell_of v)
  of_frames (f ∷ callers) = end.Fault (record { 0 = f.method }) (offset_at p f) (cell_of v)

-- a value is returned to the frame below; the return of the start of a class leaves it as it is (JVMS 2.6.4)
abbrev pub returned : Program → ℕ → Frame → List Frame → State → State
returned p n f [] x = stopped x end.Returned
returned p n f (caller ∷ callers) x =
    if is_start p.outline f.method then record x { frames = caller ∷ callers }
    else record x { frames = record caller { item = caller.item + 1; stack = take n f.stack ++ caller.stack } ∷ callers }

-- the state once a thrown object is caught, or has left main or the start of a class
abbrev pub thrown_by : State → Caught → State
thrown_by x (InFrames frames) = record x { frames = frames }
thrown_by x (Leaves e) = stopped x e

-- the topmost frame goes on at an item
abbrev pub went : Sources → Effect → Frame → ℕ → Frame
went from e f item = record f { item = item; locals = written from e.writes f.locals; stack = stack_after from e f.stack }

-- the frames, where all actions are done and the areas are those of the state already
unfoldable pub continued : Program → Sources → Effect → Frame → List Frame → State → State
continued p from e f callers x = by_next e.next where
  goes_on : ℕ → State
  goes_on item = record x { frames = went from e f item ∷ callers }

  by_next : Next → State
  by_next Falls = goes_on (f.item + 1)
  by_next (Jumps n) = goes_on (target_at p f n)
  by_next (JumpsIfSame same) =
      let is_same = same_cell (word_at f.stack 0) (word_at f.stack 1) in
      goes_on (if (if same then is_same else not is_same) then target_at p f 0 else f.item + 1)
  by_next (Calls m) = record x { frames = new_frame p m (reverse (take e.takes f.stack)) ∷ record f { stack = drop e.takes f.stack } ∷ callers }
  by_next (Returns n) = returned p n f callers x
  by_next (Throws source) =
      let v = value_of from source in thrown_by x (caught p (type_at p.outline x.areas.store v) v (f ∷ callers))
  by_next (Enters methods) = record x { frames = start_frames p methods ++ f ∷ callers }
  by_next (Exits n) = stopped x (end.Exit n)
  by_next (Faults source) = stopped x (fault_of p x (value_of from source))

-- the input after a byte is read
abbrev pub input_after : Bool → List ℕ → List ℕ
input_after reads input = if reads then drop 1 input else input

-- a step that ends in a fault isn't done
abbrev pub is_done : Next → Bool
is_done (Faults source) = false
is_done next = true

-- the state where this is the result of the actions; the step is counted unless it isn't done
abbrev pub finished : Program → ℕ → Effect → State → Performed → State
finished p price e x (FullAt areas needed) =
    stopped (record x { areas = areas }) (end.StoreFull areas.store.made_words (cell_words needed))
finished p price e x (LostAt v) = stopped x (fault_of p x v)
finished p price e x (Did areas made) = of_frames x.frames where
  after : State
  after = record x {
    areas = areas;
    input = input_after e.reads x.input;
    steps = (if is_done e.next then x.steps + price else x.steps);
  }

  of_frames : List Frame → State
  of_frames [] = after
  of_frames (f ∷ callers) =
      continued p (record { locals = f.locals; stack = f.stack; areas = areas; made = made }) e f callers after

-- ---- the step

-- what is printed where all actions were done
abbrev pub printed_by : Effect → Performed → List ℕ
printed_by e (Did areas made) = e.prints
printed_by e (FullAt areas needed) = []
printed_by e (LostAt v) = []

-- the state and what is printed after an effect that is carried out, at this price
abbrev pub done_by : Program → ℕ → Effect → State → Performed → Moved
done_by p price e x result = record { state = finished p price e x result; printed = printed_by e result }

-- the step isn't done: nothing is printed, and the run ends so
abbrev pub halted : State → Ended → Moved
halted x e = record { state = stopped x e; printed = [] }

-- more frames than may be come before more words than may live
abbrev pub attempted : Program → Choose → State → Effect → Moved
attempted p choose x e =
    if is_deep x e.next then halted x (end.TooDeep (length x.frames)) else
    if is_over p.outline x.areas e.actions then halted x (end.Exhausted (live_words x.areas.store) (words_made p.outline x.areas e.actions)) else
    done_by p (max 1 (objects_made e.actions)) e x (performed p.outline choose (locals_of x) (stack_of x) e.actions x.areas [])

-- a run that has ended stays as it is
unfoldable pub step : Program → Choose → State → Moved
step p choose x = of_end x.ended where
  of_end : Option Ended → Moved
  of_end (Some e) = record { state = x; printed = [] }
  of_end None = attempted p choose x (next_effect p x)
