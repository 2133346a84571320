-- The pairs of a method as a list of numbers of nodes, item by item, in the order in which the code lists them.
use Rattle.std.specs.Prelude.{◌≡◌, ◌<◌, ◌+◌, ◌-◌, ℕ, Bool, List, [], ◌∷◌, ◌++◌, length, map, Option, Some, None, if◌then◌else◌}
use Rattle.std.specs.List.{flat_map, list_any, range_with_len, slice_index_or}
use Rattle.fm_base.specs.Rows.{has}
use Rattle.fm_base.specs.declared.kinds.Kind.{Kind}
use Rattle.fm_code.specs.Edges.{falls_through, insn_of}
use Rattle.fm_code.specs.SpellsCode.{targets_of}
use Rattle.fm_code.specs.declared.code_array.Handler.{Handler}
use Rattle.fm_code.specs.declared.instructions.Insn.{Insn}
use Rattle.fm_types.specs.Named.{result_of}
use Rattle.fm_types.specs.States.{is_reference, TypeState}
use Rattle.fm_types.specs.Typed.{state_at, IsTypingOf}
use Rattle.fm_types.specs.Typings.{states_of}
use Rattle.fm_types.specs.declared.slots.Slot as slots
use Rattle.fm_types.specs.declared.slots.Slot.TheVariants as slot
use Rattle.fm_world.specs.Members.{methods_of}
use Rattle.fm_world.specs.Programs.{IsTypeIn, Outline, targets}
use Rattle.fm_world.specs.declared.calls.Call.{Call}
use Rattle.fm_world.specs.declared.uses.Use.{Use}
use Rattle.fm_conn.specs.Nodes.{TypedMethod}
use Rattle.fm_conn.specs.Pairs.{call_of, use_at}
use Rattle.fm_conn.specs.Rows.{is_reference_kind, joined_by, RowPlace, Taken, Given, InLocal, AsResult, Outside, words_taken}
use Rattle.fm_conn.specs.Shapes.{HasUsesIn}
use Rattle.fm_conn.specs.Summaries.{ends_at}
use Rattle.fm_conn.specs.declared.ends.End2.{End2}
use Rattle.fm_conn.specs.declared.ends.End2.TheVariants as end
use Rattle.fm_conn.specs.declared.item_nodes.ItemNodes.{ItemNodes}
use Rattle.fm_conn.specs.declared.analysed_method.AnalysedMethod.{AnalysedMethod}
use Rattle.fm_conn.specs.declared.shapes.CallShape.{CallShape}
use Rattle.fm_conn.specs.declared.summaries.Summaries.{Summaries}
use Rattle.fm_conn.specs.inner.ListedEnds.{link_pairs}
use Rattle.fm_conn.specs.inner.NodeTables.{class_at, global_number, local_number, NodeTable, return_number, slot_number, table_of}

-- the method that is asked, as definitions see it
abbrev pub method_in : AnalysedMethod → TypedMethod
method_in m = record { program = m.program.now; number = m.number.0; code = m.code.now; states = states_of m.typing.now }

-- the method is there, and has few items, each with a state or none; what its uses name is there
pub record IsAsked (m : AnalysedMethod) : Type 0 where
  pub number : m.number.0 < length (methods_of m.program.now.outline.classes)
  pub uses : HasUsesIn m.program.now
  pub few : length m.code.now.items < 65536
  pub one_each : length m.typing.now.states ≡ length m.code.now.items

-- the states are a typing of it
abbrev pub IsTypedAs : AnalysedMethod → Type 0
IsTypedAs m = IsTypingOf m.program.now m.number.0 m.code.now (states_of m.typing.now)

-- a pair, where both are nodes
abbrev pub number_pair : Option ℕ → Option ℕ → List (ℕ × ℕ)
number_pair (Some a) (Some b) = (a, b) ∷ []
number_pair a b = []

-- ---- an item that can be reached

-- its number, its instruction with what that names, how many words its stack has, and how many of them lie below those that it takes
pub record ItemPlace : Type 0 where
  pub item : ℕ
  pub insn : Insn
  pub resolved : Use
  pub depth : ℕ
  pub below : ℕ

-- the place of an item whose nodes are numbered
abbrev pub place_of : ItemNodes → ItemPlace
place_of x = record { item = x.item; insn = x.insn.now; resolved = x.resolved; depth = x.depth; below = x.below }

-- an item whose stack has this many words
abbrev pub place_with : TypedMethod → ℕ → Insn → ℕ → ItemPlace
place_with x j i depth =
    record { item = j; insn = i; resolved = use_at x i; depth = depth; below = depth - words_taken x.program.outline (use_at x i) i }

-- the place of an item with its state
abbrev pub place_at : TypedMethod → ℕ → Insn → TypeState → ItemPlace
place_at x j i s = place_with x j i (length s.stack)

-- the place of an item that is reached
abbrev pub place_in : TypedMethod → ℕ → Option TypeState → Option Insn → Option ItemPlace
place_in x j (Some s) (Some i) = Some (place_at x j i s)
place_in x j s i = None

-- none where it can't be reached
unfoldable pub located : TypedMethod → ℕ → Option ItemPlace
located x j = place_in x j (state_at x.states j) (insn_of x.code j)

-- the pairs of a place, none where there is no place
abbrev pub at_place : Option ItemPlace → (ItemPlace → List (ℕ × ℕ)) → List (ℕ × ℕ)
at_place None list = []
at_place (Some place) list = list place

-- ---- what an item pairs, but for calls

-- the number of the node at a place of a row
abbrev pub place_number : NodeTable → ItemPlace → RowPlace → Option ℕ
place_number t x (Taken n) = slot_number t x.item (x.depth - 1 - n)
place_number t x (Given n) = slot_number t (x.item + 1) (x.below + n)
place_number t x (InLocal k) = local_number t k
place_number t x AsResult = Some (return_number t)
place_number t x Outside = Some (global_number t)

-- a pair of a row, by numbers
abbrev pub place_pair : NodeTable → ItemPlace → RowPlace × RowPlace → List (ℕ × ℕ)
place_pair t x places = number_pair (place_number t x places.0) (place_number t x places.1)

-- the pairs of a row, by numbers
abbrev pub joined_pairs : NodeTable → ItemPlace → List (RowPlace × RowPlace) → List (ℕ × ℕ)
joined_pairs t x places = flat_map (place_pair t x) places

-- the words that stay, at an item that follows
unfoldable pub stay_pairs : NodeTable → ItemPlace → ℕ → List (ℕ × ℕ)
stay_pairs t x next = flat_map (λ depth. number_pair (slot_number t x.item depth) (slot_number t next depth)) (range_with_len 0 x.below)

-- the item after an item that goes on to it
abbrev pub following : ItemPlace → List ℕ
following x = if falls_through x.insn then (x.item + 1) ∷ [] else []

-- the slots that an item leaves are joined to themselves at each item that follows
abbrev pub staying_pairs : NodeTable → ItemPlace → List (ℕ × ℕ)
staying_pairs t x = flat_map (stay_pairs t x) (targets_of x.insn) ++ flat_map (stay_pairs t x) (following x)

-- all that an item pairs, but for calls
abbrev pub item_pairs : NodeTable → Outline → ItemPlace → List (ℕ × ℕ)
item_pairs t o x = staying_pairs t x ++ joined_pairs t x (joined_by o x.resolved x.insn)

-- all that the item at a place pairs, but for calls
abbrev pub item_pairs_at : TypedMethod → ℕ → List (ℕ × ℕ)
item_pairs_at x j = at_place (located x j) (item_pairs (table_of x) x.program.outline)

-- what is caught, where an item of the range can be reached
unfoldable pub caught_pairs : NodeTable → List Bool → Handler → List (ℕ × ℕ)
caught_pairs t reached h =
    if list_any (λ j. has reached j) (range_with_len h.start (h.end - h.start)) then number_pair (slot_number t h.handler 0) (Some (global_number t)) else []

-- all that a method pairs, but for calls: its items and its handlers
abbrev pub own_pairs : TypedMethod → List Bool → List (ℕ × ℕ)
own_pairs x reached =
    flat_map (item_pairs_at x) (range_with_len 0 (length x.code.items)) ++ flat_map (caught_pairs (table_of x) reached) x.code.handlers

-- ---- calls

-- an end with the number of its node
abbrev pub end_entry : End2 → Option ℕ → List (End2 × ℕ)
end_entry e None = []
end_entry e (Some number) = (e, number) ∷ []

-- the nodes of the ends of a method that is called
unfoldable pub stand_ins : NodeTable → ItemPlace → List (End2 × ℕ)
stand_ins t x =
    flat_map (λ k. end_entry (end.Parameter k) (slot_number t x.item (x.below + k))) (range_with_len 0 (x.depth - x.below))
    ++ end_entry end.Return (place_number t x (Given 0))
    ++ (end.Global, global_number t) ∷ []

-- the stand-ins of ends that targets link are paired
unfoldable pub pairs_of_targets : Summaries → List (End2 × ℕ) → List ℕ → List (ℕ × ℕ)
pairs_of_targets s ends called = flat_map (λ target. link_pairs ends (ends_at s target)) called

-- what a call pairs, by the summaries of its targets
abbrev pub pairs_of_call : TypedMethod → Summaries → List (End2 × ℕ) → Call → List (ℕ × ℕ)
pairs_of_call x s ends called = pairs_of_targets s ends (targets x.program called)

-- all that the call names is there
pub record IsCallIn (o : Outline) (called : Call) : Type 0 where
  pub caller : called.caller.0 < length o.classes
  pub method : called.method.0 < length (methods_of o.classes)
  pub named : IsTypeIn o.classes called.named

-- what the call of a place pairs, nothing where it isn't a call
abbrev pub call_pairs_in : TypedMethod → Summaries → ItemPlace → Option Call → List (ℕ × ℕ)
call_pairs_in x summaries place None = []
call_pairs_in x summaries place (Some called) = pairs_of_call x summaries (stand_ins (table_of x) place) called

-- what a place pairs as a call
abbrev pub call_pairs : TypedMethod → Summaries → ItemPlace → List (ℕ × ℕ)
call_pairs x summaries place = call_pairs_in x summaries place (call_of x place.insn)

-- what the item at a place pairs as a call
abbrev pub call_pairs_at : TypedMethod → Summaries → ℕ → List (ℕ × ℕ)
call_pairs_at x summaries j = at_place (located x j) (call_pairs x summaries)

-- all that a method pairs
abbrev pub all_pairs : TypedMethod → List Bool → Summaries → List (ℕ × ℕ)
all_pairs x reached summaries =
    own_pairs x reached ++ flat_map (call_pairs_at x summaries) (range_with_len 0 (length x.code.items))

-- ---- shapes

-- the ends of the method: a parameter is a local that holds a reference at first
abbrev pub parameter_entry : List ℕ → List slots.Slot → ℕ → List (End2 × ℕ)
parameter_entry least locals k =
    if is_reference (slice_index_or locals k slot.Top) then (end.Parameter k, class_at least k) ∷ [] else []

-- the parameters that are references by the state of the first item, with their classes
abbrev pub parameters_in : ℕ → List ℕ → Option TypeState → List (End2 × ℕ)
parameters_in most least None = []
parameters_in most least (Some s) = flat_map (parameter_entry least s.locals) (range_with_len 0 most)

-- the parameters of a method that are references, with their classes
abbrev pub parameter_entries : TypedMethod → List ℕ → List (End2 × ℕ)
parameter_entries x least = parameters_in x.code.max_locals least (state_at x.states 0)

-- Return with its class, where a reference is returned
abbrev pub result_in : TypedMethod → List ℕ → Option Kind → List (End2 × ℕ)
result_in x least None = []
result_in x least (Some kind) = if is_reference_kind kind then (end.Return, class_at least (return_number (table_of x))) ∷ [] else []

-- Return of a method with its class, where it returns a reference
abbrev pub result_entry : TypedMethod → List ℕ → List (End2 × ℕ)
result_entry x least = result_in x least (result_of x.program.outline x.number)

unfoldable pub end_entries : TypedMethod → List ℕ → List (End2 × ℕ)
end_entries x least =
    parameter_entries x least ++ result_entry x least ++ (end.Global, class_at least (global_number (table_of x))) ∷ []

-- the calls
abbrev pub with_classes : List ℕ → List (End2 × ℕ) → List (End2 × ℕ)
with_classes least ends = map (λ x. (x.0, class_at least x.1)) ends

-- the call of a place with the classes of its ends
abbrev pub call_shape_in : TypedMethod → List ℕ → ItemPlace → Option Call → List CallShape
call_shape_in x least place None = []
call_shape_in x least place (Some called) = record { call = called; ends = with_classes least (stand_ins (table_of x) place) } ∷ []

-- what a place calls, with the classes of its ends
abbrev pub call_shape : TypedMethod → List ℕ → ItemPlace → List CallShape
call_shape x least place = call_shape_in x least place (call_of x place.insn)

-- what a place calls, nothing where there is no place
abbrev pub shape_at_place : TypedMethod → List ℕ → Option ItemPlace → List CallShape
shape_at_place x least None = []
shape_at_place x least (Some place) = call_shape x least place

-- what the item at a place calls
abbrev pub call_shape_at : TypedMethod → List ℕ → ℕ → List CallShape
call_shape_at x least j = shape_at_place x least (located x j)

unfoldable pub call_shapes : TypedMethod → List ℕ → List CallShape
call_shapes x least = flat_map (call_shape_at x least) (range_with_len 0 (length x.code.items))
