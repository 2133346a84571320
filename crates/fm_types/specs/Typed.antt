-- What it means that a method is typed: there is a state for each item that can be reached, such that each row is met and each edge leads to a state
-- that the one it brings fits (JVMS 4.10). How the states are found is left open.
use Rattle.std.specs.Prelude.{◌≡◌, ℕ, ◌-◌, ◌==◌, ◌≤◌, ◌↔◌, true, not, List, [], ◌∷◌, ◌++◌, length, replicate, Option, Some, None, is_some, option_and_then, IsSomeAnd, if◌then◌else◌, slice_get}
use Rattle.std.specs.List.{flat_map, slice_index_or, AllByRecursion}
use Rattle.fm_base.specs.declared.kinds.TypeRef.{TypeRef}
use Rattle.fm_code.specs.AccessFlags.{is_static}
use Rattle.fm_code.specs.Edges.{Catches, FallsOff, insn_of, IsNormalEdge, IsReachable}
use Rattle.fm_code.specs.declared.code_array.Code.{Code}
use Rattle.fm_code.specs.declared.code_array.Handler.{Handler}
use Rattle.fm_code.specs.declared.instructions.Insn.{Insn}
use Rattle.fm_code.specs.declared.instructions.Insn.TheVariants as insn
use Rattle.fm_types.specs.CallRows.{is_constructor}
use Rattle.fm_types.specs.Fits.{fits_type}
use Rattle.fm_types.specs.Named.{class_of_method, parameters_of, this_class, throwable_type}
use Rattle.fm_types.specs.Rows.{row_after}
use Rattle.fm_types.specs.States.{is_whole, local_slots, state_fits, TypeState}
use Rattle.fm_types.specs.declared.slots.Slot.{Slot}
use Rattle.fm_types.specs.declared.slots.Slot.TheVariants as slot
use Rattle.fm_world.specs.Members.{method_at}
use Rattle.fm_world.specs.Numbers.{type_of_class}
use Rattle.fm_world.specs.Programs.{code_at, Outline, Program, use_of}
use Rattle.fm_code.specs.Operands.{pool_index}
use Rattle.fm_world.specs.declared.uses.Use.{Use}
use Rattle.fm_world.specs.declared.uses.Use.TheVariants as resolved

-- ---- what an item of a method names

-- what an index of the method's class is resolved to
abbrev pub use_in : Program → ℕ → ℕ → Use
use_in p method index = use_of p (class_of_method p.outline method) index

-- what the index that an instruction names is resolved to
abbrev pub use_by : Program → ℕ → Insn → Use
use_by p method i = of_index (pool_index i) where
  of_index : Option ℕ → Use
  of_index None = resolved.Unused
  of_index (Some index) = use_in p method index

-- the type that an index names, if it names one
abbrev pub type_of_use : Outline → Use → Option TypeRef
type_of_use o (resolved.OfType t) = slice_get o.types t.0
type_of_use o u = None

-- the type of which the `new` of an item makes an object
abbrev pub made_at : Program → ℕ → Code → ℕ → Option TypeRef
made_at p method code item = option_and_then of_insn (insn_of code item) where
  of_insn : Insn → Option TypeRef
  of_insn (insn.New index) = type_of_use p.outline (use_in p method index)
  of_insn i = None

-- ---- states that are given

-- the receiver's slot: none of a static method, and in a constructor an object that isn't initialised
abbrev pub receiver_slots : Outline → ℕ → List Slot
receiver_slots o method =
    if is_static (method_at o.classes method).method.flags then [] else
    if is_constructor o method then slot.UninitThis ∷ [] else
    slot.Ref (type_of_class (this_class o method)) ∷ []

-- the receiver and the parameters are in the first locals
abbrev pub entry_slots : Outline → ℕ → List Slot
entry_slots o method = receiver_slots o method ++ flat_map local_slots (parameters_of o method)

-- the state of item 0
unfoldable pub entry_state : Outline → ℕ → Code → TypeState
entry_state o method code =
    let slots = entry_slots o method in
    record { locals = slots ++ replicate (code.max_locals - length slots) slot.Top; stack = []; built = not (is_constructor o method) }

-- the class that an entry of the exception table catches: Throwable where it names none
unfoldable pub caught_type : Program → ℕ → Handler → Option TypeRef
caught_type p method h =
    if h.catch_class == 0 then Some (throwable_type p.outline)
    else option_and_then below (type_of_use p.outline (use_in p method h.catch_class)) where
      below : TypeRef → Option TypeRef
      below t = if fits_type p.outline.classes t (throwable_type p.outline) then Some t else None

-- the state that an item brings to a handler: its own locals, and what is caught as the only word of the stack
abbrev pub handler_state : TypeRef → TypeState → TypeState
handler_state caught s = record s { stack = slot.Ref caught ∷ [] }

-- ---- typings

-- the state of an item; none where it can't be reached
abbrev pub state_at : List (Option TypeState) → ℕ → Option TypeState
state_at states j = slice_index_or states j None

-- what is brought to an item fits its state
abbrev pub FitsAt : Program → List (Option TypeState) → ℕ → TypeState → Type 0
FitsAt p states j brought = IsSomeAnd (state_at states j) (λ s. state_fits p.outline brought s ≡ true)

-- the state after an item, where the one before meets its row
abbrev pub after_item : Program → ℕ → Code → ℕ → TypeState → Option TypeState
after_item p method code j s =
    option_and_then (λ i. row_after p.outline method j (made_at p method code) (use_by p method i) i s) (insn_of code j)

-- where the entry's range holds the item, its handler's state takes what the item brings
abbrev pub FitsHandler : Program → ℕ → List (Option TypeState) → ℕ → TypeState → Handler → Type 0
FitsHandler p method states j s h =
    Catches j h.handler h → IsSomeAnd (caught_type p method h) (λ caught. FitsAt p states h.handler (handler_state caught s))

-- an item's state is within the method's counts, meets its row, and what it brings fits the states at the ends of its edges
pub record MeetsItem (p : Program) (method : ℕ) (code : Code) (states : List (Option TypeState)) (j : ℕ) (s : TypeState) : Type 0 where
  pub locals : length s.locals ≡ code.max_locals
  pub stack : length s.stack ≤ code.max_stack
  pub whole : is_whole s.stack ≡ true
  pub row : IsSomeAnd (after_item p method code j s) (λ after. (next : ℕ) → IsNormalEdge code j next → FitsAt p states next after)
  pub handlers : AllByRecursion (FitsHandler p method states j s) code.handlers

-- the states are those of the reachable items; the first is that of the parameters, and each meets what is asked of its item
pub record IsTypingOf (p : Program) (method : ℕ) (code : Code) (states : List (Option TypeState)) : Type 0 where
  pub one_each : length states ≡ length code.items
  pub reachable : (j : ℕ) → (is_some (state_at states j) ≡ true) ↔ (IsReachable code j)
  pub stays_inside : ¬ FallsOff code
  pub first : state_at states 0 ≡ Some (entry_state p.outline method code)
  pub items : (j : ℕ) (s : TypeState) → state_at states j ≡ Some s → MeetsItem p method code states j s

-- the states are a typing of the method, which has code
abbrev pub IsTyping : Program → ℕ → List (Option TypeState) → Type 0
IsTyping p method states = IsSomeAnd (code_at p method) (λ code. IsTypingOf p method code states)

-- some states are
abbrev pub Typed : Program → ℕ → Type 0
Typed p method = (states : List (Option TypeState)) × IsTyping p method states
