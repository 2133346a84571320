-- What holds of each state that the run of a typed program reaches, whatever it frees (JVMS 2.6,
-- 4.10): its areas have the sizes of the program, its objects are of types of which objects are
-- made and hold values of their kinds, and each frame has what the checker knows of its item.
use Rattle.std.specs.Prelude.{◌≡◌, ℕ, ℤ, ◌+◌, ◌*◌, ◌^◌, ◌<◌, ◌≤◌, ◌⊎◌, Bool, true, false, List, [], ◌∷◌, length, drop, Option, Some, None, if◌then◌else◌}
use Rattle.std.specs.FinMap as map
use Rattle.std.specs.List.{AllZip, flat_map, slice_index_or}
use Rattle.fm_base.specs.declared.kinds.Kind.{Kind}
use Rattle.fm_base.specs.declared.kinds.Kind.TheVariants as kind
use Rattle.fm_base.specs.declared.kinds.TypeRef.{TypeRef}
use Rattle.fm_base.specs.declared.limits.TheConstants.{MAX_LIVE_WORDS}
use Rattle.fm_cells.specs.Objects.{Object}
use Rattle.fm_cells.specs.Stores.{object_at}
use Rattle.fm_code.specs.AccessFlags.{is_abstract, is_interface, is_static}
use Rattle.fm_code.specs.declared.code_array.Code.{Code}
use Rattle.fm_code.specs.declared.instructions.Insn.{Insn}
use Rattle.fm_code.specs.declared.instructions.Insn.TheVariants as insn
use Rattle.fm_types.specs.States.{TypeState}
pub use Rattle.fm_types.specs.States.{Typings}
use Rattle.fm_types.specs.Typed.{IsTyping, state_at, use_by}
use Rattle.fm_types.specs.declared.slots.Slot.{Slot}
use Rattle.fm_types.specs.declared.slots.Slot.TheVariants as slot
use Rattle.fm_world.specs.Chains.{class_at}
use Rattle.fm_world.specs.Members.{fields_of, field_kind, method_at, OwnedField, size_of}
use Rattle.fm_world.specs.Programs.{class_of_type, code_at, kind_at, Outline, Program}
use Rattle.fm_world.specs.declared.uses.Use.{Use}
use Rattle.fm_world.specs.declared.uses.Use.TheVariants as resolved
use Rattle.fm_frames.specs.CallRows.{words_of_arguments}
use Rattle.fm_frames.specs.Elements.{int_bits, is_text_type, pack_of}
use Rattle.fm_frames.specs.Literals.{literal_count}
use Rattle.fm_frames.specs.Sights.{type_numbered}
use Rattle.fm_frames.specs.States.{Areas, Frame, State}
use Rattle.fm_frames.specs.Steps.{next_insn, is_start}
use Rattle.fm_frames.specs.declared.values.Value.{Value}
use Rattle.fm_frames.specs.declared.values.Value.TheVariants as value

-- ---- values by their kinds

-- the value is a reference, null too
abbrev pub IsReference : Value → Type 0
IsReference value.Top = ⊥
IsReference (value.Int n) = ⊥
IsReference (value.Long n) = ⊥
IsReference (value.Ref cell) = Unit {0}

-- the value on a stack where the checker has a slot: Top is the second half of a long, and a
-- reference is only required to be one (JVMS 2.6.2)
abbrev pub HasKind : Slot → Value → Type 0
HasKind slot.Top v = v ≡ value.Top
HasKind slot.Int v = (n : ℤ) × (v ≡ value.Int n)
HasKind slot.Long v = (n : ℤ) × (v ≡ value.Long n)
HasKind slot.Null v = IsReference v
HasKind (slot.Ref t) v = IsReference v
HasKind (slot.Uninit item) v = IsReference v
HasKind slot.UninitThis v = IsReference v

-- the value in a local: where the checker has Top it may be any (JVMS 2.6.1)
abbrev pub LocalHasKind : Slot → Value → Type 0
LocalHasKind slot.Top v = Unit {0}
LocalHasKind s v = HasKind s v

-- the words of a stack have the kinds of its slots, one for each
abbrev pub HaveKinds : List Slot → List Value → Type 0
HaveKinds slots words = AllZip HasKind slots words

-- the locals have the kinds of their slots, one for each
abbrev pub LocalsHaveKinds : List Slot → List Value → Type 0
LocalsHaveKinds slots locals = AllZip LocalHasKind slots locals

-- the locals and the stack have the kinds of a state
pub record FrameHasKinds (s : TypeState) (locals stack : List Value) : Type 0 where
  pub in_locals : LocalsHaveKinds s.locals locals
  pub in_stack : HaveKinds s.stack stack

-- ---- static fields

-- the slot of a value of a kind as one field has it, in one place
abbrev pub field_slot : Kind → Slot
field_slot kind.Boolean = slot.Int
field_slot kind.Byte = slot.Int
field_slot kind.Char = slot.Int
field_slot kind.Short = slot.Int
field_slot kind.Int = slot.Int
field_slot kind.Long = slot.Long
field_slot (kind.Ref t) = slot.Ref t

-- the slots of the static fields in the order of their places, one for each
abbrev pub static_slots : Outline → List Slot
static_slots o = flat_map of_field (fields_of o.classes) where
  of_field : OwnedField → List Slot
  of_field f = if is_static f.field.flags then field_slot (field_kind o.classes f.field) ∷ [] else []

-- ---- objects

-- objects of the type are made: it is an array, or a class that is neither abstract nor an interface
abbrev pub HasObjects : Outline → TypeRef → Type 0
HasObjects o t = of_class (class_of_type t) where
  of_class : Option ℕ → Type 0
  of_class None = Unit {0}
  of_class (Some class) = (is_abstract (class_at o.classes class).flags ≡ false) × (is_interface (class_at o.classes class).flags ≡ false)

-- an object of a class has its size; an array, and what is kept as units, have any number of elements below 2^31
abbrev pub HasLengthBy : Outline → (is_text : Bool) → Option ℕ → ℕ → Type 0
HasLengthBy o true class n = n < 2 ^ 31
HasLengthBy o false None n = n < 2 ^ 31
HasLengthBy o false (Some class) n = n ≡ size_of o.classes class

-- an object of the type has this many elements
abbrev pub HasLength : Outline → TypeRef → ℕ → Type 0
HasLength o t n = HasLengthBy o (is_text_type o t) (class_of_type t) n

-- an element that is a number lies within the bits of its kind, a boolean's one bit among them; one that is a reference is a cell, of which nothing
-- is asked here (JVMS 2.3)
abbrev pub ElementFits : Kind → ℕ → Type 0
ElementFits (kind.Ref t) n = Unit {0}
ElementFits k n = n < 2 ^ int_bits k

-- each element has the kind that its place has in objects of the type
abbrev pub ElementsFit : Outline → TypeRef → List ℕ → Type 0
ElementsFit o t elements = (place : ℕ) (k : Kind) → kind_at o.classes t place ≡ Some k → ElementFits k (slice_index_or elements place 0)

-- the units of a text are those of chars
abbrev pub UnitsFit : Outline → TypeRef → List ℕ → Type 0
UnitsFit o t elements = is_text_type o t ≡ true → (place : ℕ) → slice_index_or elements place 0 < 2 ^ 16

-- an object of a type: objects of that type are made, and it has its length, its packing and elements of its kinds
pub record IsObjectOf (o : Outline) (object : Object) (t : TypeRef) : Type 0 where
  pub made : HasObjects o t
  pub len : HasLength o t (length object.elements)
  pub pack : object.pack ≡ pack_of o t
  pub elements : ElementsFit o t object.elements
  pub units : UnitsFit o t object.elements

-- the number of an object's type is that of a type of the program, and the object is one of that type
pub record IsObjectIn (o : Outline) (object : Object) : Type 0 where
  pub numbered : object.class < length o.types
  pub of_type : IsObjectOf o object (type_numbered o object.class)

-- ---- frames

-- A frame is at an item that can be reached of a method that has code, and its locals and its stack
-- have what the method's state before that item says; but for `words` words on top, which were
-- taken as arguments.
pub record StandsWithout (p : Program) (typings : Typings) (words : ℕ) (f : Frame) : Type 0 where
  pub code : Code
  pub code_is : code_at p f.method ≡ Some code
  pub known : TypeState
  pub at : state_at (typings f.method) f.item ≡ Some known
  pub locals : LocalsHaveKinds known.locals f.locals
  pub stack : HaveKinds (drop words known.stack) f.stack

-- the words that a call takes of the stack, where the instruction is one and names this method; a static method has no receiver (JVMS 6.5.invokestatic)
abbrev pub words_of_call : Outline → Insn → ℕ → Option ℕ
words_of_call o (insn.Virtual index) method = Some (words_of_arguments o method + 1)
words_of_call o (insn.Interface index) method = Some (words_of_arguments o method + 1)
words_of_call o (insn.Special index) method = Some (words_of_arguments o method + 1)
words_of_call o (insn.Static index) method = Some (words_of_arguments o method)
words_of_call o i method = None

-- the method that an instruction names
abbrev pub method_named : Program → Frame → Insn → Option ℕ
method_named p g i = of_use (use_by p g.method i) where
  of_use : Use → Option ℕ
  of_use (resolved.OfMethod m t) = Some m.0
  of_use u = None

-- The frame on top was called by the one below it, which is at the call: that names a method of the
-- same name and descriptor, whose words are taken already (JVMS 2.6.4).
pub record Calling (p : Program) (typings : Typings) (f g : Frame) : Type 0 where
  pub called : Insn
  pub at : next_insn p g ≡ Some called
  pub named : ℕ
  pub names : method_named p g called ≡ Some named
  pub same_name : (method_at p.outline.classes f.method).method.name ≡ (method_at p.outline.classes named).method.name
  pub same_descriptor : (method_at p.outline.classes f.method).method.descriptor ≡ (method_at p.outline.classes named).method.descriptor
  pub is_no_start : is_start p.outline f.method ≡ false
  pub words : ℕ
  pub takes : words_of_call p.outline called named ≡ Some words
  pub stands : StandsWithout p typings words g

-- The frame on top starts a class for the one below it, which does its instruction later: it has all its words, and may be one that hasn't begun
-- (JVMS 5.5).
pub record Starting (p : Program) (typings : Typings) (f g : Frame) : Type 0 where
  pub starts : is_start p.outline f.method ≡ true
  pub stands : StandsWithout p typings 0 g

-- the frames below this one, each below the one on top of it; the lowest is of main
abbrev pub StandBelow : Program → Typings → Frame → List Frame → Type 0
StandBelow p typings f [] = f.method ≡ p.outline.main
StandBelow p typings f (g ∷ callers) = (Calling p typings f g ⊎ Starting p typings f g) × StandBelow p typings g callers

-- all frames, the topmost first: that one has all its words
abbrev pub Stand : Program → Typings → List Frame → Type 0
Stand p typings [] = Unit {0}
Stand p typings (f ∷ callers) = StandsWithout p typings 0 f × StandBelow p typings f callers

-- ---- the state

-- what the frames share has the sizes and the kinds of the program
pub record AreasAreSound (o : Outline) (x : Areas) : Type 0 where
  -- a value of its kind for each static field, a mark for each class, a cell for each literal
  pub statics : HaveKinds (static_slots o) x.statics
  pub started : length x.started ≡ length o.classes
  pub literals : length x.literals ≡ literal_count o
  -- each object that is held
  pub heap : (cell : ℕ) (object : Object) → object_at x.store cell ≡ Some object → IsObjectIn o object
  -- what was made is held or was freed
  pub freed : x.frees + length (map.entries x.store.held) ≡ x.store.births
  pub freed_words : x.freed_words ≤ 2 ^ 32 * x.frees

-- the states are a typing of each method that has code
abbrev pub AreTyped : Program → Typings → Type 0
AreTyped p typings = (method : ℕ) (code : Code) → code_at p method ≡ Some code → IsTyping p method (typings method)

-- a state is sound by these states of the items of each method
pub record IsSoundBy (p : Program) (typings : Typings) (x : State) : Type 0 where
  -- each method that has code is typed so
  pub typed : AreTyped p typings
  pub areas : AreasAreSound p.outline x.areas
  -- the frames, of which there is one while the run goes on, and no more than may be
  pub frames : Stand p typings x.frames
  pub running : x.ended ≡ None → 0 < length x.frames
  pub within : length x.frames ≤ x.depth

-- a state is sound by some states of the items, and the words that may live are as many as `fmrun` allows at most
abbrev pub IsSound : Program → State → Type 0
IsSound p x = (typings : Typings) × IsSoundBy p typings x × (x.areas.store.budget ≤ MAX_LIVE_WORDS)
