-- What holds of each state that the run of a typed program reaches which calls no FreeMe (JVMS 2.5,
-- 2.6, 4.10): each cell that a frame, a static field, an object or a literal leads to is null's, or
-- an object lies in it, of a type that fits its place. Interfaces count as Object, as where states
-- are checked.
use Rattle.std.specs.Prelude.{◌≡◌, ℕ, ◌-◌, ◌⊎◌, Bool, true, false, List, length, drop, Option, Some, None, slice_get}
use Rattle.std.specs.List.{AllByRecursion, AllZip, slice_index_or}
use Rattle.fm_base.specs.declared.ids.MethodId.{MethodId}
use Rattle.fm_base.specs.declared.kinds.Kind.TheVariants as kind
use Rattle.fm_base.specs.declared.kinds.TypeRef.{TypeRef}
use Rattle.fm_cells.specs.Objects.{Object}
use Rattle.fm_cells.specs.Stores.{object_at, Store}
use Rattle.fm_code.specs.declared.code_array.Code.{Code}
use Rattle.fm_types.specs.CallRows.{is_type}
use Rattle.fm_types.specs.Fits.{fits_type}
use Rattle.fm_types.specs.Named.{this_class}
use Rattle.fm_types.specs.States.{TypeState}
use Rattle.fm_types.specs.Typed.{made_at, state_at}
use Rattle.fm_types.specs.declared.slots.Slot.{Slot}
use Rattle.fm_types.specs.declared.slots.Slot.TheVariants as slot
use Rattle.fm_world.specs.Chains.{chain_of, is_among, same_type}
use Rattle.fm_world.specs.Programs.{class_of_type, code_at, Outline, Program}
use Rattle.fm_frames.specs.Acts.{cell_of, literal_type}
use Rattle.fm_frames.specs.Elements.{is_string_type}
use Rattle.fm_frames.specs.Sights.{has_hidden_field, type_numbered}
use Rattle.fm_frames.specs.States.{Areas, Frame, State, word_at}
use Rattle.fm_frames.specs.declared.ends.Ended.TheVariants as end
use Rattle.fm_frames.specs.declared.values.Value.{Value}
use Rattle.fm_law_sound.specs.Placing.{kind_in}
use Rattle.fm_law_sound.specs.Sound.{HasKind, IsSoundBy, LocalHasKind, static_slots, Typings}

-- ---- cells

-- an object lies in the cell, of a type that passes a test
pub record HoldsA (o : Outline) (store : Store) (test : TypeRef → Bool) (cell : ℕ) : Type 0 where
  pub object : Object
  pub held : object_at store cell ≡ Some object
  pub passes : test (type_numbered o object.class) ≡ true

-- null's cell, or one that holds such an object
abbrev pub LeadsToA : Outline → Store → (TypeRef → Bool) → ℕ → Type 0
LeadsToA o store test cell = (cell ≡ 0) ⊎ HoldsA o store test cell

-- the type is that of the class or of one below it
abbrev pub is_below : Outline → ℕ → TypeRef → Bool
is_below o own t = of_class (class_of_type t) where
  of_class : Option ℕ → Bool
  of_class None = false
  of_class (Some class) = is_among own (chain_of o.classes class)

-- The cell of a value where the checker has a slot of a method that has objects of this class as its own, and whose items make objects of these types: what
-- isn't initialised is of exactly the type that was made, and a constructor's own object is of that class or one below it (JVMS 4.10.1.4).
abbrev pub CellFits : Outline → Store → (own : ℕ) → (news : ℕ → Option TypeRef) → Slot → ℕ → Type 0
CellFits o store own news slot.Top cell = Unit {0}
CellFits o store own news slot.Int cell = Unit {0}
CellFits o store own news slot.Long cell = Unit {0}
CellFits o store own news slot.Null cell = cell ≡ 0
CellFits o store own news (slot.Ref t) cell = LeadsToA o store (λ u. fits_type o.classes u t) cell
CellFits o store own news (slot.Uninit item) cell = HoldsA o store (λ u. is_type u (news item)) cell
CellFits o store own news slot.UninitThis cell = HoldsA o store (is_below o own) cell

-- ---- values

-- a word of a stack has the kind of its slot, and its cell fits it
pub record WordFits (o : Outline) (store : Store) (own : ℕ) (news : ℕ → Option TypeRef) (s : Slot) (v : Value) : Type 0 where
  pub kind : HasKind s v
  pub cell : CellFits o store own news s (cell_of v)

-- the same of a local: where the checker has Top the value may be any
pub record LocalFits (o : Outline) (store : Store) (own : ℕ) (news : ℕ → Option TypeRef) (s : Slot) (v : Value) : Type 0 where
  pub kind : LocalHasKind s v
  pub cell : CellFits o store own news s (cell_of v)

-- ---- frames

-- this many slots from below
abbrev pub lowest : ℕ → List Slot → List Slot
lowest n slots = drop (length slots - n) slots

-- The locals and the words fit what is known of them; of a frame that calls another one the words of the arguments are off the stack already.
pub record FrameFits (o : Outline) (store : Store) (own : ℕ) (news : ℕ → Option TypeRef) (known : TypeState) (locals stack : List Value) : Type 0 where
  pub in_locals : AllZip (LocalFits o store own news) known.locals locals
  pub in_stack : AllZip (WordFits o store own news) (lowest (length stack) known.stack) stack

-- a frame fits the state of its item
abbrev pub FrameIsWhole : Program → Typings → Store → Frame → Type 0
FrameIsWhole p typings store f =
    (code : Code) (known : TypeState) → code_at p f.method ≡ Some code → state_at (typings f.method) f.item ≡ Some known
    → FrameFits p.outline store (this_class p.outline f.method) (made_at p f.method code) known f.locals f.stack

-- ---- what frames share

-- each place for references leads to what fits it, and a hidden field to a text; what lives for ever has no such place
pub record ObjectIsWhole (o : Outline) (store : Store) (object : Object) : Type 0 where
  pub elements : (place : ℕ) (t : TypeRef) → kind_in o object place ≡ Some (kind.Ref t)
      → LeadsToA o store (λ u. fits_type o.classes u t) (slice_index_or object.elements place 0)
  pub hidden : has_hidden_field o (type_numbered o object.class) ≡ true → LeadsToA o store (is_string_type o) (slice_index_or object.elements 0 0)
  pub fixed : object.fixed ≡ true → (place : ℕ) (t : TypeRef) → kind_in o object place ≡ Some (kind.Ref t) → ⊥

-- static fields fit their kinds, literals are of their types, and what is held is whole
pub record AreasAreWhole (o : Outline) (x : Areas) : Type 0 where
  pub statics : (field : ℕ) (t : TypeRef) → slice_get (static_slots o) field ≡ Some (slot.Ref t)
      → LeadsToA o x.store (λ u. fits_type o.classes u t) (cell_of (word_at x.statics field))
  pub literals : (literal : ℕ) → LeadsToA o x.store (same_type (literal_type o literal)) (slice_index_or x.literals literal 0)
  pub heap : (cell : ℕ) (object : Object) → object_at x.store cell ≡ Some object → ObjectIsWhole o x.store object

-- ---- a state

-- A state that is sound, in which each cell fits.
pub record IsWholeBy (p : Program) (typings : Typings) (x : State) : Type 0 where
  pub sound : IsSoundBy p typings x
  pub frames : AllByRecursion (FrameIsWhole p typings x.areas.store) x.frames
  pub areas : AreasAreWhole p.outline x.areas

-- the run hasn't ended in a fault
abbrev pub HasNoFault : State → Type 0
HasNoFault x = (method : MethodId) (offset cell : ℕ) → x.ended ≡ Some (end.Fault method offset cell) → ⊥
