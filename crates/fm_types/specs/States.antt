-- What is known of a method's locals and stack at an item, and the small steps that rows are made of (JVMS 4.10.1.4, 4.10.2.2, 4.10.2.3).
use Rattle.std.specs.Prelude.{ℕ, zero, suc, ◌+◌, ◌==◌, ◌&&◌, ◌||◌, not, Bool, true, false, List, [], ◌∷◌, ◌++◌, length, map, reverse, Option, Some, None, option_and_then, nat_lt, if◌then◌else◌, slice_set}
use Rattle.std.specs.List.{flat_map, slice_index_or}
use Rattle.std.specs.Option.{option_map}
use Rattle.fm_base.specs.declared.kinds.Kind.{Kind}
use Rattle.fm_base.specs.declared.kinds.Kind.TheVariants as kind
use Rattle.fm_types.specs.Fits.{fits}
use Rattle.fm_types.specs.declared.slots.Slot.{Slot}
use Rattle.fm_types.specs.declared.slots.Slot.TheVariants as slot
use Rattle.fm_world.specs.Programs.{Outline}

-- The stack has its top first. A long is Long and then Top among the locals, and on the stack its Top lies above its Long. In a constructor `built`
-- says that a constructor that it calls on the same object has returned; in other methods it is true (JVMS 4.10.1.4, flagThisUninit).
pub record TypeState : Type 0 where
  pub locals : List Slot
  pub stack : List Slot
  pub built : Bool

-- the states of a method's items, for each method by its number
abbrev pub Typings : Type 0
Typings = ℕ → List (Option TypeState)

-- ---- one state fits another one

-- as many slots, each of which fits the one at its place
abbrev pub all_fit : Outline → List Slot → List Slot → Bool
all_fit o [] [] = true
all_fit o (a ∷ slots) (b ∷ others) = fits o a b && all_fit o slots others
all_fit o slots others = false

-- slot by slot; and a state that is built fits one that isn't
unfoldable pub state_fits : Outline → TypeState → TypeState → Bool
state_fits o a b = all_fit o a.locals b.locals && all_fit o a.stack b.stack && (a.built || not b.built)

-- on a stack Top is only the second half of a long, and each long has it
abbrev pub is_whole : List Slot → Bool
is_whole [] = true
is_whole (slot.Top ∷ slot.Long ∷ stack) = is_whole stack
is_whole (slot.Top ∷ stack) = false
is_whole (slot.Long ∷ stack) = false
is_whole (s ∷ stack) = is_whole stack

-- ---- slots of kinds

-- the slots of a value in the order of the locals: booleans, bytes, chars and shorts are ints
abbrev pub local_slots : Kind → List Slot
local_slots kind.Boolean = slot.Int ∷ []
local_slots kind.Byte = slot.Int ∷ []
local_slots kind.Char = slot.Int ∷ []
local_slots kind.Short = slot.Int ∷ []
local_slots kind.Int = slot.Int ∷ []
local_slots kind.Long = slot.Long ∷ slot.Top ∷ []
local_slots (kind.Ref t) = slot.Ref t ∷ []

-- those of several values on the stack: the last value is on top
abbrev pub stack_slots : List Kind → List Slot
stack_slots kinds = reverse (flat_map local_slots kinds)

-- the word of an int
abbrev pub int_word : List Slot
int_word = slot.Int ∷ []

-- the two words of a long, its second half on top
abbrev pub long_words : List Slot
long_words = slot.Top ∷ slot.Long ∷ []

-- null, a reference, or an object before its constructor has returned
abbrev pub is_reference : Slot → Bool
is_reference slot.Top = false
is_reference slot.Int = false
is_reference slot.Long = false
is_reference slot.Null = true
is_reference (slot.Ref t) = true
is_reference (slot.Uninit item) = true
is_reference slot.UninitThis = true

-- ---- the stack

-- what is left of the stack where its topmost slots fit these
abbrev pub taken : Outline → List Slot → List Slot → Option (List Slot)
taken o [] stack = Some stack
taken o (wanted ∷ more) [] = None
taken o (wanted ∷ more) (s ∷ stack) = if fits o s wanted then taken o more stack else None

-- the state with these slots on top
abbrev pub pushed : List Slot → TypeState → TypeState
pushed given s = record s { stack = given ++ s.stack }

-- the state where slots that fit the wanted ones are taken and the others are put on top
abbrev pub worked : Outline → List Slot → List Slot → TypeState → Option TypeState
worked o wanted given s = option_map (λ stack. record s { stack = given ++ stack }) (taken o wanted s.stack)

-- the same where what is put on top follows from the slot below the wanted ones
abbrev pub worked_below : Outline → List Slot → (Slot → Option (List Slot)) → TypeState → Option TypeState
worked_below o wanted given s = option_and_then of_rest (taken o wanted s.stack) where
  of_rest : List Slot → Option TypeState
  of_rest [] = None
  of_rest (below ∷ stack) = option_map (λ slots. record s { stack = slots ++ stack }) (given below)

-- ---- the locals

-- the first half of a long
abbrev pub is_long : Slot → Bool
is_long slot.Top = false
is_long slot.Int = false
is_long slot.Long = true
is_long slot.Null = false
is_long (slot.Ref t) = false
is_long (slot.Uninit item) = false
is_long slot.UninitThis = false

-- the local of this number; Top past the last one
abbrev pub local_at : List Slot → ℕ → Slot
local_at locals k = slice_index_or locals k slot.Top

-- the locals where the one before this is no first half of a long: that long's second half is about to be written over
abbrev pub cut_before : ℕ → List Slot → List Slot
cut_before zero locals = locals
cut_before (suc k) locals = if is_long (local_at locals k) then slice_set locals k slot.Top else locals

-- the locals with these slots from local k on, where there is room for them; a long of which one half is written over is none any longer
abbrev pub stored : ℕ → List Slot → List Slot → Option (List Slot)
stored k slots locals = if nat_lt (length locals) (k + length slots) then None else Some (with_slots k slots (cut_before k locals)) where
  with_slots : ℕ → List Slot → List Slot → List Slot
  with_slots k [] locals = locals
  with_slots k (s ∷ slots) locals = with_slots (suc k) slots (slice_set locals k s)

-- ---- objects that aren't initialised

-- the object that the `new` of this item made
abbrev pub is_uninit : ℕ → Slot → Bool
is_uninit item slot.Top = false
is_uninit item slot.Int = false
is_uninit item slot.Long = false
is_uninit item slot.Null = false
is_uninit item (slot.Ref t) = false
is_uninit item (slot.Uninit other) = item == other
is_uninit item slot.UninitThis = false

-- a constructor's own object
abbrev pub is_uninit_this : Slot → Bool
is_uninit_this slot.Top = false
is_uninit_this slot.Int = false
is_uninit_this slot.Long = false
is_uninit_this slot.Null = false
is_uninit_this (slot.Ref t) = false
is_uninit_this (slot.Uninit item) = false
is_uninit_this slot.UninitThis = true

-- each slot that passes is replaced
abbrev pub replaced : (Slot → Bool) → Slot → List Slot → List Slot
replaced test other slots = map (λ s. if test s then other else s) slots
