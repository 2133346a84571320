-- The rows of arrays (JVMS 6.5.aaload and its like, 6.5.arraylength, 6.5.newarray and its like).
use Rattle.std.specs.Prelude.{ℕ, ◌-◌, ◌==◌, ◌&&◌, ◌||◌, Bool, false, List, [], ◌∷◌, ◌++◌, Option, Some, None, option_and_then, replicate, nat_lt, nat_le, if◌then◌else◌}
use Rattle.fm_base.specs.declared.kinds.Base.{Base}
use Rattle.fm_base.specs.declared.kinds.Base.TheVariants as base
use Rattle.fm_base.specs.declared.kinds.TypeRef.{TypeRef}
use Rattle.fm_code.specs.declared.operations.Elem.{Elem}
use Rattle.fm_code.specs.declared.operations.Elem.TheVariants as elem
use Rattle.fm_types.specs.Fits.{depth_of}
use Rattle.fm_types.specs.Named.{object_slot, on_type}
use Rattle.fm_types.specs.States.{int_word, long_words, TypeState, worked, worked_below}
use Rattle.fm_types.specs.declared.slots.Slot.{Slot}
use Rattle.fm_types.specs.declared.slots.Slot.TheVariants as slot
use Rattle.fm_world.specs.Chains.{same_base}
use Rattle.fm_world.specs.Programs.{Outline}
use Rattle.fm_world.specs.Uses.{array_of, base_of_elem}
use Rattle.fm_world.specs.declared.uses.Use.{Use}

-- ---- elements

-- the letters of the arrays that are loaded and stored so: arrays of booleans are loaded and stored as those of bytes
abbrev pub has_letter : Elem → Base → Bool
has_letter elem.Boolean b = same_base base.Boolean b
has_letter elem.Byte b = same_base base.Byte b || same_base base.Boolean b
has_letter elem.Char b = same_base base.Char b
has_letter elem.Short b = same_base base.Short b
has_letter elem.Int b = same_base base.Int b
has_letter elem.Long b = same_base base.Long b
has_letter elem.Ref b = false

-- an array of such elements; of references it is each array with some depth
abbrev pub is_array_of : Elem → TypeRef → Bool
is_array_of elem.Ref t = nat_lt 0 (depth_of t)
is_array_of e t = (t.dims == 1) && has_letter e t.base

-- the words of an element that is a number
abbrev pub element_words : Elem → List Slot
element_words elem.Long = long_words
element_words e = int_word

-- what loading an element gives: of null, and of an array of that type
abbrev pub null_element : Elem → List Slot
null_element elem.Ref = slot.Null ∷ []
null_element e = element_words e

-- the words of an element of an array of that type
abbrev pub element_of : Elem → TypeRef → List Slot
element_of elem.Ref t = slot.Ref (record { dims = t.dims - 1; base = t.base }) ∷ []
element_of e t = element_words e

-- what is taken to store an element
abbrev pub stored_element : Outline → Elem → List Slot
stored_element o elem.Ref = object_slot o ∷ []
stored_element o e = element_words e

-- what follows where the slot is null, or a reference to a type that passes
abbrev pub on_array : (TypeRef → Bool) → List Slot → (TypeRef → List Slot) → Slot → Option (List Slot)
on_array passes null given slot.Top = None
on_array passes null given slot.Int = None
on_array passes null given slot.Long = None
on_array passes null given slot.Null = Some null
on_array passes null given (slot.Ref t) = if passes t then Some (given t) else None
on_array passes null given (slot.Uninit item) = None
on_array passes null given slot.UninitThis = None

-- ---- the rows

-- an array of such elements and an index give an element (JVMS 6.5, iaload to saload)
unfoldable pub array_load_row : Outline → Elem → TypeState → Option TypeState
array_load_row o e s = worked_below o int_word (on_array (is_array_of e) (null_element e) (element_of e)) s

-- which references an array takes is looked at when it is stored
unfoldable pub array_store_row : Outline → Elem → TypeState → Option TypeState
array_store_row o e s = worked_below o (stored_element o e ++ int_word) (on_array (is_array_of e) [] (λ t. [])) s

-- an array of any type gives an int (JVMS 6.5, arraylength)
unfoldable pub length_row : Outline → TypeState → Option TypeState
length_row o s = worked_below o [] (on_array (λ t. nat_lt 0 t.dims) int_word (λ t. int_word)) s

-- a length gives an array of numbers (JVMS 6.5, newarray)
unfoldable pub new_array_row : Outline → Elem → TypeState → Option TypeState
new_array_row o e s = option_and_then (λ b. worked o int_word (slot.Ref (record { dims = 1; base = b }) ∷ []) s) (base_of_elem e)

-- an array of the type that is named, unless it has all the dimensions that a type can have
unfoldable pub new_references_row : Outline → Use → TypeState → Option TypeState
new_references_row o u s = on_type o u (λ t. option_and_then (λ array. worked o int_word (slot.Ref array ∷ []) s) (array_of t))

-- at least one of the type's dimensions is made
unfoldable pub multi_array_row : Outline → Use → ℕ → TypeState → Option TypeState
multi_array_row o u dimensions s =
    on_type o u (λ t. if nat_lt 0 dimensions && nat_le dimensions t.dims then worked o (replicate dimensions slot.Int) (slot.Ref t ∷ []) s else None)
