-- The types and the texts of a program by number.
use Rattle.std.specs.Prelude.{ℕ, ◌-◌, List, ◌∷◌, ◌++◌, length, map, Option, Some, None, position, option_and_then}
use Rattle.std.specs.List.{flat_map, filter_map, range_with_len}
use Rattle.std.specs.Str.{bytes_eq}
use Rattle.fm_base.specs.Texts.{units}
use Rattle.fm_base.specs.declared.kinds.TypeRef.{TypeRef}
use Rattle.fm_code.specs.ConstantPool.{entry_at}
use Rattle.fm_code.specs.declared.constant_pool.Entry.{Entry}
use Rattle.fm_code.specs.declared.constant_pool.Entry.TheVariants as entry
use Rattle.fm_code.specs.declared.class_file.ClassDef.{ClassDef}
use Rattle.fm_world.specs.BuiltIns.{string_name}
use Rattle.fm_world.specs.Chains.{distinct, same_type}
use Rattle.fm_world.specs.Declarations.{text_at}
use Rattle.fm_world.specs.declared.declarations.DeclaredClass.{DeclaredClass}
use Rattle.fm_world.specs.Descriptors.{class_number, of_class}
use Rattle.fm_world.specs.Uses.{uses_in_order, named_type, class_items, made_array, array_of}

-- ---- types

-- the type of a class's objects
abbrev pub type_of_class : ℕ → TypeRef
type_of_class class = record { dims = 0; base = of_class class }

-- the types of the classes, in their order
abbrev pub class_types : List DeclaredClass → List TypeRef
class_types classes = map type_of_class (range_with_len 0 (length classes))

-- the types that uses name, by class and pool index
abbrev pub used_types : List DeclaredClass → List ClassDef → List TypeRef
used_types classes given = flat_map (λ c. filter_map (named_type classes c.pool.entries) (uses_in_order c)) given

-- the array of main's arguments, which is made before the run, and those that instructions make
abbrev pub argument_array : List DeclaredClass → Option TypeRef
argument_array classes = option_and_then (λ class. array_of (type_of_class class)) (class_number classes string_name)

-- the array types that the arguments and the instructions of the files make
abbrev pub made_arrays : List DeclaredClass → List ClassDef → List TypeRef
made_arrays classes given =
    filter_map (λ t. t) (argument_array classes ∷ flat_map (λ c. map (λ item. made_array classes c.pool.entries item.insn) (class_items c)) given)

-- an array and those of its element types that are arrays
abbrev pub arrays_in : TypeRef → List TypeRef
arrays_in t = map (λ fewer. record { dims = t.dims - fewer; base = t.base }) (range_with_len 0 t.dims)

-- The types that have a number: those of the classes; then those that uses name, in the order in which they are met; then the arrays that are
-- made and the element types of all these. Each occurs once.
unfoldable pub types_of : List DeclaredClass → List ClassDef → List TypeRef
types_of classes given =
    let used = used_types classes given in
    distinct same_type (class_types classes ++ used ++ flat_map arrays_in (used ++ made_arrays classes given))

-- the number of a type, if it has one
abbrev pub type_number : List TypeRef → TypeRef → Option ℕ
type_number types t = position (same_type t) types

-- ---- texts

-- the units of the text that a String entry names
abbrev pub text_units : List Entry → ℕ → Option (List ℕ)
text_units entries index = of_entry (entry_at entries index) where
  of_entry : Entry → Option (List ℕ)
  of_entry (entry.Text text) = Some (units (text_at entries text))
  of_entry e = None

-- the texts that uses name, in the order in which they are met, each content once
unfoldable pub texts_of : List ClassDef → List (List ℕ)
texts_of given = distinct bytes_eq (flat_map (λ c. filter_map (text_units c.pool.entries) (uses_in_order c)) given)

-- the number of a text
abbrev pub text_number : List (List ℕ) → List ℕ → Option ℕ
text_number texts text = position (bytes_eq text) texts
