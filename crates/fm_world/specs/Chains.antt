-- Superclasses and superinterfaces of a class in a list of classes (JVMS 5.3.5), and which type is below which at run time (JVMS 6.5.checkcast).
-- A class goes by its number in the list; names are looked up in the list. One more than the number of classes bounds each walk, so
-- that it ends where chains lead into a cycle; a linked program has none.
use Rattle.std.specs.Prelude.{ℕ, zero, suc, ◌==◌, ◌||◌, ◌&&◌, not, Bool, true, false, List, [], ◌∷◌, length, drop, filter, Option, Some, None, is_some, is_none, option_and_then, option_to_list, position, unwrap_or, nat_eq, nat_lt, if◌then◌else◌}
use Rattle.std.specs.List.{slice_index_or, flat_map, filter_map, list_any}
use Rattle.std.specs.Option.{option_or}
use Rattle.std.specs.Str.{bytes_eq}
use Rattle.fm_base.specs.declared.kinds.Base.{Base}
use Rattle.fm_base.specs.declared.kinds.Base.TheVariants as base
use Rattle.fm_base.specs.declared.kinds.TypeRef.{TypeRef}
use Rattle.fm_world.specs.BuiltIns.{built_in, object_name, cloneable_name, serializable_name}
use Rattle.fm_world.specs.Declarations.{no_class}
use Rattle.fm_world.specs.declared.declarations.DeclaredClass.{DeclaredClass}
use Rattle.fm_world.specs.Descriptors.{class_number}

-- ---- lists

-- each element once, where it occurs first
abbrev pub distinct : {A : Type 0} → (A → A → Bool) → List A → List A
distinct same [] = []
distinct same (x ∷ xs) = x ∷ filter (λ y. not (same x y)) (distinct same xs)

-- what the function gives of the first element of which it gives something
abbrev pub first_found : {A B : Type 0} → (A → Option B) → List A → Option B
first_found find [] = None
first_found find (x ∷ xs) = or_among (find x) (first_found find xs) where
  or_among : {B : Type 0} → Option B → Option B → Option B
  or_among None others = others
  or_among (Some y) others = Some y

-- whether a number is one of these
abbrev pub is_among : ℕ → List ℕ → Bool
is_among number numbers = list_any (nat_eq number) numbers

-- ---- superclasses

-- the class of a number
abbrev pub class_at : List DeclaredClass → ℕ → DeclaredClass
class_at classes class = slice_index_or classes class no_class

-- the number of the given class of a name
abbrev pub given_number : List DeclaredClass → List ℕ → Option ℕ
given_number classes name = position (λ c. bytes_eq c.name name && is_some c.file) classes

-- the given class that completes a built-in one: it has the same name
abbrev pub completion_of : List DeclaredClass → DeclaredClass → Option ℕ
completion_of classes c = if is_none c.file then given_number classes c.name else None

-- the superclass of a declared class, where it names one: the class that completes it, and else the one that it names (JVMS 5.3.5)
abbrev pub superclass_in : List DeclaredClass → DeclaredClass → Option ℕ
superclass_in classes c = option_and_then (λ name. option_or (completion_of classes c) (class_number classes name)) c.superclass

-- the superclass of a class
abbrev pub parent_of : List DeclaredClass → ℕ → Option ℕ
parent_of classes class = superclass_in classes (class_at classes class)

-- the class that completes a class: its superclass, where that has its name
abbrev pub completing_of : List DeclaredClass → ℕ → List ℕ
completing_of classes class =
    filter (λ above. bytes_eq (class_at classes above).name (class_at classes class).name) (option_to_list (parent_of classes class))

-- the class whose objects the methods of a class have as their own: the built-in class that it completes, and else the class itself
abbrev pub self_of : List DeclaredClass → ℕ → ℕ
self_of classes class = unwrap_or (class_number built_in (class_at classes class).name) class

-- a class and its superclasses upwards, of at most a given number of classes
abbrev pub upwards : ℕ → List DeclaredClass → Option ℕ → List ℕ
upwards zero classes class = []
upwards (suc bound) classes None = []
upwards (suc bound) classes (Some class) = class ∷ upwards bound classes (parent_of classes class)

-- the class and its superclasses, the nearest first
unfoldable pub chain_of : List DeclaredClass → ℕ → List ℕ
chain_of classes class = upwards (suc (length classes)) classes (Some class)

-- its superclasses alone
abbrev pub superclasses_of : List DeclaredClass → ℕ → List ℕ
superclasses_of classes class = drop 1 (chain_of classes class)

-- ---- superinterfaces

-- the interfaces that a class lists, in its order
abbrev pub listed_interfaces : List DeclaredClass → ℕ → List ℕ
listed_interfaces classes class = filter_map (class_number classes) (class_at classes class).interfaces

-- each listed interface and then its own ones, each once where it is met first, down to a given number of levels
abbrev pub interfaces_within : ℕ → List DeclaredClass → ℕ → List ℕ
interfaces_within zero classes class = []
interfaces_within (suc bound) classes class =
    distinct nat_eq (flat_map (λ interface. interface ∷ interfaces_within bound classes interface) (listed_interfaces classes class))

-- the superinterfaces of a class by its own list: depth first, in listed order
unfoldable pub superinterfaces_of : List DeclaredClass → ℕ → List ℕ
superinterfaces_of classes class = interfaces_within (suc (length classes)) classes class

-- the superinterfaces of a class and then those of its superclasses, each once
unfoldable pub interfaces_of : List DeclaredClass → ℕ → List ℕ
interfaces_of classes class = distinct nat_eq (flat_map (superinterfaces_of classes) (chain_of classes class))

-- ---- what is below what

-- the class is the other one, or below it: one of its superclasses, or an interface that it implements
abbrev pub is_subclass : List DeclaredClass → ℕ → ℕ → Bool
is_subclass classes class other = is_among other (chain_of classes class) || is_among other (interfaces_of classes class)

-- what each array is below: Object and the two interfaces that arrays implement (JVMS 4.10.1.2)
abbrev pub array_supers : List (List ℕ)
array_supers = object_name ∷ cloneable_name ∷ serializable_name ∷ []

-- whether arrays fit a class (JVMS 4.10.1.2)
abbrev pub is_above_arrays : List DeclaredClass → ℕ → Bool
is_above_arrays classes class = list_any (bytes_eq (class_at classes class).name) array_supers

-- whether two bases are the same
abbrev pub same_base : Base → Base → Bool
same_base base.Boolean base.Boolean = true
same_base base.Byte base.Byte = true
same_base base.Char base.Char = true
same_base base.Short base.Short = true
same_base base.Int base.Int = true
same_base base.Long base.Long = true
same_base (base.OfClass c) (base.OfClass d) = c.0 == d.0
same_base b c = false

-- whether two types are the same
abbrev pub same_type : TypeRef → TypeRef → Bool
same_type a b = (a.dims == b.dims) && same_base a.base b.base

-- at equal dimensions: a class and one above it, or the same letter
abbrev pub is_sub_base : List DeclaredClass → Base → Base → Bool
is_sub_base classes (base.OfClass c) (base.OfClass d) = is_subclass classes c.0 d.0
is_sub_base classes b c = same_base b c

-- of what an array of more dimensions is below
abbrev pub is_base_above_arrays : List DeclaredClass → Base → Bool
is_base_above_arrays classes (base.OfClass d) = is_above_arrays classes d.0
is_base_above_arrays classes b = false

-- an object of the first type can be cast to the second
unfoldable pub is_sub : List DeclaredClass → TypeRef → TypeRef → Bool
is_sub classes a b =
    if a.dims == b.dims then is_sub_base classes a.base b.base else
    (nat_lt b.dims a.dims && is_base_above_arrays classes b.base)
