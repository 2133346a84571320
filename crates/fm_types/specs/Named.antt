-- What an instruction names, as the linked program resolves it.
use Rattle.std.specs.Prelude.{ℕ, ◌<◌, List, [], ◌∷◌, codes, Option, None, option_and_then, option_to_list, unwrap_or, length, slice_get}
use Rattle.fm_base.specs.declared.kinds.Kind.{Kind}
use Rattle.fm_base.specs.declared.kinds.TypeRef.{TypeRef}
use Rattle.fm_types.specs.Fits.{object_of}
use Rattle.fm_types.specs.States.{stack_slots, TypeState}
use Rattle.fm_types.specs.declared.slots.Slot.{Slot}
use Rattle.fm_types.specs.declared.slots.Slot.TheVariants as slot
use Rattle.fm_world.specs.Chains.{self_of}
use Rattle.fm_world.specs.Descriptors.{class_number, parameter_kinds, result_kind}
use Rattle.fm_world.specs.Members.{field_at, field_kind, fields_of, method_at, methods_of}
use Rattle.fm_world.specs.Numbers.{type_of_class}
use Rattle.fm_world.specs.Programs.{Outline}
use Rattle.fm_world.specs.declared.uses.Use.{Use}
use Rattle.fm_world.specs.declared.uses.Use.TheVariants as resolved

-- ---- classes by name

-- the type of a built-in class
abbrev pub built_in_type : Outline → List ℕ → TypeRef
built_in_type o name = type_of_class (unwrap_or (class_number o.classes name) 0)

-- the type that all that is thrown fits
abbrev pub throwable_type : Outline → TypeRef
throwable_type o = built_in_type o (codes "java/lang/Throwable")

-- what null and each initialised reference fit
abbrev pub object_slot : Outline → Slot
object_slot o = slot.Ref (type_of_class (object_of o.classes))

-- ---- members

-- a use that names a field or a method names one that is there
abbrev pub NamesMember : Outline → Use → Type 0
NamesMember o (resolved.OfField field t) = field.0 < length (fields_of o.classes)
NamesMember o (resolved.OfMethod method t) = method.0 < length (methods_of o.classes)
NamesMember o u = Unit {0}

-- ---- uses: what follows from the type, the field or the method that is named, the two last with the type that the entry names; nothing where
-- the index is resolved to something else

-- what follows from a type
abbrev pub on_type : Outline → Use → (TypeRef → Option TypeState) → Option TypeState
on_type o (resolved.OfType t) follows = option_and_then follows (slice_get o.types t.0)
on_type o (resolved.OfField f t) follows = None
on_type o (resolved.OfMethod m t) follows = None
on_type o (resolved.OfInt value) follows = None
on_type o (resolved.OfLong value) follows = None
on_type o (resolved.OfText text) follows = None
on_type o resolved.Unused follows = None

-- what follows from a field
abbrev pub on_field : Outline → Use → (ℕ → TypeRef → Option TypeState) → Option TypeState
on_field o (resolved.OfType t) follows = None
on_field o (resolved.OfField f t) follows = option_and_then (follows f.0) (slice_get o.types t.0)
on_field o (resolved.OfMethod m t) follows = None
on_field o (resolved.OfInt value) follows = None
on_field o (resolved.OfLong value) follows = None
on_field o (resolved.OfText text) follows = None
on_field o resolved.Unused follows = None

-- what follows from a method
abbrev pub on_method : Outline → Use → (ℕ → TypeRef → Option TypeState) → Option TypeState
on_method o (resolved.OfType t) follows = None
on_method o (resolved.OfField f t) follows = None
on_method o (resolved.OfMethod m t) follows = option_and_then (follows m.0) (slice_get o.types t.0)
on_method o (resolved.OfInt value) follows = None
on_method o (resolved.OfLong value) follows = None
on_method o (resolved.OfText text) follows = None
on_method o resolved.Unused follows = None

-- ---- members

-- the class that declares a method
abbrev pub class_of_method : Outline → ℕ → ℕ
class_of_method o method = (method_at o.classes method).class

-- the class whose objects it has as its own (JVMS 4.10.1.6)
abbrev pub this_class : Outline → ℕ → ℕ
this_class o method = self_of o.classes (class_of_method o method)

-- the kind of a field's values
abbrev pub kind_of_field : Outline → ℕ → Kind
kind_of_field o field = field_kind o.classes (field_at o.classes field).field

-- the words of a field's value, of a method's arguments without the receiver, and of its result, as they are on the stack
abbrev pub field_words : Outline → ℕ → List Slot
field_words o field = stack_slots (kind_of_field o field ∷ [])

-- the kinds of a method's parameters
abbrev pub parameters_of : Outline → ℕ → List Kind
parameters_of o method = parameter_kinds o.classes (method_at o.classes method).method.descriptor

-- the kind of its result, if it has one
abbrev pub result_of : Outline → ℕ → Option Kind
result_of o method = result_kind o.classes (method_at o.classes method).method.descriptor

-- the words of its arguments
abbrev pub argument_words : Outline → ℕ → List Slot
argument_words o method = stack_slots (parameters_of o method)

-- the words of its result
abbrev pub result_words : Outline → ℕ → List Slot
result_words o method = stack_slots (option_to_list (result_of o method))
