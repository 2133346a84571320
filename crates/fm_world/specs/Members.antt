-- The fields and methods of a list of classes by number, and where fields lie in objects. The numbers follow the classes, and in a class its
-- records.
use Rattle.std.specs.Prelude.{ℕ, ◌+◌, ◌-◌, ◌&&◌, not, Bool, List, [], ◌∷◌, ◌++◌, length, take, map, reverse, codes, position, Option, Some, None, option_map, count_by, sum_by, if◌then◌else◌}
use Rattle.std.specs.List.{slice_index_or, flat_map, filter_map}
use Rattle.std.specs.Str.{bytes_eq}
use Rattle.fm_base.specs.declared.kinds.Kind.{Kind}
use Rattle.fm_code.specs.AccessFlags.{is_static}
use Rattle.fm_world.specs.BuiltIns.{string_name}
use Rattle.fm_world.specs.Chains.{class_at, chain_of, superclasses_of, first_found}
use Rattle.fm_world.specs.Declarations.{no_field, no_method}
use Rattle.fm_world.specs.declared.declarations.DeclaredField.{DeclaredField}
use Rattle.fm_world.specs.declared.declarations.DeclaredMethod.{DeclaredMethod}
use Rattle.fm_world.specs.declared.declarations.DeclaredClass.{DeclaredClass}
use Rattle.fm_code.specs.Names.{object}
use Rattle.fm_world.specs.Descriptors.{declared_kind, field_type, typed}

-- ---- members by number

-- a field or a method with the number of its class
pub record OwnedField : Type 0 where
  pub class : ℕ
  pub field : DeclaredField

-- a method with the number of the class that declares it
pub record OwnedMethod : Type 0 where
  pub class : ℕ
  pub method : DeclaredMethod

-- the fields that a class declares
abbrev pub owned_fields : ℕ → DeclaredClass → List OwnedField
owned_fields class declared = map (λ f. record { class = class; field = f }) declared.fields

-- the methods that a class declares
abbrev pub owned_methods : ℕ → DeclaredClass → List OwnedMethod
owned_methods class declared = map (λ m. record { class = class; method = m }) declared.methods

-- those of classes whose numbers begin with this one
abbrev pub fields_from : ℕ → List DeclaredClass → List OwnedField
fields_from class [] = []
fields_from class (c ∷ classes) = owned_fields class c ++ fields_from (class + 1) classes

-- the methods of classes, of which the first has this number
abbrev pub methods_from : ℕ → List DeclaredClass → List OwnedMethod
methods_from class [] = []
methods_from class (c ∷ classes) = owned_methods class c ++ methods_from (class + 1) classes

-- the fields of all classes, by number
unfoldable pub fields_of : List DeclaredClass → List OwnedField
fields_of classes = fields_from 0 classes

-- the methods of all classes, by number
unfoldable pub methods_of : List DeclaredClass → List OwnedMethod
methods_of classes = methods_from 0 classes

-- the field of a number
abbrev pub field_at : List DeclaredClass → ℕ → OwnedField
field_at classes field = slice_index_or (fields_of classes) field (record { class = 0; field = no_field })

-- the method of a number
abbrev pub method_at : List DeclaredClass → ℕ → OwnedMethod
method_at classes method = slice_index_or (methods_of classes) method (record { class = 0; method = no_method })

-- the number of the first field, or method, of a class: how many the classes before it have
abbrev pub first_field : List DeclaredClass → ℕ → ℕ
first_field classes class = sum_by (λ c. length c.fields) (take class classes)

-- the number of a class's first method
abbrev pub first_method : List DeclaredClass → ℕ → ℕ
first_method classes class = sum_by (λ c. length c.methods) (take class classes)

-- ---- members by name

-- the field, or the method, of a class by its name and descriptor
abbrev pub own_field : List DeclaredClass → List ℕ → List ℕ → ℕ → Option ℕ
own_field classes name descriptor class =
    option_map (λ k. first_field classes class + k)
    (position (λ f. bytes_eq f.name name && bytes_eq f.descriptor descriptor) (class_at classes class).fields)

-- a method whose flags pass the test
abbrev pub own_method : List DeclaredClass → (ℕ → Bool) → List ℕ → List ℕ → ℕ → Option ℕ
own_method classes passes name descriptor class =
    option_map (λ k. first_method classes class + k)
    (position (λ m. bytes_eq m.name name && bytes_eq m.descriptor descriptor && passes m.flags) (class_at classes class).methods)

-- the first of the classes' fields, or methods
abbrev pub field_among : List DeclaredClass → List ℕ → List ℕ → List ℕ → Option ℕ
field_among classes name descriptor among = first_found (own_field classes name descriptor) among

-- the first method of that name and descriptor that passes, in the classes in this order
abbrev pub method_among : List DeclaredClass → (ℕ → Bool) → List ℕ → List ℕ → List ℕ → Option ℕ
method_among classes passes name descriptor among = first_found (own_method classes passes name descriptor) among

-- the method that starts the class: a static <clinit>()V (JVMS 2.9)
abbrev pub start_of : List DeclaredClass → ℕ → Option ℕ
start_of classes class = own_method classes is_static (codes "<clinit>") (codes "()V") class

-- ---- objects

-- whether each object has a field of these flags (JVMS 4.5)
abbrev pub is_instance : ℕ → Bool
is_instance flags = not (is_static flags)

-- the fields that a class gives to its objects: a hidden one, then its instance fields
abbrev pub hidden_fields : DeclaredClass → ℕ
hidden_fields c = if c.hidden then 1 else 0

-- how many of the fields each object has
abbrev pub instance_fields : List DeclaredField → ℕ
instance_fields fields = count_by (λ f. is_instance f.flags) fields

-- how many fields of an object its own class declares, the hidden one among them
abbrev pub own_size : DeclaredClass → ℕ
own_size c = hidden_fields c + instance_fields c.fields

-- how many fields of an object these classes declare
abbrev pub size_among : List DeclaredClass → List ℕ → ℕ
size_among classes chain = sum_by (λ class. own_size (class_at classes class)) chain

-- the fields of an object: those of its class and of all its superclasses
unfoldable pub size_of : List DeclaredClass → ℕ → ℕ
size_of classes class = size_among classes (chain_of classes class)

-- the place of an instance field in its object: after those of the superclasses, the hidden one, and the class's earlier ones
abbrev pub instance_slot : List DeclaredClass → ℕ → ℕ → ℕ
instance_slot classes class index =
    size_among classes (superclasses_of classes class) + hidden_fields (class_at classes class)
    + instance_fields (take index (class_at classes class).fields)

-- the place of a static field among those of all classes
abbrev pub static_slot : List DeclaredClass → ℕ → ℕ
static_slot classes field = count_by (λ f. is_static f.field.flags) (take field (fields_of classes))

-- the place of a field, among the static fields or in the objects of its class
unfoldable pub slot_of : List DeclaredClass → ℕ → ℕ
slot_of classes field =
    let owned = field_at classes field in
    if is_static owned.field.flags then static_slot classes field else instance_slot classes owned.class (field - first_field classes owned.class)

-- the number of static fields of all classes
abbrev pub statics_of : List DeclaredClass → ℕ
statics_of classes = count_by (λ f. is_static f.field.flags) (fields_of classes)

-- the kind of each field of an object in order, from the uppermost superclass down; the hidden field leads to a text
abbrev pub field_kind : List DeclaredClass → DeclaredField → Kind
field_kind classes f = declared_kind classes (field_type f.descriptor)

-- the kinds of the fields that an object has of this class, the hidden one first
abbrev pub own_kinds : List DeclaredClass → DeclaredClass → List Kind
own_kinds classes c = hidden_kinds c.hidden ++ filter_map kind_of_instance c.fields where
  hidden_kinds : Bool → List Kind
  hidden_kinds hidden = if hidden then declared_kind classes (typed 0 (object string_name)) ∷ [] else []

  kind_of_instance : DeclaredField → Option Kind
  kind_of_instance f = if is_instance f.flags then Some (field_kind classes f) else None

-- the kinds of the places of a class's objects
unfoldable pub kinds_of : List DeclaredClass → ℕ → List Kind
kinds_of classes class = flat_map (λ above. own_kinds classes (class_at classes above)) (reverse (chain_of classes class))
