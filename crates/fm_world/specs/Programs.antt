-- The program that class files make, and what is asked of it. All names are looked up in the list of its classes.
use Rattle.std.specs.Prelude.{ℕ, ◌<◌, ◌==◌, ◌&&◌, not, Bool, true, List, [], ◌∷◌, ◌++◌, length, map, filter, codes, Option, Some, None, replicate, unwrap_or, option_map, option_and_then, option_to_list, if◌then◌else◌, ◌-◌, slice_get}
use Rattle.std.specs.List.{slice_index_or, flat_map, filter_map, range_with_len}
use Rattle.fm_base.specs.Rows.{has}
use Rattle.fm_base.specs.Texts.{units}
use Rattle.fm_base.specs.declared.ids.ClassId.{ClassId}
use Rattle.fm_base.specs.declared.ids.MethodId.{MethodId}
use Rattle.fm_base.specs.declared.kinds.Base.{Base}
use Rattle.fm_base.specs.declared.kinds.Base.TheVariants as base
use Rattle.fm_base.specs.declared.kinds.Kind.{Kind}
use Rattle.fm_base.specs.declared.kinds.TypeRef.{TypeRef}
use Rattle.fm_code.specs.AccessFlags.{is_static, is_interface, is_abstract}
use Rattle.fm_code.specs.ConstantPool.{entry_at, MemberName}
use Rattle.fm_code.specs.Members.{code_of}
use Rattle.fm_code.specs.declared.constant_pool.Entry.{Entry}
use Rattle.fm_code.specs.declared.constant_pool.Entry.TheVariants as entry
use Rattle.fm_code.specs.declared.class_file.ClassDef.{ClassDef}
use Rattle.fm_code.specs.declared.code_array.Code.{Code}
use Rattle.fm_world.specs.BuiltIns.{built_in}
use Rattle.fm_world.specs.Chains.{class_at, chain_of, given_number, parent_of, listed_interfaces, is_sub, is_above_arrays, is_among}
use Rattle.fm_world.specs.Declarations.{declared_from}
use Rattle.fm_world.specs.declared.declarations.Constant.{Constant}
use Rattle.fm_world.specs.declared.declarations.DeclaredClass.{DeclaredClass}
use Rattle.fm_world.specs.declared.declarations.DeclaredMethod.{DeclaredMethod}
use Rattle.fm_world.specs.declared.declarations.Constant.TheVariants as constant
use Rattle.fm_world.specs.Descriptors.{field_type, kind_with, declared_kind, parameter_kinds, result_kind}
use Rattle.fm_world.specs.Lookups.{object_number, package_of, resolved_field, resolved_method, select, special_target}
use Rattle.fm_world.specs.Members.{field_at, method_at, methods_of, method_among, kinds_of, start_of, size_of, slot_of}
use Rattle.fm_world.specs.Numbers.{types_of, type_number, type_of_class, texts_of, text_number, text_units}
use Rattle.fm_world.specs.Uses.{is_used, pool_indices, named_member, named_type}
use Rattle.fm_world.specs.declared.calls.Call.{Call}
use Rattle.fm_world.specs.declared.calls.CallKind.{CallKind}
use Rattle.fm_world.specs.declared.calls.CallKind.TheVariants as call
use Rattle.fm_world.specs.declared.records.Body.{Body}
use Rattle.fm_world.specs.declared.records.Body.TheVariants as body
use Rattle.fm_world.specs.declared.records.ClassInfo.{ClassInfo}
use Rattle.fm_world.specs.declared.records.FieldInfo.{FieldInfo}
use Rattle.fm_world.specs.declared.records.MethodInfo.{MethodInfo}
use Rattle.fm_world.specs.declared.uses.Use.{Use}
use Rattle.fm_world.specs.declared.uses.Use.TheVariants as resolved

-- ---- the records

-- all of a program but its code and its uses: the classes by number, the types and the texts by number, the class that was named and its main
pub record Outline : Type 0 where
  pub classes : List DeclaredClass
  pub types : List TypeRef
  pub texts : List (List ℕ)
  pub main_class : ℕ
  pub main : ℕ

-- besides for each class what the indices of its pool are resolved to, for each method its code if it has one, and for a narrowed program the
-- classes of which objects are made
pub record Program : Type 0 where
  pub outline : Outline
  pub uses : List (List Use)
  pub codes : List (Option Code)
  pub made : Option (List Bool)

-- ---- the classes, and main

-- the built-in classes, and then the given ones in the order of their files
unfoldable pub classes_of : List ClassDef → List DeclaredClass
classes_of given = built_in ++ declared_from 0 given

-- the nearest static main([Ljava/lang/String;)V of a class and its superclasses
abbrev pub main_of : List DeclaredClass → ℕ → Option ℕ
main_of classes class = method_among classes is_static (codes "main") (codes "([Ljava/lang/String;)V") (chain_of classes class)

-- a program that has no main has no number of it either
unfoldable pub outline_of : List ClassDef → List ℕ → Outline
outline_of given main =
    let classes = classes_of given in
    let main_class = unwrap_or (given_number classes main) 0 in
    record {
      classes = classes;
      types = types_of classes given;
      texts = texts_of given;
      main_class = main_class;
      main = unwrap_or (main_of classes main_class) 0;
    }

-- ---- uses (JVMS 5.4.3)

-- what a number, where there is one, makes
abbrev pub with_number : (ℕ → Use) → Option ℕ → Use
with_number make None = resolved.Unused
with_number make (Some number) = make number

-- a field or a method with the type that the entry names
abbrev pub field_use : ℕ → ℕ → Use
field_use type field = resolved.OfField (record { 0 = field }) (record { 0 = type })

-- an index that is resolved to a method, with the type that it names
abbrev pub method_use : ℕ → ℕ → Use
method_use type method = resolved.OfMethod (record { 0 = method }) (record { 0 = type })

-- the number of the type that an entry names
abbrev pub type_number_at : Outline → List Entry → ℕ → Option ℕ
type_number_at o entries index = option_and_then (type_number o.types) (named_type o.classes entries index)

-- what an entry is resolved to
abbrev pub resolved_at : Outline → List Entry → ℕ → Use
resolved_at o entries index = of_entry (entry_at entries index) where
  of_type : (ℕ → Use) → Use
  of_type make = with_number make (type_number_at o entries index)

  found_by : (MemberName → Option ℕ) → Option ℕ
  found_by look_up = option_and_then look_up (named_member entries index)

  of_method : Use
  of_method = of_type (λ type. with_number (method_use type) (found_by (resolved_method o.classes)))

  of_entry : Entry → Use
  of_entry (entry.Integer value) = resolved.OfInt value
  of_entry (entry.Long value) = resolved.OfLong value
  of_entry (entry.Text text) = with_number resolved.OfText (option_and_then (text_number o.texts) (text_units entries index))
  of_entry (entry.Class name) = of_type (λ type. resolved.OfType (record { 0 = type }))
  of_entry (entry.Field class member) = of_type (λ type. with_number (field_use type) (found_by (resolved_field o.classes)))
  of_entry (entry.Method class member) = of_method
  of_entry (entry.InterfaceMethod class member) = of_method
  of_entry e = resolved.Unused

-- the indices of one class's pool
abbrev pub class_uses : Outline → ClassDef → List Use
class_uses o c = map (λ index. if is_used c index then resolved_at o c.pool.entries index else resolved.Unused) (pool_indices c)

-- a built-in class has no pool
unfoldable pub uses_of : Outline → List ClassDef → List (List Use)
uses_of o given = replicate (length built_in) [] ++ map (class_uses o) given

-- ---- the program

-- of each method its code, if it has one
unfoldable pub codes_of : List ClassDef → List (Option Code)
codes_of given = replicate (length (methods_of built_in)) None ++ flat_map (λ c. map code_of c.methods) given

-- the program of class files with a main class of this name
unfoldable pub program_of : List ClassDef → List ℕ → Program
program_of given main =
    let o = outline_of given main in
    record { outline = o; uses = uses_of o given; codes = codes_of given; made = None }

-- ---- what it records about a class, a method and a field

-- a class as the code numbers it
abbrev pub class_id : ℕ → ClassId
class_id class = record { 0 = class }

-- a method as the code numbers it
abbrev pub method_id : ℕ → MethodId
method_id method = record { 0 = method }

-- what a program records about a class
unfoldable pub class_info : Outline → ℕ → ClassInfo
class_info o class =
    let c = class_at o.classes class in
    record {
      name = c.name;
      parent = option_map class_id (parent_of o.classes class);
      interfaces = map class_id (listed_interfaces o.classes class);
      flags = c.flags;
      start = option_map method_id (start_of o.classes class);
      file = c.file;
      size = size_of o.classes class;
      package_bytes = length (package_of c.name);
    }

-- what a call of the method does: a built-in method has a row, and an abstract one has no code
abbrev pub body_of : DeclaredMethod → Option Code → Body
body_of m code = by_row m.row where
  by_code : Option Code → Body
  by_code None = body.Abstract
  by_code (Some c) = body.Coded c

  by_row : Option ℕ → Body
  by_row None = by_code code
  by_row (Some row) = body.Native row

-- the code of the method of a number
abbrev pub code_at : Program → ℕ → Option Code
code_at p method = slice_index_or p.codes method None

-- what a program records about a method
unfoldable pub method_info : Program → ℕ → MethodInfo
method_info p method =
    let owned = method_at p.outline.classes method in
    let m = owned.method in
    record {
      class = class_id owned.class;
      name = m.name;
      descriptor = m.descriptor;
      params = parameter_kinds p.outline.classes m.descriptor;
      result = result_kind p.outline.classes m.descriptor;
      flags = m.flags;
      body = body_of m (code_at p method);
    }

-- what a static field holds once its class is started
abbrev pub first_value : Outline → Option Constant → Use
first_value o None = resolved.Unused
first_value o (Some (constant.Int value)) = resolved.OfInt value
first_value o (Some (constant.Long value)) = resolved.OfLong value
first_value o (Some (constant.Text text)) = with_number resolved.OfText (text_number o.texts (units text))

-- what a program records about a field
unfoldable pub field_info : Outline → ℕ → FieldInfo
field_info o field =
    let owned = field_at o.classes field in
    let f = owned.field in
    record {
      class = class_id owned.class;
      name = f.name;
      kind = declared_kind o.classes (field_type f.descriptor);
      is_static = is_static f.flags;
      slot = slot_of o.classes field;
      first = first_value o f.value;
    }

-- ---- numbers and types that are in range

-- a type whose class, if it has one, is there
abbrev pub IsBaseIn : List DeclaredClass → Base → Type 0
IsBaseIn classes (base.OfClass class) = class.0 < length classes
IsBaseIn classes b = Unit {0}

-- a type that the program has classes for
abbrev pub IsTypeIn : List DeclaredClass → TypeRef → Type 0
IsTypeIn classes t = IsBaseIn classes t.base

-- ---- what an index is resolved to

-- what an index of a class's pool is resolved to
abbrev pub use_of : Program → ℕ → ℕ → Use
use_of p class index = slice_index_or (slice_index_or p.uses class []) index resolved.Unused

-- ---- the targets of a call (JVMS 6.5.invokevirtual and its like)

-- the class that a type is; none for an array
abbrev pub class_of_type : TypeRef → Option ℕ
class_of_type t = if t.dims == 0 then of_base t.base else None where
  of_base : Base → Option ℕ
  of_base (base.OfClass class) = Some class.0
  of_base b = None

-- the kind of a field of an object by its place, or of an element of an array
abbrev pub kind_at : List DeclaredClass → TypeRef → ℕ → Option Kind
kind_at classes t place =
    if t.dims == 0 then option_and_then (λ class. slice_get (kinds_of classes class) place) (class_of_type t)
    else Some (kind_with (t.dims - 1) t.base)

-- whether an array may be the receiver
abbrev pub takes_arrays : List DeclaredClass → TypeRef → Bool
takes_arrays classes named = of_class (class_of_type named) where
  of_class : Option ℕ → Bool
  of_class None = true
  of_class (Some class) = is_above_arrays classes class

-- in a narrowed program only some classes are made
abbrev pub is_made : Option (List Bool) → ℕ → Bool
is_made None class = true
is_made (Some made) class = has made class

-- the receiver may be an object of the class
abbrev pub takes_class : Program → TypeRef → ℕ → Bool
takes_class p named class =
    let flags = (class_at p.outline.classes class).flags in
    not (is_abstract flags) && not (is_interface flags) && is_made p.made class && is_sub p.outline.classes (type_of_class class) named

-- the methods selected over all receivers, with the class of arrays among them
abbrev pub selected : Program → TypeRef → ℕ → List ℕ
selected p named method =
    let classes = p.outline.classes in
    let receivers = filter (takes_class p named) (range_with_len 0 (length classes)) in
    let of_arrays = if takes_arrays classes named then option_to_list (object_number classes) else [] in
    filter_map (λ class. select classes class method) (receivers ++ of_arrays)

-- the methods that the call can lead to, rising and each once
unfoldable pub targets : Program → Call → List ℕ
targets p c = by_kind c.kind where
  among_methods : List ℕ → List ℕ
  among_methods found = filter (λ method. is_among method found) (range_with_len 0 (length (methods_of p.outline.classes)))

  by_kind : CallKind → List ℕ
  by_kind call.Static = c.method.0 ∷ []
  by_kind call.Special = special_target p.outline.classes c.caller.0 (class_of_type c.named) c.method.0 ∷ []
  by_kind call.Virtual = among_methods (selected p c.named c.method.0)
  by_kind call.Interface = among_methods (selected p c.named c.method.0)
