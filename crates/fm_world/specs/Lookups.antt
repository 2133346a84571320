-- What a name is resolved to, and which method is called (JVMS 5.4.3, 5.4.5, 6.5).
use Rattle.std.specs.Prelude.{ℕ, ◌&&◌, ◌||◌, not, ◌==◌, Bool, true, false, List, [], ◌∷◌, ◌++◌, codes, Option, Some, None, unwrap_or, option_to_list, option_and_then, if◌then◌else◌}
use Rattle.std.specs.List.{flat_map, list_any}
use Rattle.std.specs.Str.{bytes_eq}
use Rattle.fm_base.specs.declared.characters.TheConstants.{SLASH}
use Rattle.fm_code.specs.AccessFlags.{is_private, is_package_private, is_static, is_interface, is_abstract}
use Rattle.fm_code.specs.ConstantPool.{MemberName}
use Rattle.fm_code.specs.Names.{FieldType}
use Rattle.fm_world.specs.BuiltIns.{object_name}
use Rattle.fm_world.specs.Chains.{class_at, chain_of, completing_of, superclasses_of, superinterfaces_of, interfaces_of, is_among, first_found}
use Rattle.fm_world.specs.declared.declarations.DeclaredClass.{DeclaredClass}
use Rattle.fm_world.specs.Descriptors.{class_number, class_type}
use Rattle.fm_world.specs.Members.{field_among, method_among, own_method, method_at, is_instance, OwnedMethod}

-- the number of Object
abbrev pub object_number : List DeclaredClass → Option ℕ
object_number classes = class_number classes object_name

-- the name of constructors (JVMS 2.9)
abbrev pub constructor_name : List ℕ
constructor_name = codes "<init>"

-- a test that all flags pass
abbrev pub any_flags : ℕ → Bool
any_flags flags = true

-- whether the class of a number is an interface
abbrev pub is_interface_at : List DeclaredClass → ℕ → Bool
is_interface_at classes class = is_interface (class_at classes class).flags

-- ---- fields (JVMS 5.4.3.2)

-- where a field of a class is looked for: in it, in its superinterfaces, then in the superclass in the same way
abbrev pub field_path : List DeclaredClass → ℕ → List ℕ
field_path classes class = flat_map (λ above. above ∷ superinterfaces_of classes above) (chain_of classes class)

-- the field that a pool entry names; an array has none
unfoldable pub resolved_field : List DeclaredClass → MemberName → Option ℕ
resolved_field classes m =
    option_and_then (λ class. field_among classes m.name m.descriptor (field_path classes class)) (class_number classes m.class)

-- ---- methods (JVMS 5.4.3.3, 5.4.3.4)

-- the class, or Object for an array
abbrev pub class_searched : List DeclaredClass → List ℕ → Option ℕ
class_searched classes name = number_of (class_type name) where
  number_of : FieldType → Option ℕ
  number_of t = if t.dimensions == 0 then class_number classes name else object_number classes

-- where a method is looked for: of an interface in it, in its superinterfaces and in Object; of a class in it, in its superclasses upwards, and
-- then in the superinterfaces of all of these
abbrev pub method_path : List DeclaredClass → ℕ → List ℕ
method_path classes class =
    if is_interface_at classes class then class ∷ (superinterfaces_of classes class ++ option_to_list (object_number classes))
    else chain_of classes class ++ interfaces_of classes class

-- where a constructor is looked for: in the named class, and in what completes it
abbrev pub constructor_path : List DeclaredClass → ℕ → List ℕ
constructor_path classes class = class ∷ completing_of classes class

-- the method that a pool entry names
unfoldable pub resolved_method : List DeclaredClass → MemberName → Option ℕ
resolved_method classes m =
    if bytes_eq m.name constructor_name
    then option_and_then (λ class. method_among classes any_flags m.name m.descriptor (constructor_path classes class)) (class_number classes m.class)
    else option_and_then (λ class. method_among classes any_flags m.name m.descriptor (method_path classes class)) (class_searched classes m.class)

-- ---- packages

-- what the name of a class has up to its last slash: the name of its package (JVMS 4.2.1, 5.3)
unfoldable pub package_of : List ℕ → List ℕ
package_of [] = []
package_of (byte ∷ name) = if is_among SLASH (byte ∷ name) then byte ∷ package_of name else []

-- whether two classes are of one package
abbrev pub same_package : List DeclaredClass → ℕ → ℕ → Bool
same_package classes class other = bytes_eq (package_of (class_at classes class).name) (package_of (class_at classes other).name)

-- ---- the method that is called

-- a method that is selected by name and descriptor: neither static nor private
abbrev pub is_selectable : ℕ → Bool
is_selectable flags = not (is_static flags) && not (is_private flags)

-- the class's own method of the name and the descriptor of this one, if it is neither static nor private
abbrev pub own_selectable : List DeclaredClass → OwnedMethod → ℕ → Option ℕ
own_selectable classes m class = own_method classes is_selectable m.method.name m.method.descriptor class

-- a method that classes of other packages override only once it is opened: of a class, and neither public, protected nor private (JVMS 5.4.5)
abbrev pub is_restricted : List DeclaredClass → OwnedMethod → Bool
is_restricted classes m = is_package_private m.method.flags && not (is_interface_at classes m.class)

-- there is a method, and it isn't restricted
abbrev pub is_unrestricted : List DeclaredClass → Option ℕ → Bool
is_unrestricted classes None = false
is_unrestricted classes (Some method) = not (is_restricted classes (method_at classes method))

-- the class opens the method for all packages: it is below the method's class, of its package, and overrides the method by one that isn't restricted
-- (JVMS 5.4.5)
abbrev pub opens : List DeclaredClass → OwnedMethod → ℕ → Bool
opens classes m class =
    is_among m.class (chain_of classes class) && (same_package classes class m.class && is_unrestricted classes (own_selectable classes m class))

-- whether the class's method of the same name and descriptor overrides the method: where that is restricted to a package, the class is below the
-- method's class, and is of its package or below a class that has opened it; what overrides that one's method overrides the method too (JVMS 5.4.5)
abbrev pub can_override : List DeclaredClass → OwnedMethod → ℕ → Bool
can_override classes m class =
    not (is_restricted classes m)
    || (is_among m.class (chain_of classes class) && (same_package classes class m.class || list_any (opens classes m) (chain_of classes class)))

-- the class's own method by which it overrides the method (JVMS 5.4.5)
abbrev pub overriding : List DeclaredClass → OwnedMethod → ℕ → Option ℕ
overriding classes m class = if can_override classes m class then own_selectable classes m class else None

-- of an object of the class: the method itself where it is private, else the nearest one that overrides it in the class and its superclasses
-- (JVMS 5.4.5, 6.5.invokevirtual)
unfoldable pub select : List DeclaredClass → ℕ → ℕ → Option ℕ
select classes class method =
    let m = method_at classes method in
    if is_private m.method.flags then Some method else first_found (overriding classes m) (chain_of classes class)

-- a special call searches from the caller's superclass where it calls no constructor and names a superclass of the caller, whether the caller has
-- the flag ACC_SUPER or not (JVMS 4.1, 6.5.invokespecial)
abbrev pub searches_above : List DeclaredClass → ℕ → Option ℕ → List ℕ → Bool
searches_above classes caller None name = false
searches_above classes caller (Some named) name =
    not (bytes_eq name constructor_name) && is_among named (superclasses_of classes caller)

-- the class's own method of the name and descriptor of this one that isn't static, private ones counted
abbrev pub own_instance : List DeclaredClass → ℕ → ℕ → Option ℕ
own_instance classes method class = let m = (method_at classes method).method in own_method classes is_instance m.name m.descriptor class

-- the method that a special call calls, where the entry names the class and is resolved to the method; an array is named as none
unfoldable pub special_target : List DeclaredClass → ℕ → Option ℕ → ℕ → ℕ
special_target classes caller named method =
    if searches_above classes caller named (method_at classes method).method.name
    then unwrap_or (first_found (own_instance classes method) (superclasses_of classes caller)) method else method

-- a method that isn't to be called
abbrev pub is_abstract_method : List DeclaredClass → ℕ → Bool
is_abstract_method classes method = is_abstract (method_at classes method).method.flags
