-- What linking makes sure of, as the law of dead regions uses it (JVMS 5.3.5, 5.4.3, 6.5): what
-- numbers refer to, and what instructions name.
use Rattle.std.specs.Prelude.{◌≡◌, ℕ, ◌<◌, ◌≤◌, Bool, true, false, length, Some, None, slice_get}
use Rattle.fm_base.specs.declared.ids.FieldId.{FieldId}
use Rattle.fm_base.specs.declared.ids.MethodId.{MethodId}
use Rattle.fm_base.specs.declared.ids.TypeId.{TypeId}
use Rattle.fm_base.specs.declared.kinds.TypeRef.{TypeRef}
use Rattle.fm_code.specs.AccessFlags.{is_static}
use Rattle.fm_code.specs.declared.instructions.Insn.{Insn}
use Rattle.fm_code.specs.declared.instructions.Insn.TheVariants as insn
use Rattle.fm_types.specs.Fits.{AreTree, fits_type, object_of}
use Rattle.fm_types.specs.Named.{throwable_type}
use Rattle.fm_world.specs.BuiltIns.{built_in}
use Rattle.fm_world.specs.Causes.{static_field_wanted, static_method_wanted}
use Rattle.fm_world.specs.Chains.{chain_of, is_among}
use Rattle.fm_world.specs.Lookups.{is_interface_at}
use Rattle.fm_world.specs.Members.{field_at, method_at, methods_of, slot_of}
use Rattle.fm_world.specs.Numbers.{type_number, type_of_class}
use Rattle.fm_world.specs.Programs.{class_of_type, kind_at, Program}
use Rattle.fm_world.specs.declared.uses.Use.TheVariants as resolved
use Rattle.fm_frames.specs.CallRows.{native_of}
use Rattle.fm_frames.specs.NativeRows.{text_kind}
use Rattle.fm_frames.specs.declared.natives.Native.{Native}
use Rattle.fm_frames.specs.ObjectRows.{kind_of_field}
use Rattle.fm_frames.specs.Runnable.{IsRunnable}
use Rattle.fm_law_sound.specs.Resolved.{IsNamed}
use Rattle.fm_same.specs.Covering.{is_free_me}
use Rattle.fm_same.specs.Evenness.{IsNumber, IsPlainKind}

-- what linking makes sure of
pub record IsResolved (p : Program) : Type 0 where
  -- the built-in classes come first, and what has a number is there
  pub runnable : IsRunnable p
  -- the types of the classes are numbered first, in the order of the classes
  pub class_types : (class : ℕ) → class < length p.outline.classes → type_number p.outline.types (type_of_class class) ≡ Some class
  -- only built-in methods have rows
  pub rows : (method : ℕ) → length (methods_of built_in) ≤ method → (method_at p.outline.classes method).method.row ≡ None
  -- invokestatic names a static method, and each other call names another one (JVMS 6.5.invokestatic)
  pub calls : (method : ℕ) (i : Insn) (m : MethodId) (t : TypeId) (wanted : Bool) → IsNamed p method i (resolved.OfMethod m t)
      → static_method_wanted i ≡ Some wanted → is_static (method_at p.outline.classes m.0).method.flags ≡ wanted
  -- the classes are a tree below Object: each class but Object has a superclass (JVMS 5.3.5)
  pub tree : AreTree p.outline.classes
  pub below_object : (class : ℕ) → class < length p.outline.classes
      → is_among (object_of p.outline.classes) (chain_of p.outline.classes class) ≡ true
  -- invokevirtual names no interface (JVMS 5.4.3.3)
  pub no_interface : (method index : ℕ) (m : MethodId) (t : TypeId) (named : TypeRef) (class : ℕ)
      → IsNamed p method (insn.Virtual index) (resolved.OfMethod m t) → slice_get p.outline.types t.0 ≡ Some named
      → class_of_type named ≡ Some class → is_interface_at p.outline.classes class ≡ false
  -- an object of a type that fits the one that getfield or putfield names has the field at its place (JVMS 5.4.3.2, 6.5.getfield)
  pub fields : (method : ℕ) (i : Insn) (f : FieldId) (t : TypeId) (named of : TypeRef) → IsNamed p method i (resolved.OfField f t)
      → static_field_wanted i ≡ Some false → slice_get p.outline.types t.0 ≡ Some named → fits_type p.outline.classes of named ≡ true
      → kind_at p.outline.classes of (slot_of p.outline.classes f.0) ≡ Some (kind_of_field p.outline f.0)
  -- and a throwable has its message at the first one
  pub message : (of : TypeRef) → fits_type p.outline.classes of (throwable_type p.outline) ≡ true
      → kind_at p.outline.classes of 0 ≡ Some (text_kind p.outline)
  -- a number is the constant of a field of numbers (JVMS 4.7.2)
  pub constants : (field : ℕ) → IsNumber (field_at p.outline.classes field).field.value → IsPlainKind (kind_of_field p.outline field)

-- no instruction names a method of FreeMe
abbrev pub CallsNoFreeMe : Program → Type 0
CallsNoFreeMe p =
    (method : ℕ) (i : Insn) (m : MethodId) (t : TypeId) (row : Native) → IsNamed p method i (resolved.OfMethod m t) → native_of p.outline m.0 ≡ Some row
    → is_free_me row ≡ false
