-- What linking makes sure of, so that steps keep a state sound: where methods are called and classes are started, and what instructions name
-- (JVMS 4.6, 5.4.3, 5.4.5, 6.5).
use Rattle.std.specs.Prelude.{◌≡◌, ℕ, ◌<◌, ◌≤◌, Bool, true, false, [], ◌∷◌, length, None, Some, slice_get, unwrap_or}
use Rattle.std.specs.List.{AllByRecursion}
use Rattle.fm_base.specs.declared.ids.FieldId.{FieldId}
use Rattle.fm_base.specs.declared.ids.MethodId.{MethodId}
use Rattle.fm_base.specs.declared.ids.TypeId.{TypeId}
use Rattle.fm_base.specs.declared.kinds.TypeRef.{TypeRef}
use Rattle.fm_code.specs.AccessFlags.{is_static}
use Rattle.fm_code.specs.Edges.{insn_of}
use Rattle.fm_code.specs.SpellsCode.{targets_of}
use Rattle.fm_code.specs.declared.code_array.Code.{Code}
use Rattle.fm_code.specs.declared.code_array.TheConstants.{MAX_CODE_BYTES}
use Rattle.fm_code.specs.declared.instructions.Insn.{Insn}
use Rattle.fm_code.specs.declared.instructions.Insn.TheVariants as insn
use Rattle.fm_types.specs.Fits.{AreTree, fits_type, object_of}
use Rattle.fm_types.specs.Named.{class_of_method}
use Rattle.fm_types.specs.Typed.{entry_slots, use_by}
use Rattle.fm_types.specs.declared.slots.Slot.TheVariants as slot
use Rattle.fm_world.specs.BuiltIns.{built_in}
use Rattle.fm_world.specs.Causes.{static_field_wanted, static_method_wanted}
use Rattle.fm_world.specs.Lookups.{is_abstract_method, select, special_target}
use Rattle.fm_world.specs.Members.{method_at, methods_of, slot_of}
use Rattle.fm_world.specs.Programs.{class_of_type, code_at, kind_at, Program}
use Rattle.fm_world.specs.declared.uses.Use.{Use}
use Rattle.fm_world.specs.declared.uses.Use.TheVariants as resolved
use Rattle.fm_frames.specs.CallRows.{native_of}
use Rattle.fm_frames.specs.ObjectRows.{kind_of_field}
use Rattle.fm_frames.specs.Runnable.{IsRunnable}
use Rattle.fm_law_sound.specs.Going.{ConstructorsGiveNothing}
use Rattle.fm_law_sound.specs.Leading.{NamesField}
use Rattle.fm_law_sound.specs.Sound.{HasObjects}

-- the instruction is in a method that has code, and what it names is resolved to this
pub record IsNamed (p : Program) (method : ℕ) (i : Insn) (u : Use) : Type 0 where
  pub code : Code
  pub code_is : code_at p method ≡ Some code
  pub item : ℕ
  pub insn_is : insn_of code item ≡ Some i
  pub use_is : use_by p method i ≡ u

-- what linking makes sure of where methods are called
pub record CallsAreResolved (p : Program) : Type 0 where
  -- the built-in classes come first, and what has a number is there
  pub runnable : IsRunnable p
  -- only built-in methods have rows
  pub rows : (method : ℕ) → length (methods_of built_in) ≤ method → (method_at p.outline.classes method).method.row ≡ None
  -- each other method has code, unless it is abstract (JVMS 4.7.3)
  pub coded : (method : ℕ) → method < length (methods_of p.outline.classes) → is_abstract_method p.outline.classes method ≡ false
      → native_of p.outline method ≡ None → (code : Code) × (code_at p method ≡ Some code)
  -- a static method isn't abstract (JVMS 4.6)
  pub concrete : (method : ℕ) → is_static (method_at p.outline.classes method).method.flags ≡ true → is_abstract_method p.outline.classes method ≡ false
  -- a constructor has no result (JVMS 2.9)
  pub constructors : ConstructorsGiveNothing p.outline
  -- invokestatic names a static method, and each other call names another one (JVMS 6.5.invokestatic)
  pub calls : (method : ℕ) (i : Insn) (m : MethodId) (t : TypeId) (wanted : Bool) → IsNamed p method i (resolved.OfMethod m t)
      → static_method_wanted i ≡ Some wanted → is_static (method_at p.outline.classes m.0).method.flags ≡ wanted
  -- no abstract method is selected for an object, be it an array (JVMS 5.4.5)
  pub selected : (t : TypeRef) (method target : ℕ) → HasObjects p.outline t
      → select p.outline.classes (unwrap_or (class_of_type t) (object_of p.outline.classes)) method ≡ Some target
      → is_abstract_method p.outline.classes target ≡ false
  -- and none is called by invokespecial (JVMS 6.5.invokespecial)
  pub special : (method index : ℕ) (m : MethodId) (t : TypeId) (named : TypeRef) → IsNamed p method (insn.Special index) (resolved.OfMethod m t)
      → slice_get p.outline.types t.0 ≡ Some named
      → is_abstract_method p.outline.classes (special_target p.outline.classes (class_of_method p.outline method) (class_of_type named) m.0) ≡ false

-- what linking and the reading of class files make sure of, for each step
pub record StepsAreResolved (p : Program) : Type 0 where
  pub calls : CallsAreResolved p
  -- the classes are a tree below Object (JVMS 5.3.5)
  pub tree : AreTree p.outline.classes
  -- getstatic and putstatic name a static field, getfield and putfield another one (JVMS 6.5.getstatic)
  pub fields : (method : ℕ) (i : Insn) (u : Use) → IsNamed p method i u → NamesField p.outline u i
  -- an object of a type that fits the one that getfield or putfield names has the field at its place (JVMS 5.4.3.2, 6.5.getfield)
  pub places : (method : ℕ) (i : Insn) (f : FieldId) (t : TypeId) (named of : TypeRef) → IsNamed p method i (resolved.OfField f t)
      → static_field_wanted i ≡ Some false → slice_get p.outline.types t.0 ≡ Some named → fits_type p.outline.classes of named ≡ true
      → kind_at p.outline.classes of (slot_of p.outline.classes f.0) ≡ Some (kind_of_field p.outline f.0)
  -- the targets of an instruction are items (JVMS 4.9.1)
  pub targets : (method : ℕ) (code : Code) (item : ℕ) (i : Insn) → code_at p method ≡ Some code → insn_of code item ≡ Some i
      → AllByRecursion (λ target. target < length code.items) (targets_of i)
  -- a code has no more items than bytes (JVMS 4.7.3)
  pub items : (method : ℕ) (code : Code) → code_at p method ≡ Some code → length code.items ≤ MAX_CODE_BYTES

-- main has code, and takes only the array of the arguments (JVMS 5.2)
pub record MainIsReady (p : Program) : Type 0 where
  pub code : Code
  pub code_is : code_at p p.outline.main ≡ Some code
  pub arguments : TypeRef
  pub takes : entry_slots p.outline p.outline.main ≡ slot.Ref arguments ∷ []
