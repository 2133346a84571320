-- What linking makes sure of, of the program of class files against which there is no cause.
use Rattle.std.specs.Prelude.{◌≡◌, ℕ, ◌<◌, ◌≤◌, Bool, true, false, List, [], ◌++◌, length, None, Some, slice_get, unwrap_or}
use Rattle.std.specs.List.{AllByRecursion}
use Rattle.fm_base.specs.declared.ids.FieldId.{FieldId}
use Rattle.fm_base.specs.declared.ids.MethodId.{MethodId}
use Rattle.fm_base.specs.declared.ids.TypeId.{TypeId}
use Rattle.fm_base.specs.declared.kinds.TypeRef.{TypeRef}
use Rattle.fm_base.specs.declared.limits.TheConstants.{MAX_CLASS_FILES}
use Rattle.fm_code.specs.AccessFlags.{is_static}
use Rattle.fm_code.specs.Edges.{insn_of}
use Rattle.fm_code.specs.Profile.{IsSupported}
use Rattle.fm_code.specs.Spells.{HasSpelling}
use Rattle.fm_code.specs.SpellsCode.{targets_of}
use Rattle.fm_code.specs.declared.class_file.ClassDef.{ClassDef}
use Rattle.fm_code.specs.declared.code_array.Code.{Code}
use Rattle.fm_code.specs.declared.code_array.TheConstants.{MAX_CODE_BYTES}
use Rattle.fm_code.specs.declared.instructions.Insn.{Insn}
use Rattle.fm_code.specs.declared.instructions.Insn.TheVariants as insn
use Rattle.fm_frames.specs.NativeRows.{text_kind}
use Rattle.fm_frames.specs.ObjectRows.{kind_of_field}
use Rattle.fm_frames.specs.Runnable.{IsUseIn}
use Rattle.fm_law_can_step.specs.Ready.{CanRun}
use Rattle.fm_same.specs.Evenness.{IsNumber, IsPlainKind}
use Rattle.fm_same.specs.Resolved.{IsResolved}
use Rattle.fm_law_sound.specs.Going.{ConstructorsGiveNothing}
use Rattle.fm_law_sound.specs.Leading.{NamesField}
use Rattle.fm_law_sound.specs.Making.{ConstantsAreStatic}
use Rattle.fm_law_sound.specs.Resolved.{IsNamed, MainIsReady, StepsAreResolved}
use Rattle.fm_law_sound.specs.Sound.{HasObjects}
use Rattle.fm_types.specs.Fits.{AreTree, fits_type, object_of}
use Rattle.fm_types.specs.Named.{class_of_method, throwable_type}
use Rattle.fm_world.specs.BuiltIns.{built_in}
use Rattle.fm_world.specs.Causes.{static_field_wanted, static_method_wanted}
use Rattle.fm_world.specs.Chains.{chain_of, is_among}
use Rattle.fm_world.specs.Linking.{refusals}
use Rattle.fm_world.specs.Lookups.{is_abstract_method, is_interface_at, select, special_target}
use Rattle.fm_world.specs.Members.{field_at, method_at, methods_of, slot_of}
use Rattle.fm_world.specs.Numbers.{type_number, type_of_class}
use Rattle.fm_world.specs.Programs.{class_of_type, code_at, IsTypeIn, kind_at, Program, program_of, use_of}
use Rattle.fm_world.specs.declared.declarations.DeclaredClass.{DeclaredClass}
use Rattle.fm_world.specs.declared.uses.Use.{Use}
use Rattle.fm_world.specs.declared.uses.Use.TheVariants as resolved
use Rattle.fm_world.specs.inner.Completions.{AreCompleted}

-- what linking makes sure of
pub record IsLinkedWell (p : Program) : Type 0 where
  -- the classes that are given, after the built-in ones, which have the same numbers in each program
  pub given : List DeclaredClass
  pub classes : p.outline.classes ≡ built_in ++ given
  -- what completes a built-in class leaves the superclasses of the table, and the fields of its objects (JVMS 5.3.5)
  pub completed : AreCompleted (built_in ++ given)
  -- a type that has a number is of a class that is there
  pub types : (n : ℕ) (t : TypeRef) → slice_get p.outline.types n ≡ Some t → IsTypeIn p.outline.classes t
  -- a method is of a class that is there
  pub owners : (method : ℕ) → (method_at p.outline.classes method).class < length p.outline.classes
  -- what an index of a class's constant pool refers to is there (JVMS 5.4.3)
  pub uses : (class index : ℕ) → IsUseIn p.outline (use_of p class index)
  -- each method has a place for its code, and one that has code has no row
  pub codes : length p.codes ≡ length (methods_of p.outline.classes)
  pub no_row : (method : ℕ) (code : Code) → code_at p method ≡ Some code → (method_at p.outline.classes method).method.row ≡ None
  -- the types of the classes are numbered first, in the order of the classes
  pub class_types : (class : ℕ) → class < length p.outline.classes → type_number p.outline.types (type_of_class class) ≡ Some class
  -- only built-in methods have rows
  pub rows : (method : ℕ) → length (methods_of built_in) ≤ method → (method_at p.outline.classes method).method.row ≡ None
  -- invokestatic names a static method, and each other call names another one (JVMS 6.5.invokestatic)
  pub calls : (method : ℕ) (i : Insn) (m : MethodId) (t : TypeId) (wanted : Bool) → IsNamed p method i (resolved.OfMethod m t)
      → static_method_wanted i ≡ Some wanted → is_static (method_at p.outline.classes m.0).method.flags ≡ wanted
  -- the classes are a tree below Object: each class but Object has a superclass (JVMS 5.3.5)
  pub tree : AreTree p.outline.classes
  pub below_object : (class : ℕ) → class < length p.outline.classes
      → is_among (object_of p.outline.classes) (chain_of p.outline.classes class) ≡ true
  -- invokevirtual names no interface (JVMS 5.4.3.3)
  pub no_interface : (method index : ℕ) (m : MethodId) (t : TypeId) (named : TypeRef) (class : ℕ)
      → IsNamed p method (insn.Virtual index) (resolved.OfMethod m t) → slice_get p.outline.types t.0 ≡ Some named
      → class_of_type named ≡ Some class → is_interface_at p.outline.classes class ≡ false
  -- an object of a type that fits the one that getfield or putfield names has the field at its place (JVMS 5.4.3.2, 6.5.getfield)
  pub fields : (method : ℕ) (i : Insn) (f : FieldId) (t : TypeId) (named of : TypeRef) → IsNamed p method i (resolved.OfField f t)
      → static_field_wanted i ≡ Some false → slice_get p.outline.types t.0 ≡ Some named → fits_type p.outline.classes of named ≡ true
      → kind_at p.outline.classes of (slot_of p.outline.classes f.0) ≡ Some (kind_of_field p.outline f.0)
  -- a throwable has its message at the first place of its objects
  pub message : (of : TypeRef) → fits_type p.outline.classes of (throwable_type p.outline) ≡ true
      → kind_at p.outline.classes of 0 ≡ Some (text_kind p.outline)
  -- a number is the constant of a field of numbers (JVMS 4.7.2)
  pub constants : (field : ℕ) → IsNumber (field_at p.outline.classes field).field.value → IsPlainKind (kind_of_field p.outline field)

-- the program of spelled class files against which there is no cause
abbrev pub ProgramsAreLinkedWell : Type 0
ProgramsAreLinkedWell =
    (given : List ClassDef) (main : List ℕ) → AllByRecursion HasSpelling given → refusals given main ≡ [] → IsLinkedWell (program_of given main)

-- No cause bounds how many files there are. Of as many as one call takes, the program is all that the laws of runs ask of a linked program: the numbers of
-- its types and the sizes of its objects fit the header of an object.
abbrev pub ProgramsAreResolved : Type 0
ProgramsAreResolved =
    (given : List ClassDef) (main : List ℕ) → AllByRecursion HasSpelling given → refusals given main ≡ [] → length given ≤ MAX_CLASS_FILES
    → IsResolved (program_of given main)

-- what linking and the rules of class files make sure of for each step of a program
pub record StepsAreLinked (p : Program) : Type 0 where
  -- a static method isn't abstract (JVMS 4.6)
  pub concrete : (method : ℕ) → is_static (method_at p.outline.classes method).method.flags ≡ true → is_abstract_method p.outline.classes method ≡ false
  -- a constructor has no result (JVMS 2.9)
  pub constructors : ConstructorsGiveNothing p.outline
  -- no abstract method is selected for an object, be it an array (JVMS 5.4.5)
  pub selected : (t : TypeRef) (method target : ℕ) → HasObjects p.outline t
      → select p.outline.classes (unwrap_or (class_of_type t) (object_of p.outline.classes)) method ≡ Some target
      → is_abstract_method p.outline.classes target ≡ false
  -- and none is called by invokespecial (JVMS 6.5.invokespecial)
  pub special : (method index : ℕ) (m : MethodId) (t : TypeId) (named : TypeRef) → IsNamed p method (insn.Special index) (resolved.OfMethod m t)
      → slice_get p.outline.types t.0 ≡ Some named
      → is_abstract_method p.outline.classes (special_target p.outline.classes (class_of_method p.outline method) (class_of_type named) m.0) ≡ false
  -- getstatic and putstatic name a static field, getfield and putfield another one (JVMS 6.5.getstatic)
  pub fields : (method : ℕ) (i : Insn) (u : Use) → IsNamed p method i u → NamesField p.outline u i
  -- the targets of an instruction are items (JVMS 4.9.1)
  pub targets : (method : ℕ) (code : Code) (item : ℕ) (i : Insn) → code_at p method ≡ Some code → insn_of code item ≡ Some i
      → AllByRecursion (λ target. target < length code.items) (targets_of i)
  -- a code has no more items than bytes (JVMS 4.7.3)
  pub items : (method : ℕ) (code : Code) → code_at p method ≡ Some code → length code.items ≤ MAX_CODE_BYTES
  -- a field with a constant is static (JVMS 4.7.2)
  pub constants : ConstantsAreStatic p.outline

-- of spelled class files against which there is no cause
abbrev pub StepsOfProgramsAreLinked : Type 0
StepsOfProgramsAreLinked =
    (given : List ClassDef) (main : List ℕ) → AllByRecursion HasSpelling given → refusals given main ≡ [] → StepsAreLinked (program_of given main)

-- Where the files are accepted, it is all that each step requires of calls, fields and targets.
abbrev pub StepsOfProgramsAreResolved : Type 0
StepsOfProgramsAreResolved =
    (given : List ClassDef) (main : List ℕ) → AllByRecursion HasSpelling given → AllByRecursion IsSupported given → refusals given main ≡ []
    → length given ≤ MAX_CLASS_FILES → StepsAreResolved (program_of given main)

-- And its main has code, and takes only the array of the arguments.
abbrev pub MainOfProgramsIsReady : Type 0
MainOfProgramsIsReady =
    (given : List ClassDef) (main : List ℕ) → AllByRecursion HasSpelling given → AllByRecursion IsSupported given → refusals given main ≡ []
    → MainIsReady (program_of given main)

-- So the machine can run it.
abbrev pub ProgramsCanRun : Type 0
ProgramsCanRun =
    (given : List ClassDef) (main : List ℕ) → AllByRecursion HasSpelling given → AllByRecursion IsSupported given → refusals given main ≡ []
    → length given ≤ MAX_CLASS_FILES → CanRun (program_of given main)
