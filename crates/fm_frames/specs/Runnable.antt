-- What linking makes sure of, so that numbers of the machine fit those of the code (JVMS 4.1, 5.3, 5.4).
use Rattle.std.specs.Prelude.{◌≡◌, ℕ, ◌^◌, ◌<◌, ◌≤◌, List, ◌++◌, length, None, Some, slice_get}
use Rattle.fm_base.specs.declared.kinds.TypeRef.{TypeRef}
use Rattle.fm_code.specs.declared.code_array.Code.{Code}
use Rattle.fm_world.specs.BuiltIns.{built_in}
use Rattle.fm_world.specs.Members.{fields_of, method_at, methods_of, size_of}
use Rattle.fm_world.specs.Programs.{code_at, IsTypeIn, Outline, Program, use_of}
use Rattle.fm_world.specs.declared.declarations.DeclaredClass.{DeclaredClass}
use Rattle.fm_world.specs.declared.uses.Use.{Use}
use Rattle.fm_world.specs.declared.uses.Use.TheVariants as resolved
use Rattle.fm_world.specs.inner.Completions.{AreCompleted}

-- what an index refers to is there: its type, field, method or text has a number (JVMS 5.4.3)
abbrev pub IsUseIn : Outline → Use → Type 0
IsUseIn o (resolved.OfType t) = t.0 < length o.types
IsUseIn o (resolved.OfField f t) = (f.0 < length (fields_of o.classes)) × (t.0 < length o.types)
IsUseIn o (resolved.OfMethod m t) = (m.0 < length (methods_of o.classes)) × (t.0 < length o.types)
IsUseIn o (resolved.OfInt n) = Unit {0}
IsUseIn o (resolved.OfLong n) = Unit {0}
IsUseIn o (resolved.OfText text) = text < length o.texts
IsUseIn o resolved.Unused = Unit {0}

-- what completes a built-in class leaves the superclasses of the table, and the fields of its objects (JVMS 5.3.5); steps of the machine need none of it
unfoldable pub KeepsTable : List DeclaredClass → Type 0
KeepsTable given = AreCompleted (built_in ++ given)

-- a program whose numbers the machine can use
pub record IsRunnable (p : Program) : Type 0 where
  -- the classes that are given, after the built-in ones, which have the same numbers in each program
  pub given : List DeclaredClass
  pub classes : p.outline.classes ≡ built_in ++ given
  pub completed : KeepsTable given
  -- the number of a type fits the header of an object
  pub few_types : length p.outline.types ≤ 2 ^ 28
  -- and so does the size of an object (JVMS 4.11)
  pub sizes : (class : ℕ) → size_of p.outline.classes class < 2 ^ 31
  -- a type that has a number is of a class that is there
  pub types : (n : ℕ) (t : TypeRef) → slice_get p.outline.types n ≡ Some t → IsTypeIn p.outline.classes t
  -- a method is of a class that is there
  pub owners : (method : ℕ) → (method_at p.outline.classes method).class < length p.outline.classes
  -- what an index of a class's constant pool refers to is there
  pub uses : (class index : ℕ) → IsUseIn p.outline (use_of p class index)
  -- each method has a place for its code
  pub codes : length p.codes ≡ length (methods_of p.outline.classes)
  -- and a built-in method has none
  pub no_row : (method : ℕ) (code : Code) → code_at p method ≡ Some code → (method_at p.outline.classes method).method.row ≡ None
