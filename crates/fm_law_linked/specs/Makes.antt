-- What linking makes sure of where objects are made and fields are put (JVMS 6.5.newarray, 6.5.anewarray, 6.5.multianewarray, 6.5.putfield).
use Rattle.std.specs.Prelude.{◌≡◌, ℕ, ◌^◌, ◌<◌, ◌≤◌, List, [], length, Some, slice_get}
use Rattle.std.specs.List.{AllByRecursion}
use Rattle.fm_base.specs.declared.kinds.TypeRef.{TypeRef}
use Rattle.fm_base.specs.declared.limits.TheConstants.{MAX_CLASS_FILES}
use Rattle.fm_code.specs.Spells.{HasSpelling}
use Rattle.fm_code.specs.declared.class_file.ClassDef.{ClassDef}
use Rattle.fm_code.specs.declared.instructions.Insn.{Insn}
use Rattle.fm_frames.specs.Acts.{literal_text}
use Rattle.fm_frames.specs.ArrayRows.{element_type}
use Rattle.fm_frames.specs.Runs.{arguments_type}
use Rattle.fm_law_sound.specs.Making.{AreUnits, IsNumbered, MakesAreResolved, NamesAreUnits, NamesMade}
use Rattle.fm_law_sound.specs.Resolved.{IsNamed}
use Rattle.fm_world.specs.Linking.{refusals}
use Rattle.fm_world.specs.Programs.{Program, program_of}
use Rattle.fm_world.specs.declared.uses.Use.{Use}

-- what linking makes sure of where objects are made, for each step of a program
pub record MakesAreLinked (p : Program) : Type 0 where
  -- the element type of a numbered array is numbered, where it is an array again
  pub elements : (n : ℕ) (t : TypeRef) → slice_get p.outline.types n ≡ Some t → 1 < t.dims → IsNumbered p.outline (element_type t)
  -- the names of types that have a number are of 16-bit units (JVMS 4.4.7)
  pub names : NamesAreUnits p.outline
  -- the units of literals are those of texts, and of names, of class files (JVMS 4.4.7)
  pub texts : (text : ℕ) → (length (literal_text p.outline text) < 2 ^ 31) × AreUnits (literal_text p.outline text)
  -- the array of main's arguments has a number
  pub arguments : IsNumbered p.outline (arguments_type p.outline)
  -- arrays that instructions make have numbers, and the fields that they put are where the objects have them
  pub made : (method : ℕ) (i : Insn) (u : Use) → IsNamed p method i u → NamesMade p.outline u i

-- of spelled class files against which there is no cause
abbrev pub MakesOfProgramsAreLinked : Type 0
MakesOfProgramsAreLinked =
    (given : List ClassDef) (main : List ℕ) → AllByRecursion HasSpelling given → refusals given main ≡ [] → MakesAreLinked (program_of given main)

-- Of as many files as one call takes, the program is all that steps ask where objects are made.
abbrev pub MakesOfProgramsAreResolved : Type 0
MakesOfProgramsAreResolved =
    (given : List ClassDef) (main : List ℕ) → AllByRecursion HasSpelling given → refusals given main ≡ [] → length given ≤ MAX_CLASS_FILES
    → MakesAreResolved (program_of given main)
