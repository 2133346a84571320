-- Class files make a program, or are refused for the first cause.
use Rattle.std.specs.Prelude.{◌≡◌, ℕ, List, [], ◌++◌, length, Result, Ok, Err, Some, slice_get}
use Rattle.std.specs.List.{flat_map}
use Rattle.fm_code.specs.declared.class_file.ClassDef.{ClassDef}
use Rattle.fm_world.specs.BuiltIns.{built_in}
use Rattle.fm_world.specs.Causes.{Refusal, duplicates, built_in_named, missing_classes, bad_parents, missing_fields, missing_methods, not_implemented, each_from, no_main}
use Rattle.fm_world.specs.Programs.{Program, classes_of, program_of}

-- ---- the refusals of each kind

-- classes of one name
unfoldable pub refused_duplicates : List ClassDef → List Refusal
refused_duplicates given = duplicates [] given

-- classes with the name of a built-in one that they don't complete
unfoldable pub refused_built_ins : List ClassDef → List Refusal
refused_built_ins given = flat_map built_in_named given

-- classes that are named and missing
unfoldable pub refused_missing_classes : List ClassDef → List Refusal
refused_missing_classes given = flat_map (missing_classes (classes_of given)) given

-- superclasses and interfaces that can be none
unfoldable pub refused_parents : List ClassDef → List Refusal
refused_parents given = flat_map (bad_parents (classes_of given)) given

-- fields that are missing
unfoldable pub refused_fields : List ClassDef → List Refusal
refused_fields given = flat_map (missing_fields (classes_of given)) given

-- methods that are missing
unfoldable pub refused_methods : List ClassDef → List Refusal
refused_methods given = flat_map (missing_methods (classes_of given)) given

-- abstract methods that are left over
unfoldable pub refused_not_implemented : List ClassDef → List Refusal
refused_not_implemented given = each_from (length built_in) (not_implemented (classes_of given)) given

-- a main that is missing
unfoldable pub refused_main : List ClassDef → List ℕ → List Refusal
refused_main given main = no_main (classes_of given) main

-- ---- all of them

-- every refusal of class files with the name of a main class, in order
unfoldable pub refusals : List ClassDef → List ℕ → List Refusal
refusals given main =
    refused_duplicates given
    ++ refused_built_ins given
    ++ refused_missing_classes given
    ++ refused_parents given
    ++ refused_fields given
    ++ refused_methods given
    ++ refused_not_implemented given
    ++ refused_main given main

-- the result: the program where nothing is refused, and else the first refusal
abbrev pub IsLinked : List ClassDef → List ℕ → Result Program Refusal → Type 0
IsLinked given main (Ok program) = (refusals given main ≡ []) × (program ≡ program_of given main)
IsLinked given main (Err refusal) = slice_get (refusals given main) 0 ≡ Some refusal
