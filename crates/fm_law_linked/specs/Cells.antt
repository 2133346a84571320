-- What linking makes sure of, so that each cell of a run fits its place: of the program of class
-- files against which there is no cause.
use Rattle.std.specs.Prelude.{◌≡◌, ℕ, ◌≤◌, List, [], length}
use Rattle.std.specs.List.{AllByRecursion}
use Rattle.fm_base.specs.declared.limits.TheConstants.{MAX_CLASS_FILES}
use Rattle.fm_code.specs.Profile.{IsSupported}
use Rattle.fm_code.specs.Spells.{HasSpelling}
use Rattle.fm_code.specs.declared.class_file.ClassDef.{ClassDef}
use Rattle.fm_law_no_fault.specs.CellsResolved.{BuiltInsFit, CellsAreResolved, PlacesFit}
use Rattle.fm_world.specs.Linking.{refusals}
use Rattle.fm_world.specs.Programs.{program_of}

-- Built-in classes and methods are as required, and so are the places of references: what can be
-- cast to a type fits it, no class is below String, hidden fields and constants are texts, and main
-- takes the array of the arguments.
abbrev pub PlacesOfProgramsFit : Type 0
PlacesOfProgramsFit =
    (given : List ClassDef) (main : List ℕ) → AllByRecursion HasSpelling given → refusals given main ≡ [] → length given ≤ MAX_CLASS_FILES
    → BuiltInsFit (program_of given main) × PlacesFit (program_of given main)

-- Of supported files, so are the methods that are called: it is all that a program needs so that
-- each cell fits its place.
abbrev pub CellsOfProgramsAreResolved : Type 0
CellsOfProgramsAreResolved =
    (given : List ClassDef) (main : List ℕ) → AllByRecursion HasSpelling given → AllByRecursion IsSupported given → refusals given main ≡ [] → length given ≤ MAX_CLASS_FILES
    → CellsAreResolved (program_of given main)
