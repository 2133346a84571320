-- What is tested of class files before they are written again is all that the statements on the classes written require of them.
use Rattle.std.specs.Prelude.{◌≡◌, ℕ, List, [], None}
use Rattle.std.specs.List.{AllByRecursion}
use Rattle.fm_code.specs.Spells.{HasSpelling}
use Rattle.fm_code.specs.declared.class_file.ClassDef.{ClassDef}
use Rattle.fm_files.specs.Files.{Contents}
use Rattle.fm_world.specs.Linking.{refusals}
use Rattle.fm_world.specs.Programs.{program_of}
use Rattle.fm_load.specs.Given.{AreChecked, Given, given_program}
use Rattle.fm_rewrite.specs.FreeCalls.{first_call}
use Rattle.fm_same.specs.Resolved.{CallsNoFreeMe}
use Rattle.fm_law_same_runs.specs.Programs.{AreTaken}

-- Where no invokestatic of a method of the class FreeMe is found, no instruction names one of its methods: of a class file each instruction names an entry of
-- its own tag, and linking refuses another call of a static method (JVMS 4.9.1, 6.5.invokestatic).
abbrev pub FirstCallIsFound : Type 0
FirstCallIsFound =
    (given : List ClassDef) (main : List ℕ) → AllByRecursion HasSpelling given → refusals given main ≡ [] → first_call (program_of given main) ≡ None
    → CallsNoFreeMe (program_of given main)

-- class files that are read, accepted, linked and typed, and that call no method of FreeMe, are taken
abbrev pub CheckedAreTaken : Type 0
CheckedAreTaken =
    (given : Given) (contents : Contents) (classes : List ClassDef) → AreChecked given contents classes
    → first_call (given_program given classes) ≡ None → AreTaken classes given.main
