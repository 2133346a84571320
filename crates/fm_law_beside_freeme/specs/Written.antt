-- The classes written are accepted again, unless in one of the methods given a local holds a copy of a held object while its constructor is
-- called, and a handler's range ends right behind that call.
use Rattle.std.specs.Prelude.{◌≡◌, ℕ, List, [], Option, Some, None}
use Rattle.std.specs.List.{AllByRecursion}
use Rattle.fm_code.specs.Spells.{HasSpelling}
use Rattle.fm_code.specs.declared.class_file.ClassDef.{ClassDef}
use Rattle.fm_files.specs.Files.{Bytes, Disk}
use Rattle.fm_place.specs.Safe.{IsProgramOf, SafeOf}
use Rattle.fm_law_retyped.specs.Retyped.{NoneUnready}
use Rattle.fm_world.specs.Linking.{refusals}
use Rattle.fm_world.specs.Programs.{Program}
use Rattle.fm_law_beside_freeme.specs.Lengths.{AreHeld, HasLengthsAlone}

-- files that hold the classes written, each with a spelling and of the profile, with the main class of the given ones
abbrev pub WrittenHaveLengthsAlone : Type 0
WrittenHaveLengthsAlone =
    (given : List ClassDef) (main : List ℕ) (p : Program) → IsProgramOf given main p → (written : List ClassDef) (marks : List (List (Option ℕ)))
    → AllByRecursion HasSpelling given → refusals given main ≡ [] → (safe : SafeOf p given written marks) → NoneUnready p safe.facts safe.plans
    → (held : Bytes → Option Bytes) (files : List Bytes) → AreHeld held files written → (old : Disk) → old.contents ≡ Some held
    → HasLengthsAlone old (record { files = files; made = None; main = main })
