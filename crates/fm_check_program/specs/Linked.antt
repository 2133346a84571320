-- What holds of class files that have no cause of refusal.
use Rattle.std.specs.Prelude.{◌≡◌, ℕ, List, []}
use Rattle.std.specs.List.{AllByRecursion}
use Rattle.fm_code.specs.Spells.{HasSpelling}
use Rattle.fm_code.specs.declared.class_file.ClassDef.{ClassDef}
use Rattle.fm_types.specs.Fits.{AreTree}
use Rattle.fm_world.specs.Linking.{refusals}
use Rattle.fm_world.specs.Programs.{classes_of}

-- their classes, and the built-in ones, are a tree below Object
abbrev pub AreLinkedTree : Type 0
AreLinkedTree =
    (given : List ClassDef) (main : List ℕ) → AllByRecursion HasSpelling given → refusals given main ≡ [] → AreTree (classes_of given)
