-- What is left to refuse of files that hold class files that are accepted, link and are typed: how long they are.
use Rattle.std.specs.Prelude.{◌≡◌, ℕ, List, [], ◌∷◌, Option, Some, None}
use Rattle.fm_files.specs.Files.{Bytes, Disk}
use Rattle.fm_code.specs.ClassBytes.{class_bytes}
use Rattle.fm_code.specs.Profile.{Profile}
use Rattle.fm_code.specs.Spells.{Spells}
use Rattle.fm_code.specs.declared.class_file.ClassDef.{ClassDef}
use Rattle.fm_check_program.specs.Untyped.{AreTyped}
use Rattle.fm_world.specs.Linking.{refusals}
use Rattle.fm_world.specs.Programs.{program_of}
use Rattle.fm_load.specs.Causes.{IsKnownRefused, IsKnownUnlinked, IsKnownUntyped, IsMissing}
use Rattle.fm_load.specs.Given.{Given}

-- the file holds the bytes of the class, which spell it, and it is of the profile
pub record IsHeld (held : Bytes → Option Bytes) (file : Bytes) (c : ClassDef) : Type 0 where
  pub holds : held file ≡ Some (class_bytes c)
  pub spelled : Spells (class_bytes c) c
  pub profile : Profile c

-- each of the files holds those of the class in its place
abbrev pub AreHeld : (Bytes → Option Bytes) → List Bytes → List ClassDef → Type 0
AreHeld held [] [] = Unit {0}
AreHeld held (file ∷ files) (c ∷ classes) = IsHeld held file c × AreHeld held files classes
AreHeld held files classes = ⊥

-- no file is known to be missing or to be refused by its bytes, nor all to make no program, or one with a method that isn't typed: too many files, and
-- how long they are, are the only causes by contents that are left
pub record HasLengthsAlone (old : Disk) (given : Given) : Type 0 where
  pub there : ¬ IsMissing old given
  pub taken : (status : ℕ) → ¬ IsKnownRefused status old given
  pub linked : ¬ IsKnownUnlinked old given
  pub typed : ¬ IsKnownUntyped old given

-- the same holds of class files that link and are typed, where no class is made besides
abbrev pub AcceptedHaveLengthsAlone : Type 0
AcceptedHaveLengthsAlone =
    (held : Bytes → Option Bytes) (given : Given) (classes : List ClassDef) → given.made ≡ None → AreHeld held given.files classes → refusals classes given.main ≡ []
    → AreTyped (program_of classes given.main) → (old : Disk) → old.contents ≡ Some held → HasLengthsAlone old given
