-- What becomes of the class files that words name.
use Rattle.std.specs.Prelude.{◌≡◌, ℕ, ◌<◌, ◌≤◌, List, [], ◌∷◌, ◌++◌, length, Option, Some, None, IfSome, IsSomeAnd, slice_get}
use Rattle.fm_base.specs.declared.limits.TheConstants.{MAX_CLASS_FILES}
use Rattle.fm_files.specs.Files.{Bytes, Contents, Disk}
use Rattle.fm_code.specs.declared.class_file.ClassDef.{ClassDef}
use Rattle.fm_gen.specs.Made.{made}
use Rattle.fm_check_program.specs.Untyped.{AreTyped, IsFirstUntyped}
use Rattle.fm_cli.specs.Outside.{HasNoFileFault, HasReadFault, HoldsSuch}
use Rattle.fm_world.specs.Causes.{declared_name, method_text, Refusal}
use Rattle.fm_world.specs.Linking.{refusals}
use Rattle.fm_world.specs.Programs.{Program, program_of}
use Rattle.fm_load.specs.declared.class_refusal.ClassRefusal.{ClassRefusal}
use Rattle.fm_load.specs.Returned.{ReadsFirst, ReadsUpTo}
use Rattle.fm_load.specs.Taking.{total_bytes, AllTaken, Reaches, IsTooLong, IsRefused, IsSeenTooLong}

-- the class files, in order, the number of the class that is made, if one is, and the main class as class files spell it
pub record Given : Type 0 where
  pub files : List Bytes
  pub made : Option ℕ
  pub main : List ℕ

-- nothing failed, no contents changed, and nothing was written
pub record IsUntouched (old new : Disk) : Type 0 where
  pub faultless : HasNoFileFault old new
  pub kept : new.contents ≡ old.contents
  pub unwritten : new.writes ≡ old.writes

-- ---- the files

-- there are too many, and nothing is touched
pub record AreMany (files : List Bytes) (count : ℕ) (old new : Disk) : Type 0 where
  pub count_is : count ≡ length files
  pub many : MAX_CLASS_FILES < count
  pub kept : new ≡ old

-- those before this file are taken, as their reads returned them, and the read of this one failed, which was the last, and nothing else,
-- no contents changed, and nothing was written
pub record IsUnread (files : List Bytes) (file : Bytes) (old new : Disk) : Type 0 where
  pub before : List ClassDef
  pub reaches : Reaches old.contents files file before
  pub fault : HasReadFault file old new
  pub kept : new.contents ≡ old.contents
  pub unwritten : new.writes ≡ old.writes
  pub last : ReadsUpTo files before (record { name = file; bytes = None }) old new

-- those before this file are taken, and this one is too long, or those up to it together, which was seen; its read, the last one, returned
-- no bytes, or such bytes
pub record IsLong (files : List Bytes) (file : Bytes) (old new : Disk) : Type 0 where
  pub before : List ClassDef
  pub reaches : Reaches old.contents files file before
  pub long : HoldsSuch old.contents file (IsTooLong (total_bytes before))
  pub seen : IsSeenTooLong new.widest_read files (length before) file
  pub last : (bytes : Option Bytes) × IfSome bytes (IsTooLong (total_bytes before)) × ReadsUpTo files before (record { name = file; bytes = bytes }) old new
  pub untouched : IsUntouched old new

-- those before this file are taken, and this one is refused by its bytes, which its read, the last one, returned
pub record IsRefusedFile (files : List Bytes) (file : Bytes) (refusal : ClassRefusal) (old new : Disk) : Type 0 where
  pub before : List ClassDef
  pub reaches : Reaches old.contents files file before
  pub refused : HoldsSuch old.contents file (IsRefused refusal (total_bytes before))
  pub last : (bytes : Bytes) × IsRefused refusal (total_bytes before) bytes × ReadsUpTo files before (record { name = file; bytes = Some bytes }) old new
  pub untouched : IsUntouched old new

-- ---- their classes

-- the class that is made, if one is
abbrev pub made_classes : Option ℕ → List ClassDef
made_classes None = []
made_classes (Some n) = made n ∷ []

-- a class is made only where no file is named, and its number is from 1 to 100
abbrev pub IsMadeAlone : Given → Type 0
IsMadeAlone given = IfSome given.made (λ n. (1 ≤ n) × (n ≤ 100) × (given.files ≡ []))

-- these classes are given: those of the files, each of which is taken, or the one that is made
pub record AreGiven (given : Given) (contents : Contents) (classes : List ClassDef) : Type 0 where
  pub read : List ClassDef
  pub taken : AllTaken contents given.files read
  pub alone : IsMadeAlone given
  pub classes_are : classes ≡ read ++ made_classes given.made

-- the program that classes make with the main class
abbrev pub given_program : Given → List ClassDef → Program
given_program given classes = program_of classes given.main

-- these classes are given, and make a program
pub record AreLinked (given : Given) (contents : Contents) (classes : List ClassDef) : Type 0 where
  pub source : AreGiven given contents classes
  pub linked : refusals classes given.main ≡ []

-- the classes that are given, as the reads of their files returned them, make no program, of which this is the first cause
pub record AreNotLinked (given : Given) (old new : Disk) (cause : Refusal) : Type 0 where
  pub classes : List ClassDef
  pub source : AreGiven given old.contents classes
  pub reads : ReadsFirst given.files classes old new
  pub first : slice_get (refusals classes given.main) 0 ≡ Some cause

-- this is the first cause for which they make no program
pub record IsNotLinked (given : Given) (cause : Option Refusal) (old new : Disk) : Type 0 where
  pub refused : IsSomeAnd cause (AreNotLinked given old new)
  pub untouched : IsUntouched old new

-- the name, with class and descriptor, of the first method of the program, class by class, that has code and isn't typed
pub record IsFirstUntypedName (p : Program) (name : List ℕ) : Type 0 where
  pub method : ℕ
  pub first : IsFirstUntyped p method
  pub name_is : name ≡ method_text (declared_name p.outline.classes method)

-- they make a program, as the reads of their files returned them, and this is the name of its first method that isn't typed
pub record IsNotTyped (given : Given) (name : Bytes) (old new : Disk) : Type 0 where
  pub classes : List ClassDef
  pub linked : AreLinked given old.contents classes
  pub reads : ReadsFirst given.files classes old new
  pub untyped : IsFirstUntypedName (given_program given classes) name
  pub untouched : IsUntouched old new

-- they make a program, and each of its methods with code is typed
pub record AreChecked (given : Given) (contents : Contents) (classes : List ClassDef) : Type 0 where
  pub linked : AreLinked given contents classes
  pub typed : AreTyped (given_program given classes)
