-- The reads of class files that a call makes, in order, and what they returned.
use Rattle.std.specs.Prelude.{◌≡◌, ◌⊎◌, List, [], ◌∷◌, ◌++◌, Option, Some, IsSome, IsSomeAnd}
use Rattle.std.specs.List.{AllByRecursion}
use Rattle.fm_files.specs.Files.{Bytes, Call, Disk, and_call}
use Rattle.fm_code.specs.ClassBytes.{class_bytes}
use Rattle.fm_code.specs.declared.class_file.ClassDef.{ClassDef}

-- one read of each file, which returned the bytes of the class in its place
abbrev pub returned : List Bytes → List ClassDef → List Call
returned (file ∷ files) (c ∷ classes) = record { name = file; bytes = Some (class_bytes c) } ∷ returned files classes
returned files classes = []

-- the reads of a call were of these files and returned the bytes of these classes
abbrev pub ReadsAs : List Bytes → List ClassDef → Disk → Disk → Type 0
ReadsAs files classes old new = new.reads ≡ old.reads ++ returned files classes

-- the first reads of a call were of these files and returned the bytes of these classes; others may follow
abbrev pub ReadsFirst : List Bytes → List ClassDef → Disk → Disk → Type 0
ReadsFirst files classes old new = (more : List Call) × (new.reads ≡ old.reads ++ (returned files classes ++ more))

-- the reads of a call were of files that returned the bytes of these classes, and then this one
abbrev pub ReadsUpTo : List Bytes → List ClassDef → Call → Disk → Disk → Type 0
ReadsUpTo files before last old new = new.reads ≡ old.reads ++ (returned files before ++ last ∷ [])

-- at most one read for each of these files, in their order from the first one on, and each but the last one returned bytes
abbrev pub AreInOrder : List Call → List Bytes → Type 0
AreInOrder [] files = Unit {0}
AreInOrder (call ∷ calls) (file ∷ files) = (call.name ≡ file) × (IsSome call.bytes ⊎ (calls ≡ [])) × AreInOrder calls files
AreInOrder (call ∷ calls) [] = ⊥

-- the reads of a call are of these files, in their order
abbrev pub ReadsInOrder : List Bytes → Disk → Disk → Type 0
ReadsInOrder files old new = (calls : List Call) × (new.reads ≡ old.reads ++ calls) × AreInOrder calls files

-- at most one read of this file was made
abbrev pub ReadsOnce : Bytes → Disk → Disk → Type 0
ReadsOnce file old new = (new.reads ≡ old.reads) ⊎ ((bytes : Option Bytes) × (new.reads ≡ and_call old.reads file bytes))

-- ---- reads as contents that are known

-- a read returned bytes, those that these contents hold
abbrev pub ReturnsHeld : (held : Bytes → Option Bytes) → Call → Type 0
ReturnsHeld held call = IsSomeAnd call.bytes (λ bytes. held call.name ≡ Some bytes)

-- each read of a call returned bytes, those that these contents hold
abbrev pub ReadsFrom : (held : Bytes → Option Bytes) → Disk → Disk → Type 0
ReadsFrom held old new = (calls : List Call) × (new.reads ≡ old.reads ++ calls) × AllByRecursion (ReturnsHeld held) calls

-- the files as if these contents were known
abbrev pub with_contents : (held : Bytes → Option Bytes) → Disk → Disk
with_contents held disk = record disk { contents = Some held }
