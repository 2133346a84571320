-- What a call of a program changes of the files, and what is known of a file.
use Rattle.std.specs.Prelude.{◌≡◌, ◌+◌, ◌<◌, ◌≤◌, max, None, IfSome, IsSomeAnd}
use Rattle.fm_base.specs.declared.limits.TheConstants.{MAX_FILE_BYTES}
use Rattle.fm_files.specs.Files.{Bytes, Contents, Disk, AreKept, RisesAt}

-- no read and no write of any name failed
pub record HasNoFileFault (old new : Disk) : Type 0 where
  pub reads : AreKept old.read_faults new.read_faults
  pub writes : AreKept old.write_faults new.write_faults

-- a read of this file failed, no read of another name did, and no write
pub record HasReadFault (file : Bytes) (old new : Disk) : Type 0 where
  pub rose : old.read_faults file < new.read_faults file
  pub reads : RisesAt file old.read_faults new.read_faults
  pub writes : AreKept old.write_faults new.write_faults

-- a write of this name failed, no write of another name did, and no read
pub record HasWriteFault (name : Bytes) (old new : Disk) : Type 0 where
  pub rose : old.write_faults name < new.write_faults name
  pub writes : RisesAt name old.write_faults new.write_faults
  pub reads : AreKept old.read_faults new.read_faults

-- this file alone was read, and no more of it was seen than one byte above the limit
pub record ReadsAlone (file : Bytes) (old new : Disk) : Type 0 where
  pub faults : RisesAt file old.read_faults new.read_faults
  pub widest : RisesAt file old.widest_read new.widest_read
  pub within : new.widest_read file ≤ max (old.widest_read file) (MAX_FILE_BYTES + 1)

-- where contents are known, the file is there and this holds of its bytes
abbrev pub HoldsSuch : Contents → Bytes → (Bytes → Type 0) → Type 0
HoldsSuch contents file P = IfSome contents (λ held. IsSomeAnd (held file) P)

-- contents are known, the file is there and this holds of its bytes
abbrev pub IsKnownSuch : Contents → Bytes → (Bytes → Type 0) → Type 0
IsKnownSuch contents file P = IsSomeAnd contents (λ held. IsSomeAnd (held file) P)

-- contents are known, and the file isn't there
abbrev pub IsKnownMissing : Contents → Bytes → Type 0
IsKnownMissing contents file = IsSomeAnd contents (λ held. held file ≡ None)
