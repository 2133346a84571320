-- What a call with many names changes of the files.
use Rattle.std.specs.Prelude.{◌≡◌, ◌+◌, ◌≤◌, max, None, MatchOption, IsSomeAnd}
use Rattle.fm_base.specs.declared.limits.TheConstants.{MAX_FILE_BYTES}
use Rattle.fm_files.specs.Files.{Bytes, Counts, Contents, Disk}

-- the number of no name falls, and that of a name that isn't such is as before
pub record RisesOnlyAt (Such : Bytes → Type 0) (old new : Counts) : Type 0 where
  pub never_fall : (name : Bytes) → old name ≤ new name
  pub others : (name : Bytes) → ¬ Such name → new name ≡ old name

-- where contents are known, they still are, and each name that isn't such holds what it held
abbrev pub ChangesOnlyAt : (Bytes → Type 0) → Contents → Contents → Type 0
ChangesOnlyAt Such old new = MatchOption old (new ≡ None) (λ before. IsSomeAnd new (λ after. (name : Bytes) → ¬ Such name → after name ≡ before name))

-- such files alone were read, and of each no more was seen than one byte above the limit
pub record ReadsOnly (Such : Bytes → Type 0) (old new : Disk) : Type 0 where
  pub faults : RisesOnlyAt Such old.read_faults new.read_faults
  pub widest : RisesOnlyAt Such old.widest_read new.widest_read
  pub within : (name : Bytes) → new.widest_read name ≤ max (old.widest_read name) (MAX_FILE_BYTES + 1)
