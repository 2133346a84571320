-- What a result of files in memory means for the three numbers, for the contents and for the calls.
use Rattle.std.proofs.Common.{◌≡◌, ◌≢◌, Result, Ok, Err, Vec, ℕ, Some, OnOk, refl}
use Rattle.std.specs.FinMap.{get}
use Rattle.fm_files.specs.Calls.{with_read, with_write}
use Rattle.fm_files.specs.Files.{Bytes}
use Rattle.fm_files.specs.Memory.{MemFilesState, after_read, after_write}
use Rattle.fm_files.specs.Tally.{no_tally, tally_of, tallies_after_read}
use Rattle.fm_files.specs.declared.error.FileFail.{FileFail}
use Rattle.fm_files.specs.declared.error.FileFail.TheVariants as file_fail
use Rattle.fm_files.specs.declared.error.WriteFail.{WriteFail}
use Rattle.fm_files.specs.declared.error.WriteFail.TheVariants as write_fail
use Rattle.fm_files.proofs.NamesLemmas.{get-insert_same, get-insert_other, IsSetAt, IsSetAt-insert, IsSetAt-none}
use Rattle.fm_files.proofs.TallyLemmas.{tally_after_write}

module _ (files : MemFilesState) (name : Bytes) where
  pub held-after_read : {Y : Type 0} (limit : ℕ) (answer : Result (Vec ℕ Y) FileFail) → (after_read files name limit answer).held ≡ files.held
  held-after_read limit (Ok bytes) = refl
  held-after_read limit (Err file_fail.Failed) = refl
  held-after_read limit (Err file_fail.TooLong) = refl
  held-after_read limit (Err file_fail.NoMemory) = refl

  pub tallies-after_read : {Y : Type 0} (limit : ℕ) (answer : Result (Vec ℕ Y) FileFail) → (after_read files name limit answer).tallies ≡ tallies_after_read files.tallies name limit answer
  tallies-after_read limit (Ok bytes) = refl
  tallies-after_read limit (Err file_fail.Failed) = refl
  tallies-after_read limit (Err file_fail.TooLong) = refl
  tallies-after_read limit (Err file_fail.NoMemory) = refl

  pub past-after_read : {Y : Type 0} (limit : ℕ) (answer : Result (Vec ℕ Y) FileFail) → (after_read files name limit answer).past ≡ record files.past { reads = with_read files.past.reads name answer }
  past-after_read limit (Ok bytes) = refl
  past-after_read limit (Err file_fail.Failed) = refl
  past-after_read limit (Err file_fail.TooLong) = refl
  past-after_read limit (Err file_fail.NoMemory) = refl

  pub past-after_write : {A : Type 0} (bytes : Bytes) (answer : Result A WriteFail) → (after_write files name bytes answer).past ≡ record files.past { writes = with_write files.past.writes name bytes answer }
  past-after_write bytes (Ok a) = refl
  past-after_write bytes (Err write_fail.Failed) = refl
  past-after_write bytes (Err write_fail.NoMemory) = refl

  pub tallies-after_write : {A : Type 0} (bytes : Bytes) (answer : Result A WriteFail) → IsSetAt no_tally files.tallies (after_write files name bytes answer).tallies name (tally_after_write (tally_of files.tallies name) answer)
  tallies-after_write bytes (Ok a) = IsSetAt-none no_tally _ _
  tallies-after_write bytes (Err write_fail.Failed) = IsSetAt-insert no_tally _ _ _
  tallies-after_write bytes (Err write_fail.NoMemory) = IsSetAt-none no_tally _ _

  pub held-after_write : {A : Type 0} (bytes : Bytes) (answer : Result A WriteFail) (other : Bytes) → other ≢ name → get (after_write files name bytes answer).held other ≡ get files.held other
  held-after_write bytes (Ok a) other ne = get-insert_other _ _ _ other ne
  held-after_write bytes (Err write_fail.Failed) other ne = refl
  held-after_write bytes (Err write_fail.NoMemory) other ne = refl

  pub written-after_write : {A : Type 0} (bytes : Bytes) (answer : Result A WriteFail) → OnOk answer (get (after_write files name bytes answer).held name ≡ Some bytes)
  written-after_write bytes (Ok a) = get-insert_same _ _ _
  written-after_write bytes (Err e) = tt
