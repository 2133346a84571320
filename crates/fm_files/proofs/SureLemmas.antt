-- What a result of files in memory that never fail means for the widest reads and for the contents.
use Rattle.std.proofs.Common.{◌≡◌, ◌≢◌, ◌+◌, ◌<◌, ◌≤◌, Result, Ok, Err, Vec, ℕ, IfOk, OnOk, OnErr, IsErrOf, vec_len, max, [], refl, ap, ◌∙◌, arith}
use Rattle.fm_files.specs.Calls.{with_read, with_write}
use Rattle.fm_files.specs.Files.{Bytes, RisesAt}
use Rattle.fm_files.specs.Sure.{SureFilesState, held_by, widest_of, after_sure_read, after_sure_write}
use Rattle.fm_files.specs.declared.error.FileFail.{FileFail}
use Rattle.fm_files.specs.declared.error.FileFail.TheVariants as file_fail
use Rattle.fm_files.specs.declared.error.WriteFail.{WriteFail}
use Rattle.fm_files.specs.declared.error.WriteFail.TheVariants as write_fail
use Rattle.fm_files.proofs.NamesLemmas.{IsSetAt-insert, IsSetAt-none, rises}

-- what a read says of the widest reads
pub record SeesAt {Y : Type 0} (old new : SureFilesState) (this : Bytes) (limit : ℕ) (answer : Result (Vec ℕ Y) FileFail) : Type 0 where
  pub widest_read_rises : RisesAt this (widest_of old) (widest_of new)
  pub widest_read_within : widest_of new this ≤ max (widest_of old this) (limit + 1)
  pub seen : IfOk answer (λ bytes. vec_len bytes ≤ widest_of new this)
  pub too_long : IsErrOf answer file_fail.TooLong → limit < widest_of new this

module _ (files : SureFilesState) (this : Bytes) where
  pub sees-after_sure_read : {Y : Type 0} (limit : ℕ) (answer : Result (Vec ℕ Y) FileFail) → IfOk answer (λ bytes. vec_len bytes ≤ limit) → SeesAt files (after_sure_read files this limit answer) this limit answer
  sees-after_sure_read limit (Ok bytes) within =
      let set = IsSetAt-insert 0 files.widest this (max (widest_of files this) (vec_len bytes)) in
      record {
        widest_read_rises = rises 0 (λ n. n) _ _ this _ set (omega arith);
        widest_read_within = omega (arith, set.here, within);
        seen = omega (arith, set.here);
        too_long = λ e. absurd (cc);
      }
  sees-after_sure_read limit (Err file_fail.Failed) within =
      record { widest_read_rises = rises 0 (λ n. n) files.widest _ this _ (IsSetAt-none 0 _ this) (omega arith); widest_read_within = omega arith; seen = tt; too_long = λ e. absurd (cc) }
  sees-after_sure_read limit (Err file_fail.TooLong) within =
      let set = IsSetAt-insert 0 files.widest this (max (widest_of files this) (limit + 1)) in
      record {
        widest_read_rises = rises 0 (λ n. n) _ _ this _ set (omega arith);
        widest_read_within = omega (arith, set.here);
        seen = tt;
        too_long = λ e. omega (arith, set.here);
      }
  sees-after_sure_read limit (Err file_fail.NoMemory) within =
      record { widest_read_rises = rises 0 (λ n. n) files.widest _ this _ (IsSetAt-none 0 _ this) (omega arith); widest_read_within = omega arith; seen = tt; too_long = λ e. absurd (cc) }

  -- it is one more read
  pub reads-after_sure_read : {Y : Type 0} (limit : ℕ) (answer : Result (Vec ℕ Y) FileFail) → answer ≢ Err file_fail.Failed → (after_sure_read files this limit answer).past.reads ≡ with_read files.past.reads this answer
  reads-after_sure_read limit (Ok bytes) sure = refl
  reads-after_sure_read limit (Err file_fail.Failed) sure = absurd (sure refl)
  reads-after_sure_read limit (Err file_fail.TooLong) sure = refl
  reads-after_sure_read limit (Err file_fail.NoMemory) sure = refl

  -- and no write
  pub writes-after_sure_read : {Y : Type 0} (limit : ℕ) (answer : Result (Vec ℕ Y) FileFail) → (after_sure_read files this limit answer).past.writes ≡ files.past.writes
  writes-after_sure_read limit (Ok bytes) = refl
  writes-after_sure_read limit (Err file_fail.Failed) = refl
  writes-after_sure_read limit (Err file_fail.TooLong) = refl
  writes-after_sure_read limit (Err file_fail.NoMemory) = refl

module _ {A : Type 0} (old new : SureFilesState) (this bytes : Bytes) where
  -- a write that was done gave the name its bytes
  pub written-sure_write : (answer : Result A WriteFail) → OnOk answer (new ≡ after_sure_write old this bytes) → OnOk answer (held_by new this ≡ bytes)
  written-sure_write (Ok a) ok = ap (λ f. held_by f this) ok ∙ (IsSetAt-insert [] old.given this bytes).here
  written-sure_write (Err e) ok = tt

  -- every other name holds what it held
  pub others-sure_write : (answer : Result A WriteFail) → OnOk answer (new ≡ after_sure_write old this bytes) → OnErr answer (new ≡ old) → (name : Bytes) → name ≢ this → held_by new name ≡ held_by old name
  others-sure_write (Ok a) ok err name other = ap (λ f. held_by f name) ok ∙ (IsSetAt-insert [] old.given this bytes).others name other
  others-sure_write (Err e) ok err name other = ap (λ f. held_by f name) err

  -- it is one more write
  pub writes-sure_write : (answer : Result A WriteFail) → OnOk answer (new ≡ after_sure_write old this bytes) → OnErr answer (new ≡ old) → answer ≢ Err write_fail.Failed
      → new.past.writes ≡ with_write old.past.writes this bytes answer
  writes-sure_write (Ok a) ok err sure = ap (λ f. f.past.writes) ok
  writes-sure_write (Err write_fail.Failed) ok err sure = absurd (sure refl)
  writes-sure_write (Err write_fail.NoMemory) ok err sure = ap (λ f. f.past.writes) err

  -- no read, and no widest read of a name changes
  pub reads-sure_write : (answer : Result A WriteFail) → OnOk answer (new ≡ after_sure_write old this bytes) → OnErr answer (new ≡ old)
      → (new.past.reads ≡ old.past.reads) × (new.widest ≡ old.widest)
  reads-sure_write (Ok a) ok err = (ap (λ f. f.past.reads) ok, ap (λ f. f.widest) ok)
  reads-sure_write (Err e) ok err = (ap (λ f. f.past.reads) err, ap (λ f. f.widest) err)
