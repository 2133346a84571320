-- What the three numbers of all names are after a read and after a write.
use Rattle.std.proofs.Common.{◌≡◌, ◌≢◌, ◌<◌, ◌≤◌, ◌+◌, ◌↔◌, ℕ, Result, Ok, Err, Vec, vec_len, max, IfOk, IsErrOf, refl, ap, ◌∙◌, arith}
use Rattle.std.specs.FinMap.{insert}
use Rattle.fm_files.specs.Files.{Bytes, Counts, AreKept, RisesAt}
use Rattle.fm_files.specs.Names.{ByName}
use Rattle.fm_files.specs.Tally.{no_tally, tally_of, tally_after_read, tallies_after_read, tally_after_failed_write}
use Rattle.fm_files.specs.declared.tally.Tally.{Tally}
use Rattle.fm_files.specs.declared.error.FileFail.{FileFail}
use Rattle.fm_files.specs.declared.error.FileFail.TheVariants as file_fail
use Rattle.fm_files.specs.declared.error.WriteFail.{WriteFail}
use Rattle.fm_files.specs.declared.error.WriteFail.TheVariants as write_fail
use Rattle.fm_files.proofs.NamesLemmas.{insert-again, IsSetAt, IsSetAt-insert, IsSetAt-none, kept, rises}

-- the three numbers of all names
abbrev pub read_faults_of : ByName Tally → Counts
read_faults_of tallies name = (tally_of tallies name).read_faults

abbrev pub write_faults_of : ByName Tally → Counts
write_faults_of tallies name = (tally_of tallies name).write_faults

abbrev pub widest_read_of : ByName Tally → Counts
widest_read_of tallies name = (tally_of tallies name).widest_read

-- a read sets the numbers of its own name
pub IsSetAt-after_read : {Y : Type 0} (tallies : ByName Tally) (this : Bytes) (limit : ℕ) (answer : Result (Vec ℕ Y) FileFail) → IsSetAt no_tally tallies (tallies_after_read tallies this limit answer) this (tally_after_read (tally_of tallies this) limit answer)
IsSetAt-after_read tallies this limit (Ok bytes) = IsSetAt-insert no_tally _ _ _
IsSetAt-after_read tallies this limit (Err file_fail.Failed) = IsSetAt-insert no_tally _ _ _
IsSetAt-after_read tallies this limit (Err file_fail.TooLong) = IsSetAt-insert no_tally _ _ _
IsSetAt-after_read tallies this limit (Err file_fail.NoMemory) = IsSetAt-none no_tally _ _

-- a name whose numbers were kept and then set by a read has what the read leaves
pub kept_and_read : {Y : Type 0} (tallies : ByName Tally) (this : Bytes) (limit : ℕ) (answer : Result (Vec ℕ Y) FileFail) → answer ≢ Err file_fail.NoMemory → insert (insert tallies this (tally_of tallies this)) this (tally_after_read (tally_of (insert tallies this (tally_of tallies this)) this) limit answer) ≡ tallies_after_read tallies this limit answer
kept_and_read {Y} tallies this limit answer other =
    insert-again tallies this _ _
    ∙ ap (λ t. insert tallies this (tally_after_read t limit answer)) (IsSetAt-insert no_tally tallies this (tally_of tallies this)).here
    ∙ set answer other
  where
    set : (answer : Result (Vec ℕ Y) FileFail) → answer ≢ Err file_fail.NoMemory → insert tallies this (tally_after_read (tally_of tallies this) limit answer) ≡ tallies_after_read tallies this limit answer
    set (Ok bytes) other = refl
    set (Err file_fail.Failed) other = refl
    set (Err file_fail.TooLong) other = refl
    set (Err file_fail.NoMemory) other = absurd (other refl)

-- what a read says of the three numbers
pub record ReadNumbers {Y : Type 0} (old new : ByName Tally) (this : Bytes) (limit : ℕ) (answer : Result (Vec ℕ Y) FileFail) : Type 0 where
  pub write_faults_kept : AreKept (write_faults_of old) (write_faults_of new)
  pub read_faults_rise : RisesAt this (read_faults_of old) (read_faults_of new)
  pub widest_read_rises : RisesAt this (widest_read_of old) (widest_read_of new)
  pub widest_read_within : widest_read_of new this ≤ max (widest_read_of old this) (limit + 1)
  pub seen : IfOk answer (λ bytes. vec_len bytes ≤ widest_read_of new this)
  pub failed : IsErrOf answer file_fail.Failed ↔ (read_faults_of old this < read_faults_of new this)
  pub too_long : IsErrOf answer file_fail.TooLong → limit < widest_read_of new this
  pub no_memory : IsErrOf answer file_fail.NoMemory → AreKept (read_faults_of old) (read_faults_of new) × AreKept (widest_read_of old) (widest_read_of new)

module _ {Y : Type 0} (old new : ByName Tally) (this : Bytes) (limit : ℕ) where
  pub read_numbers : (answer : Result (Vec ℕ Y) FileFail) → IfOk answer (λ bytes. vec_len bytes ≤ limit) → IsSetAt no_tally old new this (tally_after_read (tally_of old this) limit answer) → ReadNumbers old new this limit answer
  read_numbers (Ok bytes) within set =
      let same = kept no_tally (λ t. t.read_faults) old new this _ set refl in
      let widest : widest_read_of new this ≡ max (widest_read_of old this) (vec_len bytes) = ap (λ t. t.widest_read) set.here in
      record {
        write_faults_kept = kept no_tally (λ t. t.write_faults) old new this _ set refl;
        read_faults_rise = rises no_tally (λ t. t.read_faults) old new this _ set (omega arith);
        widest_read_rises = rises no_tally (λ t. t.widest_read) old new this _ set (omega arith);
        widest_read_within = omega (arith, widest, within);
        seen = omega (arith, widest);
        failed = (λ e. absurd (cc), λ less. absurd (omega (arith, same this)));
        too_long = λ e. absurd (cc);
        no_memory = λ e. absurd (cc);
      }
  read_numbers (Err file_fail.Failed) within set =
      let unseen = kept no_tally (λ t. t.widest_read) old new this _ set refl in
      let more : read_faults_of new this ≡ read_faults_of old this + 1 = ap (λ t. t.read_faults) set.here in
      record {
        write_faults_kept = kept no_tally (λ t. t.write_faults) old new this _ set refl;
        read_faults_rise = rises no_tally (λ t. t.read_faults) old new this _ set (omega arith);
        widest_read_rises = rises no_tally (λ t. t.widest_read) old new this _ set (omega arith);
        widest_read_within = omega (arith, unseen this);
        seen = tt;
        failed = (λ e. omega (arith, more), λ less. refl);
        too_long = λ e. absurd (cc);
        no_memory = λ e. absurd (cc);
      }
  read_numbers (Err file_fail.TooLong) within set =
      let same = kept no_tally (λ t. t.read_faults) old new this _ set refl in
      let widest : widest_read_of new this ≡ max (widest_read_of old this) (limit + 1) = ap (λ t. t.widest_read) set.here in
      record {
        write_faults_kept = kept no_tally (λ t. t.write_faults) old new this _ set refl;
        read_faults_rise = rises no_tally (λ t. t.read_faults) old new this _ set (omega arith);
        widest_read_rises = rises no_tally (λ t. t.widest_read) old new this _ set (omega arith);
        widest_read_within = omega (arith, widest);
        seen = tt;
        failed = (λ e. absurd (cc), λ less. absurd (omega (arith, same this)));
        too_long = λ e. omega (arith, widest);
        no_memory = λ e. absurd (cc);
      }
  read_numbers (Err file_fail.NoMemory) within set =
      let unseen = kept no_tally (λ t. t.widest_read) old new this _ set refl in
      let same = kept no_tally (λ t. t.read_faults) old new this _ set refl in
      record {
        write_faults_kept = kept no_tally (λ t. t.write_faults) old new this _ set refl;
        read_faults_rise = rises no_tally (λ t. t.read_faults) old new this _ set (omega arith);
        widest_read_rises = rises no_tally (λ t. t.widest_read) old new this _ set (omega arith);
        widest_read_within = omega (arith, unseen this);
        seen = tt;
        failed = (λ e. absurd (cc), λ less. absurd (omega (arith, same this)));
        too_long = λ e. absurd (cc);
        no_memory = λ e. (same, unseen);
      }

-- a name's numbers after a write, by its result
abbrev pub tally_after_write : {A : Type 0} → Tally → Result A WriteFail → Tally
tally_after_write tally (Ok _) = tally
tally_after_write tally (Err write_fail.Failed) = tally_after_failed_write tally
tally_after_write tally (Err write_fail.NoMemory) = tally

-- what a write says of the three numbers
pub record WriteNumbers {A : Type 0} (old new : ByName Tally) (this : Bytes) (answer : Result A WriteFail) : Type 0 where
  pub read_faults_kept : AreKept (read_faults_of old) (read_faults_of new)
  pub widest_read_kept : AreKept (widest_read_of old) (widest_read_of new)
  pub write_faults_rise : RisesAt this (write_faults_of old) (write_faults_of new)
  pub failed : IsErrOf answer write_fail.Failed ↔ (write_faults_of old this < write_faults_of new this)
  pub no_memory : IsErrOf answer write_fail.NoMemory → AreKept (write_faults_of old) (write_faults_of new)

module _ {A : Type 0} (old new : ByName Tally) (this : Bytes) where
  pub write_numbers : (answer : Result A WriteFail) → IsSetAt no_tally old new this (tally_after_write (tally_of old this) answer) → WriteNumbers old new this answer
  write_numbers (Ok a) set =
      let same = kept no_tally (λ t. t.write_faults) old new this _ set refl in
      record {
        read_faults_kept = kept no_tally (λ t. t.read_faults) old new this _ set refl;
        widest_read_kept = kept no_tally (λ t. t.widest_read) old new this _ set refl;
        write_faults_rise = rises no_tally (λ t. t.write_faults) old new this _ set (omega arith);
        failed = (λ e. absurd (cc), λ less. absurd (omega (arith, same this)));
        no_memory = λ e. same;
      }
  write_numbers (Err write_fail.Failed) set =
      let more : write_faults_of new this ≡ write_faults_of old this + 1 = ap (λ t. t.write_faults) set.here in
      record {
        read_faults_kept = kept no_tally (λ t. t.read_faults) old new this _ set refl;
        widest_read_kept = kept no_tally (λ t. t.widest_read) old new this _ set refl;
        write_faults_rise = rises no_tally (λ t. t.write_faults) old new this _ set (omega arith);
        failed = (λ e. omega (arith, more), λ less. refl);
        no_memory = λ e. absurd (cc);
      }
  write_numbers (Err write_fail.NoMemory) set =
      let same = kept no_tally (λ t. t.write_faults) old new this _ set refl in
      record {
        read_faults_kept = kept no_tally (λ t. t.read_faults) old new this _ set refl;
        widest_read_kept = kept no_tally (λ t. t.widest_read) old new this _ set refl;
        write_faults_rise = rises no_tally (λ t. t.write_faults) old new this _ set (omega arith);
        failed = (λ e. absurd (cc), λ less. absurd (omega (arith, same this)));
        no_memory = λ e. same;
      }
