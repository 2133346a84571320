-- What the results of the outside mean for its counts and contents.
use Rattle.std.proofs.Common.{◌≡◌, ◌<◌, ⊎_elim, refl, sym, subst, arith, Option, Some, None, IsSomeAnd}
use Rattle.fm_base.proofs.OptionFacts.{IsSomeAnd-weaker}
use Rattle.std.proofs.lemmas.Bool.{cases_eq}
use Rattle.fm_files.specs.Files.{Bytes, Counts, Contents, Disk, AreKept, RisesAt, Holds}
use Rattle.fm_cli.specs.Outside.{HasNoFileFault, HoldsSuch, IsKnownSuch}

-- counts of which one alone could rise and didn't are as before
pub kept_unless_risen : (this : Bytes) (old new : Counts) → RisesAt this old new → ¬ (old this < new this) → AreKept old new
kept_unless_risen this old new rises not_risen name =
    ⊎_elim (λ e. e) (λ ne. absurd (ne (rises.others name (λ same. ne (let P : Bytes → Type 0 = λ n. new n ≡ old n in subst P (sym same) at_this))))) (cases_eq (new name) (old name)) where
      at_this : new this ≡ old this
      at_this = let low = rises.never_falls in let high : ¬ (old this < new this) = not_risen in omega arith

-- nothing failed where files are as before
pub no_fault_where_same : (old new : Disk) → new ≡ old → HasNoFileFault old new
no_fault_where_same old new same =
    let P : Disk → Type 0 = λ d. HasNoFileFault old d in subst P (sym same) (record { reads = λ name. refl; writes = λ name. refl })

-- nor where the one read that could fail didn't
pub no_fault_unless_risen : (this : Bytes) (old new : Disk) → RisesAt this old.read_faults new.read_faults → ¬ (old.read_faults this < new.read_faults this)
    → AreKept old.write_faults new.write_faults → HasNoFileFault old new
no_fault_unless_risen this old new rises not_risen writes = record { reads = kept_unless_risen this old.read_faults new.read_faults rises not_risen; writes = writes }

-- ---- known contents

-- what the file holds, where that is known, is such
pub holds_such : (contents : Contents) (file bytes : Bytes) (P : Bytes → Type 0) → Holds contents file bytes → P bytes → HoldsSuch contents file P
holds_such None file bytes P holds such = tt
holds_such (Some held) file bytes P holds such = let Q : Option Bytes → Type 0 = λ o. IsSomeAnd o P in subst Q (sym holds) such

-- what follows from it holds too
pub HoldsSuch-weaker : (contents : Contents) (file : Bytes) (P Q : Bytes → Type 0) → ((bytes : Bytes) → P bytes → Q bytes) → HoldsSuch contents file P → HoldsSuch contents file Q
HoldsSuch-weaker None file P Q follows such = tt
HoldsSuch-weaker (Some held) file P Q follows such = IsSomeAnd-weaker (held file) P Q follows such

-- where contents are known it is known
pub known_such : (contents : Contents) (held : Bytes → Option Bytes) (file : Bytes) (P : Bytes → Type 0) → contents ≡ Some held → HoldsSuch contents file P → IsSomeAnd (held file) P
known_such contents held file P known = let Q : Contents → Type 0 = λ c. HoldsSuch c file P in subst Q known

-- and meets what else is known of the file
pub such_and_known : (contents : Contents) (file : Bytes) (P Q : Bytes → Type 0) → HoldsSuch contents file P → IsKnownSuch contents file Q → (bytes : Bytes) × (P bytes × Q bytes)
such_and_known None file P Q such known = absurd known
such_and_known (Some held) file P Q such known = meet (held file) such known where
  meet : (there : Option Bytes) → IsSomeAnd there P → IsSomeAnd there Q → (bytes : Bytes) × (P bytes × Q bytes)
  meet None p q = absurd p
  meet (Some bytes) p q = (bytes, (p, q))
