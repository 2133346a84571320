-- What calls one after the other change of the files.
use Rattle.std.proofs.Common.{◌≡◌, Some, None, IsSomeAnd, refl, sym, ◌∙◌, subst, arith}
use Rattle.fm_files.specs.Files.{Bytes, Counts, Contents, Disk, AreKept, Holds}
use Rattle.fm_cli.specs.Outside.{HasNoFileFault, HasReadFault, HasWriteFault}
use Rattle.fm_load.specs.Changes.{RisesOnlyAt, ChangesOnlyAt}

-- ---- counts

-- counts that are as before
pub rises_of_kept : (P : Bytes → Type 0) (old new : Counts) → AreKept old new → RisesOnlyAt P old new
rises_of_kept P old new kept = record {
  never_fall = λ name. let same = kept name in omega arith;
  others = λ name _. kept name;
}

-- first such names, then such
pub rises_then : (P Q R : Bytes → Type 0) (old between new : Counts) → ((n : Bytes) → P n → R n) → ((n : Bytes) → Q n → R n) → RisesOnlyAt P old between → RisesOnlyAt Q between new → RisesOnlyAt R old new
rises_then P Q R old between new first second a b = record {
  never_fall = λ name. let low = a.never_fall name in let high = b.never_fall name in omega arith;
  others = λ name none. b.others name (λ q. none (second name q)) ∙ a.others name (λ p. none (first name p));
}

-- ---- contents

-- contents that are as before
pub changes_of_kept : (P : Bytes → Type 0) (old new : Contents) → new ≡ old → ChangesOnlyAt P old new
changes_of_kept P None new same = same
changes_of_kept P (Some held) new same =
    let Q : Contents → Type 0 = λ c. IsSomeAnd c (λ after. (name : Bytes) → ¬ P name → after name ≡ held name) in subst Q (sym same) (λ name _. refl)

-- first at such names, then at such
pub changes_then : (P Q R : Bytes → Type 0) (old between new : Contents) → ((n : Bytes) → P n → R n) → ((n : Bytes) → Q n → R n) → ChangesOnlyAt P old between → ChangesOnlyAt Q between new → ChangesOnlyAt R old new
changes_then P Q R None None new first second a b = b
changes_then P Q R None (Some between) new first second a b = absurd cc
changes_then P Q R (Some held) None new first second a b = absurd a
changes_then P Q R (Some held) (Some between) None first second a b = absurd b
changes_then P Q R (Some held) (Some between) (Some after) first second a b =
    λ name none. b name (λ q. none (second name q)) ∙ a name (λ p. none (first name p))

-- a name that isn't such holds what it held
pub holds_still : (P : Bytes → Type 0) (old new : Contents) (name bytes : Bytes) → ChangesOnlyAt P old new → ¬ P name → Holds old name bytes → Holds new name bytes
holds_still P None None name bytes changes other holds = tt
holds_still P None (Some after) name bytes changes other holds = absurd cc
holds_still P (Some held) None name bytes changes other holds = absurd changes
holds_still P (Some held) (Some after) name bytes changes other holds = changes name other ∙ holds

-- ---- faults

-- no fault, and then none
pub faultless_then : (old between new : Disk) → HasNoFileFault old between → HasNoFileFault between new → HasNoFileFault old new
faultless_then old between new first second = record {
  reads = λ name. second.reads name ∙ first.reads name;
  writes = λ name. second.writes name ∙ first.writes name;
}

-- no fault, and then that of a write
pub write_fault_then : (name : Bytes) (old between new : Disk) → HasNoFileFault old between → HasWriteFault name between new → HasWriteFault name old new
write_fault_then name old between new first second = record {
  rose = let same = first.writes name in let rose = second.rose in omega arith;
  writes = record {
    never_falls = let same = first.writes name in let low = second.writes.never_falls in omega arith;
    others = λ n other. second.writes.others n other ∙ first.writes n;
  };
  reads = λ n. second.reads n ∙ first.reads n;
}

-- no fault, and then that of a read
pub read_fault_then : (name : Bytes) (old between new : Disk) → HasNoFileFault old between → HasReadFault name between new → HasReadFault name old new
read_fault_then name old between new first second = record {
  rose = let same = first.reads name in let rose = second.rose in omega arith;
  reads = record {
    never_falls = let same = first.reads name in let low = second.reads.never_falls in omega arith;
    others = λ n other. second.reads.others n other ∙ first.reads n;
  };
  writes = λ n. second.writes n ∙ first.writes n;
}
