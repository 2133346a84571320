-- The statuses of ends, of refusals and of outcomes, apart from one another.
use Rattle.std.proofs.Common.{◌≡◌, ◌≢◌, ◌≤◌, ◌⊎◌, ℕ, Bool, true, false, inl, inr, List, ◌∷◌, Contains, Ok, Err, refl, sym, ◌∙◌, arith}
use Rattle.std.specs.Int.{w32, cast_unsigned, is_in_range}
use Rattle.std.specs.List.{list_all}
use Rattle.std.proofs.lemmas.Bool.{and_parts, leb-false, leb-true}
use Rattle.std.proofs.lemmas.List.Elements.{All-contains}
use Rattle.std.proofs.lemmas.List.Sums.{AllPass-from_list_all}
use Rattle.std.specs.Prelude.{◌%◌, ◌&&◌, nat_le, if◌then◌else◌}
use Rattle.fm_base.specs.declared.ids.MethodId.{MethodId}
use Rattle.fm_base.proofs.ContainsFacts.{Contains-cons_cases, unlike_elements}
use Rattle.fm_files.specs.Files.{Bytes, Disk}
use Rattle.fm_files.specs.Sink.{Output}
use Rattle.fm_frames.specs.Reports.{report_of}
use Rattle.fm_frames.specs.declared.ends.Ended.{Ended}
use Rattle.fm_frames.specs.declared.ends.Ended.TheVariants as end
use Rattle.fm_load.proofs.RefusalLemmas.{class_status}
use Rattle.fm_load.specs.Refusal.{refusal_status}
use Rattle.fm_load.specs.declared.class_refusal.ClassRefusal.TheVariants as refused
use Rattle.fm_load.specs.declared.refusal.JobRefusal.{JobRefusal}
use Rattle.fm_load.specs.declared.refusal.JobRefusal.TheVariants as job_refusal
use Rattle.fm_run_job.specs.Reports.{end_status}
use Rattle.fm_run_job.specs.declared.status.TheConstants.{FAULT, OTHER_EXIT}
use Rattle.fm_cli_requests.specs.FmrunRequest.{FmrunJob}
use Rattle.fm_run_job.specs.declared.runs.RunReport.{RunReport}
use Rattle.fm_cli.proofs.LineLemmas.{instead_for_file}
use Rattle.fm_cli.specs.declared.command_refusal.CommandRefusal.TheVariants as refusal
use Rattle.fm_cli.specs.declared.status.TheConstants.{DONE, WORDS, WRITE}
use Rattle.fmrun.specs.Causes.{before_run, refusal_statuses}
use Rattle.fmrun.specs.TopCall.{ComesOf, ComesOfJob, ComesTo, HasRun, Outcome, outcome_status}
use Rattle.fmrun.specs.declared.outcome.JobFail.TheVariants as fail

-- ---- ends

-- a number of which the lowest bits are reported has no status of a refusal or of another end
exit_apart : (low : ℕ) (above below : Bool) → nat_le 64 low ≡ above → nat_le low 85 ≡ below → (s : ℕ) → 64 ≤ s → s ≤ 85 → (if above && below then OTHER_EXIT else low) ≡ s → ⊥
exit_apart low true true a b s from to is = omega arith
exit_apart low true false a b s from to is = let over = leb-false low 85 b in omega arith
exit_apart low false below a b s from to is = let under = leb-false 64 low a in omega arith

-- an end has no status of a refusal
pub end_apart : (e : Ended) (s : ℕ) → 64 ≤ s → s ≤ 79 → end_status e ≡ s → ⊥
end_apart (end.Exit n) s from to is = exit_apart (cast_unsigned w32 n % 256) (nat_le 64 (cast_unsigned w32 n % 256)) (nat_le (cast_unsigned w32 n % 256) 85) refl refl s from (omega arith) is
end_apart e s from to is = omega arith

-- the end is a fault
abbrev pub IsFault : Ended → Type 0
IsFault e = (method : MethodId) × (offset cell : ℕ) × (e ≡ end.Fault method offset cell)

-- and so is each end that has its status
pub fault_status : (e : Ended) → end_status e ≡ FAULT → IsFault e
fault_status (end.Fault method offset cell) is = (method, offset, cell, refl)
fault_status (end.Exit n) is = absurd (exit_apart (cast_unsigned w32 n % 256) (nat_le 64 (cast_unsigned w32 n % 256)) (nat_le (cast_unsigned w32 n % 256) 85) refl refl FAULT (omega arith) (omega arith) is)
fault_status e is = absurd (omega arith)

-- nor has a run a status of a refusal
pub run_apart : {job : FmrunJob} {line : List ℕ} {status : ℕ} {old new : Disk} {before after : Output} → HasRun job line status old new before after → (s : ℕ) → 64 ≤ s → s ≤ 79 → status ≡ s → ⊥
run_apart ran s from to is = end_apart (report_of ran.last).end s from to (sym ran.status_is ∙ is)

-- ---- refusals

-- the status is between these numbers
pub record IsBetween (least most status : ℕ) : Type 0 where
  pub low : least ≤ status
  pub high : status ≤ most

-- a status of some, all of which are
one_between : (least most : ℕ) (statuses : List ℕ) → list_all (is_in_range least most) statuses ≡ true → (status : ℕ) → Contains statuses status
    → IsBetween least most status
one_between least most statuses are status among =
    let passes : is_in_range least most status ≡ true =
    All-contains (λ s. is_in_range least most s ≡ true) statuses status (AllPass-from_list_all (is_in_range least most) statuses are) among in
    let own = and_parts (nat_le least status) (nat_le status most) passes in
    record { low = leb-true least status own.0; high = leb-true status most own.1 }

-- the statuses of refusals are between these
pub among_refusals : (status : ℕ) → Contains refusal_statuses status → IsBetween 64 79 status
among_refusals = one_between 64 79 refusal_statuses refl

-- and those before the run between these
pub among_before_run : (status : ℕ) → Contains before_run status → IsBetween 64 71 status
among_before_run = one_between 64 71 before_run refl

module _ {words : List Bytes} {old new : Disk} {before after : Output} where
  -- a run that is reported is that of a job
  pub job_of_reported : (reported : RunReport) → ComesOf words old new before after (Ok reported) → ComesOfJob words old new before after (Ok reported)
  job_of_reported reported (inl j) = j
  job_of_reported reported (inr (inl nothing)) = absurd (let other = nothing.refused in cc)
  job_of_reported reported (inr (inr lacking)) = absurd (let other = lacking.refused in cc)

  -- and so is an output that failed
  pub job_of_failed : ComesOf words old new before after (Err fail.Output) → ComesOfJob words old new before after (Err fail.Output)
  job_of_failed (inl j) = j
  job_of_failed (inr (inl nothing)) = absurd (let other = nothing.refused in cc)
  job_of_failed (inr (inr lacking)) = absurd (let other = lacking.refused in cc)

  -- no job is refused for a write, or for what isn't built
  not_of_job : (r : JobRefusal) (status : ℕ) → (ComesOfJob words old new before after (Err (fail.Refused r)) → ⊥) → ¬ (r ≡ job_refusal.Shared refusal.Words) → ¬ (r ≡ job_refusal.Shared refusal.OutOfMemory)
      → ComesOf words old new before after (Err (fail.Refused r)) → Contains refusal_statuses status
  not_of_job r status none unlike_words unlike_memory (inl j) = absurd (none j)
  not_of_job r status none unlike_words unlike_memory (inr (inl nothing)) = absurd (unlike_words (let same = nothing.refused in cc))
  not_of_job r status none unlike_words unlike_memory (inr (inr lacking)) = absurd (unlike_memory (let same = lacking.refused in cc))

  -- the status of a refusal is among these
  pub refusal_among : (r : JobRefusal) → ComesOf words old new before after (Err (fail.Refused r)) → Contains refusal_statuses (refusal_status r)
  refusal_among (job_refusal.Shared refusal.Words) comes = (0, omega arith, refl)
  refusal_among (job_refusal.Shared (refusal.Read file)) comes = (1, omega arith, refl)
  refusal_among (job_refusal.Shared refusal.OutOfMemory) comes = (9, omega arith, refl)
  refusal_among (job_refusal.TooManyFiles count) comes = (4, omega arith, refl)
  refusal_among (job_refusal.TooManyArguments count) comes = (4, omega arith, refl)
  refusal_among (job_refusal.TooLong file) comes = (4, omega arith, refl)
  refusal_among (job_refusal.Class file refused.Malformed) comes = (2, omega arith, refl)
  refusal_among (job_refusal.Class file (refused.Version major minor)) comes = (3, omega arith, refl)
  refusal_among (job_refusal.Class file (refused.Limit kind name count)) comes = (4, omega arith, refl)
  refusal_among (job_refusal.Class file (refused.Unsupported name offset)) comes = (5, omega arith, refl)
  refusal_among (job_refusal.Link link) comes = (6, omega arith, refl)
  refusal_among (job_refusal.Check name) comes = (7, omega arith, refl)
  refusal_among (job_refusal.Write name) comes = not_of_job (job_refusal.Write name) _ (λ j. j.comes.0.1) (λ same. cc) (λ same. cc) comes

  -- and isn't that of a write
  pub not_for_write : (r : JobRefusal) → ComesOf words old new before after (Err (fail.Refused r)) → refusal_status r ≢ WRITE
  not_for_write (job_refusal.Write name) (inl j) is = j.comes.0.1
  not_for_write (job_refusal.Write name) (inr (inl nothing)) is = let other = nothing.refused in cc
  not_for_write (job_refusal.Write name) (inr (inr lacking)) is = let other = lacking.refused in cc
  not_for_write (job_refusal.Shared refusal.Words) comes is = omega arith
  not_for_write (job_refusal.Class file r) comes is = let c = class_status r in let high = c.high in omega arith
  not_for_write r comes is = omega arith

-- ---- outcomes, of which all runs count as done

abbrev pub kind_of : Outcome → ℕ
kind_of (Ok reported) = DONE
kind_of (Err e) = outcome_status (Err e)

-- at another status than that of what is done it is the outcome's own
pub own_status : (o : Outcome) (s : ℕ) → s ≢ DONE → kind_of o ≡ s → outcome_status o ≡ s
own_status (Ok reported) s other is = absurd (other (sym is))
own_status (Err e) s other is = is

pub own_among : (o : Outcome) (s : ℕ) → s ≢ DONE → Contains (s ∷ instead_for_file) (kind_of o) → Contains (s ∷ instead_for_file) (outcome_status o)
own_among (Ok reported) s other among = absurd (go (Contains-cons_cases s instead_for_file DONE among)) where
  go : (DONE ≡ s) ⊎ Contains instead_for_file DONE → ⊥
  go (inl same) = other (sym same)
  go (inr rest) = unlike_elements DONE instead_for_file refl DONE rest refl
own_among (Err e) s other among = among

-- a job isn't refused for its words
pub not_for_words : (job : FmrunJob) (old new : Disk) (before after : Output) (o : Outcome) → ComesTo job old new before after o → outcome_status o ≢ WORDS
not_for_words job old new before after (Ok reported) comes is = run_apart comes WORDS (omega arith) (omega arith) is
not_for_words job old new before after (Err (fail.Refused (job_refusal.Shared refusal.Words))) comes is = comes.0.1
not_for_words job old new before after (Err (fail.Refused (job_refusal.Class file r))) comes is = let c = class_status r in let low = c.low in omega arith
not_for_words job old new before after o comes is = omega arith
