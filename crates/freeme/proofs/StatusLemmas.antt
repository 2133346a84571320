-- The status of a call is that of its outcome, or that of a failed put or of memory.
use Rattle.std.proofs.Common.{ℕ, List, [], ◌∷◌, Ok, Err, refl, arith}
use Rattle.fm_cli.proofs.LineLemmas.{told_among}
use Rattle.fm_cli.specs.declared.command_refusal.CommandRefusal.TheVariants as refusal
use Rattle.fm_cli.specs.declared.status.TheConstants.{DONE, WORDS, READ, MALFORMED, VERSION, LIMIT, UNSUPPORTED, LINK, CHECK, WRITE, OUT_OF_MEMORY}
use Rattle.fm_rewrite.specs.declared.error.RewriteFail.TheVariants as fail
use Rattle.freeme.proofs.ReportedLemmas.{outcome_line, outcome_status, own_after, own_before, own_reports}
use Rattle.fm_load.specs.ProgramCalls.{ProgramCall}
use Rattle.freeme.specs.Causes.{IsStatus}
use Rattle.freeme.specs.TopCall.{Outcome, Reports}
use Rattle.freeme.specs.declared.refusal.FreeRefusal.TheVariants as free_refusal
use Rattle.freeme.specs.declared.status.TheConstants.{CALLS_FREE, POOL_FULL, METHOD_TOO_LONG, NOT_SAFE}
use Rattle.fm_load.specs.declared.class_refusal.ClassRefusal.TheVariants as refused
use Rattle.fm_load.specs.declared.refusal.JobRefusal.TheVariants as job_refusal

-- all statuses
abbrev pub all_statuses : List ℕ
all_statuses = DONE ∷ WORDS ∷ READ ∷ MALFORMED ∷ VERSION ∷ LIMIT ∷ UNSUPPORTED ∷ LINK ∷ CHECK ∷ CALLS_FREE ∷ POOL_FULL ∷ METHOD_TOO_LONG ∷ NOT_SAFE ∷ WRITE ∷ OUT_OF_MEMORY ∷ []

-- the status of an outcome is one of these
own_status : (o : Outcome) → IsStatus (outcome_status o)
own_status (Ok lines) = (0, omega arith, refl)
own_status (Err (free_refusal.Job (job_refusal.Shared refusal.Words))) = (1, omega arith, refl)
own_status (Err (free_refusal.Job (job_refusal.Shared (refusal.Read file)))) = (2, omega arith, refl)
own_status (Err (free_refusal.Job (job_refusal.Shared refusal.OutOfMemory))) = (14, omega arith, refl)
own_status (Err (free_refusal.Job (job_refusal.TooManyFiles count))) = (5, omega arith, refl)
own_status (Err (free_refusal.Job (job_refusal.TooManyArguments count))) = (5, omega arith, refl)
own_status (Err (free_refusal.Job (job_refusal.TooLong file))) = (5, omega arith, refl)
own_status (Err (free_refusal.Job (job_refusal.Class file refused.Malformed))) = (3, omega arith, refl)
own_status (Err (free_refusal.Job (job_refusal.Class file (refused.Version major minor)))) = (4, omega arith, refl)
own_status (Err (free_refusal.Job (job_refusal.Class file (refused.Limit kind name count)))) = (5, omega arith, refl)
own_status (Err (free_refusal.Job (job_refusal.Class file (refused.Unsupported name offset)))) = (6, omega arith, refl)
own_status (Err (free_refusal.Job (job_refusal.Link fail))) = (7, omega arith, refl)
own_status (Err (free_refusal.Job (job_refusal.Check name))) = (8, omega arith, refl)
own_status (Err (free_refusal.Job (job_refusal.Write name))) = (13, omega arith, refl)
own_status (Err (free_refusal.Rewrite (fail.CallsFree method offset) name)) = (9, omega arith, refl)
own_status (Err (free_refusal.Rewrite (fail.PoolFull class indices) name)) = (10, omega arith, refl)
own_status (Err (free_refusal.Rewrite (fail.MethodTooLong method bytes) name)) = (11, omega arith, refl)
own_status (Err (free_refusal.Rewrite fail.NoMemory name)) = (14, omega arith, refl)
own_status (Err (free_refusal.NotSafe name part)) = (12, omega arith, refl)

pub is_status : (call : ProgramCall) (o : Outcome) → Reports o call → IsStatus call.status
is_status call o reports =
    told_among (outcome_line o) (outcome_status o) (own_before call o) (own_after call o) call.status (own_reports call o reports) all_statuses
    (own_status o) (13, omega arith, refl) (14, omega arith, refl)
