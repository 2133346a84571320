-- How a job that isn't done is reported.
use Rattle.std.specs.Prelude.{ℕ, List, [], ◌∷◌, ◌++◌, codes}
use Rattle.std.specs.Fmt.{decimal}
use Rattle.fm_load.specs.Refusal.{refusal_line as job_line, refusal_status as job_status}
use Rattle.fm_rewrite.specs.declared.error.RewriteFail.{RewriteFail}
use Rattle.fm_rewrite.specs.declared.error.RewriteFail.TheVariants as fail
use Rattle.fm_cli.specs.Printed.{printed}
use Rattle.fm_cli.specs.CommandRefusal.{memory_line}
use Rattle.fm_cli.specs.declared.status.TheConstants.{OUT_OF_MEMORY}
use Rattle.freeme.specs.declared.refusal.FreeRefusal.{FreeRefusal}
use Rattle.freeme.specs.declared.refusal.FreeRefusal.TheVariants as free_refusal
use Rattle.freeme.specs.declared.status.TheConstants.{CALLS_FREE, POOL_FULL, METHOD_TOO_LONG, NOT_SAFE}

-- the lines, each with its line end: of a method that calls FreeMe at an offset,
abbrev pub calls_line : List ℕ → ℕ → List ℕ
calls_line method offset = codes "refused: calls FreeMe " ++ (printed method ++ (codes " " ++ (decimal offset ++ 10 ∷ [])))

-- of a class whose pool would have this many indices,
abbrev pub pool_line : List ℕ → ℕ → List ℕ
pool_line class indices = codes "refused: pool " ++ (printed class ++ (codes " " ++ (decimal indices ++ 10 ∷ [])))

-- and of a method that would have this many bytes
abbrev pub method_line : List ℕ → ℕ → List ℕ
method_line method bytes = codes "refused: long " ++ (printed method ++ (codes " " ++ (decimal bytes ++ 10 ∷ [])))

-- the line of a program that isn't rewritten, for the method or the class of this name
abbrev pub rewrite_line : RewriteFail → List ℕ → List ℕ
rewrite_line (fail.CallsFree method offset) name = calls_line name offset
rewrite_line (fail.PoolFull class indices) name = pool_line name indices
rewrite_line (fail.MethodTooLong method bytes) name = method_line name bytes
rewrite_line fail.NoMemory name = memory_line

-- its status
abbrev pub rewrite_status : RewriteFail → ℕ
rewrite_status (fail.CallsFree method offset) = CALLS_FREE
rewrite_status (fail.PoolFull class indices) = POOL_FULL
rewrite_status (fail.MethodTooLong method bytes) = METHOD_TOO_LONG
rewrite_status fail.NoMemory = OUT_OF_MEMORY

-- the line of what isn't safe for the method or the class of this name, and for this part
abbrev pub not_safe_line : List ℕ → ℕ → List ℕ
not_safe_line name part = codes "refused: not-safe " ++ (printed name ++ (codes " " ++ (decimal part ++ 10 ∷ [])))

-- the line of a refusal
abbrev pub refusal_line : FreeRefusal → List ℕ
refusal_line (free_refusal.Job refusal) = job_line refusal
refusal_line (free_refusal.Rewrite fail name) = rewrite_line fail name
refusal_line (free_refusal.NotSafe name part) = not_safe_line name part

-- the status of a refusal
abbrev pub refusal_status : FreeRefusal → ℕ
refusal_status (free_refusal.Job refusal) = job_status refusal
refusal_status (free_refusal.Rewrite fail name) = rewrite_status fail
refusal_status (free_refusal.NotSafe name part) = NOT_SAFE
