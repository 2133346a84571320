-- How a job that isn't done is reported.
use Rattle.std.specs.Prelude.{ℕ, List, [], ◌∷◌, ◌++◌, codes, string_bytes}
use Rattle.std.specs.Fmt.{decimal}
use Rattle.fm_cli.specs.Printed.{printed}
use Rattle.fm_cli.specs.CommandRefusal.{refusal_line as shared_line, refusal_status as shared_status}
use Rattle.fm_cli.specs.declared.status.TheConstants.{CHECK, LIMIT, LINK, WRITE}
use Rattle.fm_load.specs.ClassRefusal.{class_refusal_line, class_refusal_status}
use Rattle.fm_load.specs.LinkRefusal.{link_fail_line}
use Rattle.fm_load.specs.declared.refusal.JobRefusal.{JobRefusal}
use Rattle.fm_load.specs.declared.refusal.JobRefusal.TheVariants as job_refusal

-- the lines, each with its line end: of too many class files,
abbrev pub many_line : ℕ → List ℕ
many_line count = codes "refused: limit files " ++ (decimal count ++ 10 ∷ [])

-- of too many arguments,
abbrev pub many_arguments_line : ℕ → List ℕ
many_arguments_line count = codes "refused: limit arguments " ++ (decimal count ++ 10 ∷ [])

-- of a file that is too long,
abbrev pub long_line : List ℕ → List ℕ
long_line file = codes "refused: limit length " ++ (file ++ 10 ∷ [])

-- of a method that isn't typed, with its class and its descriptor,
abbrev pub check_line : List ℕ → List ℕ
check_line method = codes "refused: check " ++ (printed method ++ 10 ∷ [])

-- and of a file that couldn't be written
abbrev pub write_line : List ℕ → List ℕ
write_line name = codes "refused: write " ++ (name ++ 10 ∷ [])

-- the line of a refusal
abbrev pub refusal_line : JobRefusal → List ℕ
refusal_line (job_refusal.Shared refusal) = shared_line refusal
refusal_line (job_refusal.TooManyFiles count) = many_line count
refusal_line (job_refusal.TooManyArguments count) = many_arguments_line count
refusal_line (job_refusal.TooLong file) = long_line file.now
refusal_line (job_refusal.Class file refusal) = class_refusal_line file.now refusal
refusal_line (job_refusal.Link fail) = link_fail_line fail
refusal_line (job_refusal.Check method) = check_line method
refusal_line (job_refusal.Write name) = write_line (string_bytes name)

-- the status of a refusal
abbrev pub refusal_status : JobRefusal → ℕ
refusal_status (job_refusal.Shared refusal) = shared_status refusal
refusal_status (job_refusal.TooManyFiles count) = LIMIT
refusal_status (job_refusal.TooManyArguments count) = LIMIT
refusal_status (job_refusal.TooLong file) = LIMIT
refusal_status (job_refusal.Class file refusal) = class_refusal_status refusal
refusal_status (job_refusal.Link fail) = LINK
refusal_status (job_refusal.Check method) = CHECK
refusal_status (job_refusal.Write name) = WRITE
