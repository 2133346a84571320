-- The outcome of judging the program of classes.
use Rattle.std.specs.Prelude.{◌≡◌, ℕ, List, [], Result, Ok, Err, IsSomeAnd}
use Rattle.fm_code.specs.declared.class_file.ClassDef.{ClassDef}
use Rattle.fm_link_refusals.specs.Refused.{refusal_of}
use Rattle.fm_check_program.specs.Untyped.{AreTyped}
use Rattle.fm_cli.specs.declared.command_refusal.CommandRefusal.TheVariants as refusal
use Rattle.fm_world.specs.Linking.{refusals, IsLinked}
use Rattle.fm_world.specs.Programs.{Program, program_of}
use Rattle.fm_load.specs.Given.{IsFirstUntypedName}
use Rattle.fm_load.specs.declared.refusal.JobRefusal.{JobRefusal}
use Rattle.fm_load.specs.declared.refusal.JobRefusal.TheVariants as job_refusal

-- classes make this program, and its methods are typed; or this is the first cause why they make none, or the name of the first method of their program
-- that isn't typed; or memory couldn't be had
abbrev pub ComesOfProgram : List ClassDef → List ℕ → Result Program JobRefusal → Type 0
ComesOfProgram classes main (Ok program) = IsLinked classes main (Ok program) × AreTyped (program_of classes main)
ComesOfProgram classes main (Err (job_refusal.Link fail)) = IsSomeAnd (refusal_of fail) (λ cause. IsLinked classes main (Err cause))
ComesOfProgram classes main (Err (job_refusal.Check name)) = (refusals classes main ≡ []) × IsFirstUntypedName (program_of classes main) name
ComesOfProgram classes main (Err (job_refusal.Shared refusal.OutOfMemory)) = Unit {0}
ComesOfProgram classes main (Err r) = ⊥
