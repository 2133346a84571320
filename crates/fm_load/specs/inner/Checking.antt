-- The outcome of checking a program.
use Rattle.std.specs.Prelude.{Result, Ok, Err}
use Rattle.fm_check_program.specs.Untyped.{AreTyped}
use Rattle.fm_cli.specs.declared.command_refusal.CommandRefusal.TheVariants as refusal
use Rattle.fm_world.specs.Programs.{Program}
use Rattle.fm_load.specs.Given.{IsFirstUntypedName}
use Rattle.fm_load.specs.declared.refusal.JobRefusal.{JobRefusal}
use Rattle.fm_load.specs.declared.refusal.JobRefusal.TheVariants as job_refusal

-- each of its methods with code is typed, or this is the name of the first that isn't, or memory couldn't be had
abbrev pub ComesOfCheck : Program → Result Unit JobRefusal → Type 0
ComesOfCheck p (Ok _) = AreTyped p
ComesOfCheck p (Err (job_refusal.Check name)) = IsFirstUntypedName p name
ComesOfCheck p (Err (job_refusal.Shared refusal.OutOfMemory)) = Unit {0}
ComesOfCheck p (Err r) = ⊥
