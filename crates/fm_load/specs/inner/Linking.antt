-- The outcome of linking classes.
use Rattle.std.specs.Prelude.{ℕ, List, Result, Ok, Err, IsSomeAnd}
use Rattle.fm_code.specs.declared.class_file.ClassDef.{ClassDef}
use Rattle.fm_link_refusals.specs.Refused.{refusal_of}
use Rattle.fm_cli.specs.declared.command_refusal.CommandRefusal.TheVariants as refusal
use Rattle.fm_world.specs.Linking.{IsLinked}
use Rattle.fm_world.specs.Programs.{Program}
use Rattle.fm_load.specs.declared.refusal.JobRefusal.{JobRefusal}
use Rattle.fm_load.specs.declared.refusal.JobRefusal.TheVariants as job_refusal

-- they make this program, or this is the first cause why they make none, or memory couldn't be had
abbrev pub ComesOfLinks : List ClassDef → List ℕ → Result Program JobRefusal → Type 0
ComesOfLinks classes main (Ok program) = IsLinked classes main (Ok program)
ComesOfLinks classes main (Err (job_refusal.Link fail)) = IsSomeAnd (refusal_of fail) (λ cause. IsLinked classes main (Err cause))
ComesOfLinks classes main (Err (job_refusal.Shared refusal.OutOfMemory)) = Unit {0}
ComesOfLinks classes main (Err r) = ⊥
