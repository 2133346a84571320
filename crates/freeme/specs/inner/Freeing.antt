-- The result of rewriting the classes of a program, with the name of the method or class for which
-- it isn't rewritten.
use Rattle.std.specs.Prelude.{◌≡◌, ◌<◌, ℕ, Bool, List, length, Result, Ok, Err}
use Rattle.fm_code.specs.declared.class_file.ClassDef.{ClassDef}
use Rattle.fm_load.specs.declared.refusal.JobRefusal.TheVariants as job_refusal
use Rattle.fm_rewrite.specs.declared.error.RewriteFail.{RewriteFail}
use Rattle.fm_rewrite.specs.declared.error.RewriteFail.TheVariants as fail
use Rattle.fm_rewrite.specs.declared.rewriting.Rewritten.{Rewritten}
use Rattle.fm_cli.specs.declared.command_refusal.CommandRefusal.TheVariants as refusal
use Rattle.fm_world.specs.Members.{methods_of}
use Rattle.fm_world.specs.Programs.{Outline, Program}
use Rattle.freeme.specs.Rewriting.{AreRewrittenBy}
use Rattle.freeme.specs.TopCall.{IsFirstCause, cause_name}
use Rattle.freeme.specs.declared.refusal.FreeRefusal.{FreeRefusal}
use Rattle.freeme.specs.declared.refusal.FreeRefusal.TheVariants as free_refusal

-- what a cause names is there: the method or the class has a number of the program
abbrev pub IsThere : Outline → RewriteFail → Type 0
IsThere o (fail.CallsFree method offset) = method.0 < length (methods_of o.classes)
IsThere o (fail.PoolFull class indices) = class.0 < length o.classes
IsThere o (fail.MethodTooLong method bytes) = method.0 < length (methods_of o.classes)
IsThere o fail.NoMemory = Unit {0}

-- the name is that of the method or the class; want of memory names none
abbrev pub IsNamed : Outline → RewriteFail → List ℕ → Type 0
IsNamed o fail.NoMemory name = ⊥
IsNamed o cause name = name ≡ cause_name o cause

-- they are rewritten; or there is a cause against it; or memory couldn't be had
abbrev pub ComesOfFreeing : (chains : Bool) → Program → List ClassDef → Result Rewritten FreeRefusal → Type 0
ComesOfFreeing chains p given (Ok made) = AreRewrittenBy chains p given made
ComesOfFreeing chains p given (Err (free_refusal.Rewrite cause name)) = IsFirstCause chains p given cause × (name ≡ cause_name p.outline cause)
ComesOfFreeing chains p given (Err (free_refusal.Job (job_refusal.Shared refusal.OutOfMemory))) = Unit {0}
ComesOfFreeing chains p given (Err r) = ⊥
