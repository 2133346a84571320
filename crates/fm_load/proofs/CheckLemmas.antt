-- What comes of classes by what comes of linking them and of checking their program.
use Rattle.std.proofs.Common.{ℕ, List, Ok, Err, sym, subst}
use Rattle.std.specs.List.{AllByRecursion}
use Rattle.fm_code.specs.Profile.{IsWithinLimits}
use Rattle.fm_code.specs.declared.class_file.ClassDef.{ClassDef}
use Rattle.fm_cli.specs.declared.command_refusal.CommandRefusal.TheVariants as refusal
use Rattle.fm_check_program.specs.Untyped.{AreCheckable, AreTyped}
use Rattle.fm_check_program.proofs.LinkedPrograms.{are_checkable}
use Rattle.fm_world.specs.Linking.{IsLinked}
use Rattle.fm_world.specs.Programs.{Program}
use Rattle.fm_load.specs.Given.{IsFirstUntypedName}
use Rattle.fm_load.specs.inner.Checking.{ComesOfCheck}
use Rattle.fm_load.specs.Judging.{ComesOfProgram}
use Rattle.fm_load.specs.inner.Linking.{ComesOfLinks}
use Rattle.fm_load.specs.Taking.{ClassIsSpelled}
use Rattle.fm_load.specs.declared.refusal.JobRefusal.{JobRefusal}
use Rattle.fm_load.specs.declared.refusal.JobRefusal.TheVariants as job_refusal
use Rattle.fm_load.proofs.TakenLemmas.{have_spellings}

-- they make no program
pub comes_unlinked : (classes : List ClassDef) (main : List ℕ) (r : JobRefusal) → ComesOfLinks classes main (Err r) → ComesOfProgram classes main (Err r)
comes_unlinked classes main (job_refusal.Link fail) now = now
comes_unlinked classes main (job_refusal.Shared refusal.OutOfMemory) now = tt
comes_unlinked classes main r now = absurd now

-- they make this one, which may be checked
pub may_be_checked : (classes : List ClassDef) (main : List ℕ) (program : Program) → AllByRecursion ClassIsSpelled classes → AllByRecursion IsWithinLimits classes → IsLinked classes main (Ok program) → AreCheckable program
may_be_checked classes main program spelled within linked =
    subst AreCheckable (sym linked.1) (are_checkable classes main (have_spellings classes spelled) within linked.0)

-- its methods are typed
pub comes_typed : (classes : List ClassDef) (main : List ℕ) (program : Program) → IsLinked classes main (Ok program) → AreTyped program → ComesOfProgram classes main (Ok program)
comes_typed classes main program linked typed = (linked, subst AreTyped linked.1 typed)

-- or not
pub comes_untyped : (classes : List ClassDef) (main : List ℕ) (program : Program) → IsLinked classes main (Ok program) → (r : JobRefusal) → ComesOfCheck program (Err r) → ComesOfProgram classes main (Err r)
comes_untyped classes main program linked (job_refusal.Check name) untyped =
    (linked.0, let P : Program → Type 0 = λ p. IsFirstUntypedName p name in subst P linked.1 untyped)
comes_untyped classes main program linked (job_refusal.Shared refusal.OutOfMemory) now = tt
comes_untyped classes main program linked r now = absurd now
