-- The outcome of the two parts of a job behind its reads: its program is judged, and its classes are written.
use Rattle.std.specs.declared.alloc.Global.{Global}
use Rattle.std.specs.Prelude.{◌≡◌, ◌⊎◌, ℕ, Bool, List, [], Result, Ok, Err, String, string_bytes}
use Rattle.fm_check_program.specs.Untyped.{AreTyped}
use Rattle.fm_code.specs.declared.class_file.ClassDef.{ClassDef}
use Rattle.fm_files.specs.Files.{Bytes, Disk}
use Rattle.fm_load.specs.Judging.{ComesOfProgram}
use Rattle.fm_load.specs.declared.refusal.JobRefusal.{JobRefusal}
use Rattle.fm_rewrite.specs.declared.rewriting.Rewritten.{Rewritten}
use Rattle.fm_world.specs.Linking.{refusals}
use Rattle.fm_world.specs.Programs.{Program, program_of}
use Rattle.freeme.specs.Jobs.{IsAnalysed}
use Rattle.freeme.specs.Rewriting.{AreRewrittenBy}
use Rattle.freeme.specs.Writing.{AllWritten, class_lines}
use Rattle.freeme.specs.declared.refusal.FreeRefusal.{FreeRefusal}
use Rattle.freeme.specs.declared.refusal.FreeRefusal.TheVariants as free_refusal
use Rattle.freeme.specs.inner.Freeing.{ComesOfFreeing}
use Rattle.freeme.specs.inner.Writing.{ComesOfClasses}

-- classes make a program of typed methods, and by this one its dead objects are found
pub record AreJudgedAs (rapid : Bool) (classes : List ClassDef) (main : List ℕ) (p : Program) : Type 0 where
  pub linked : refusals classes main ≡ []
  pub typed : AreTyped (program_of classes main)
  pub analysed : IsAnalysed rapid (program_of classes main) p

-- they do; or they make none, or one of which a method isn't typed, or memory couldn't be had
abbrev pub ComesOfJudging : (rapid : Bool) → List ClassDef → (main : List ℕ) → Result Program FreeRefusal → Type 0
ComesOfJudging rapid classes main (Ok p) = AreJudgedAs rapid classes main p
ComesOfJudging rapid classes main (Err (free_refusal.Job r)) = ComesOfProgram classes main (Err r)
ComesOfJudging rapid classes main (Err r) = ⊥

-- the classes of a program are rewritten, all of them are written, and these are their lines
pub record AreFreedIn (folder : Bytes) (chains : Bool) (p : Program) (given : List ClassDef) (lines : List ℕ) (old new : Disk) : Type 0 where
  pub made : Rewritten
  pub rewritten : AreRewrittenBy chains p given made
  pub written : AllWritten folder made.classes.items old new
  pub lines_are : lines ≡ class_lines made.classes.items made.counts.items

-- they are rewritten, and for this cause not all of them are written
pub record AreCutOff (folder : Bytes) (chains : Bool) (p : Program) (given : List ClassDef) (r : FreeRefusal) (old new : Disk) : Type 0 where
  pub made : Rewritten
  pub rewritten : AreRewrittenBy chains p given made
  pub cause : JobRefusal
  pub refused : r ≡ free_refusal.Job cause
  pub comes : ComesOfClasses folder made.classes.items old new (Err cause)

-- all are written; or they aren't rewritten, or memory couldn't be had, and the files are as they were; or a write ended it
abbrev pub ComesOfWriting : (chains : Bool) → Program → List ClassDef → (folder : Bytes) → Disk → Disk → Result (String Global) FreeRefusal → Type 0
ComesOfWriting chains p given folder old new (Ok lines) = AreFreedIn folder chains p given (string_bytes lines) old new
ComesOfWriting chains p given folder old new (Err r) = (ComesOfFreeing chains p given (Err r) × (new ≡ old)) ⊎ AreCutOff folder chains p given r old new
