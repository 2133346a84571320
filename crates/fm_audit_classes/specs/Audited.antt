-- What becomes of an audit of class files that were written, by whoever, for those of a program: they are these with safe insertions, or
-- there is a cause for which they aren't.
use Rattle.std.specs.Prelude.{◌≡◌, ◌+◌, ◌<◌, ◌≤◌, ℕ, List, length, Option, Some, None, IfSome, Result, Ok, Err}
use Rattle.fm_base.specs.declared.ids.MethodId.{MethodId}
use Rattle.fm_base.specs.declared.limits.TheConstants.{MAX_STACK_WORDS}
use Rattle.fm_code.specs.declared.class_file.ClassDef.{ClassDef}
use Rattle.fm_code.specs.declared.code_array.Code.{Code}
use Rattle.fm_conn.specs.Facts.{AreFacts, Facts}
use Rattle.fm_place.specs.Insertions.{Insertions}
use Rattle.fm_place.specs.Rewriting.{Plans, rewritten}
use Rattle.fm_place.specs.Safe.{IsSafeMethod, Safe}
use Rattle.fm_rewrite.specs.FreeCalls.{first_call}
use Rattle.fm_summ_shapes.specs.Analysed.{AreLeastTypings}
use Rattle.fm_world.specs.Members.{methods_of}
use Rattle.fm_world.specs.Programs.{code_at, Program, program_of}
use Rattle.fm_audit.specs.declared.parts.Part.{Part}
use Rattle.fm_audit_classes.specs.Parts.{IsFirstNamed}
use Rattle.fm_audit_classes.specs.declared.error.AuditFail.{AuditFail}
use Rattle.fm_audit_classes.specs.declared.error.AuditFail.TheVariants as fail

-- the program doesn't call FreeMe, and the classes written are those given with insertions that are safe by exact facts over least typings
pub record AreSafelyWritten (given : List ClassDef) (main : List ℕ) (written : List ClassDef) : Type 0 where
  pub no_call : first_call (program_of given main) ≡ None
  pub marks : List (List (Option ℕ))
  pub safe : Safe given main written marks
  pub least : AreLeastTypings (program_of given main) safe.facts.typing

-- each of these insertions is safe by these facts
abbrev pub AreSafePlans : Program → Facts → Plans → Type 0
AreSafePlans p facts plans = (method : ℕ) (plan : Insertions) → plans method ≡ Some plan → IsSafeMethod p facts method plan

-- the stack of each method into which something is inserted may have a word more, as it has in what is written
abbrev pub HaveStack : Program → Plans → Type 0
HaveStack p plans =
    (method : ℕ) (plan : Insertions) (code : Code) → plans method ≡ Some plan → code_at p method ≡ Some code → code.max_stack + 1 ≤ MAX_STACK_WORDS

-- by some exact facts over least typings no insertions that are safe give these classes
pub record NoneIsSafe (p : Program) (given written : List ClassDef) : Type 0 where
  pub facts : Facts
  pub exact : AreFacts p facts
  pub least : AreLeastTypings p facts.typing
  pub none : (plans : Plans) → AreSafePlans p facts plans → HaveStack p plans → written ≡ rewritten plans given → ⊥

-- The program doesn't call FreeMe, what is named is one of its classes, and one of its methods or none, and no safe insertions give the classes written. Without
-- a method the first class is named that isn't the given one, codes aside; else the first method that isn't safe by the same facts.
pub record AreNotSafelyWritten (given : List ClassDef) (main : List ℕ) (written : List ClassDef) (class : ℕ) (method : Option MethodId) (part : Part) : Type 0 where
  pub no_call : first_call (program_of given main) ≡ None
  pub class_inside : class < length (program_of given main).outline.classes
  pub method_inside : IfSome method (λ m. m.0 < length (methods_of (program_of given main).outline.classes))
  pub unsafe : NoneIsSafe (program_of given main) given written
  pub named : IsFirstNamed (program_of given main) unsafe.facts given written class method part

-- one of the two, or the first call of FreeMe; want of memory says nothing
abbrev pub ComesOfAudit : List ClassDef → (main : List ℕ) → (written : List ClassDef) → Result Unit AuditFail → Type 0
ComesOfAudit given main written (Ok done) = AreSafelyWritten given main written
ComesOfAudit given main written (Err (fail.CallsFree method offset)) = first_call (program_of given main) ≡ Some (method.0, offset)
ComesOfAudit given main written (Err (fail.NotSafe class method part)) = AreNotSafelyWritten given main written class.0 method part
ComesOfAudit given main written (Err fail.NoMemory) = Unit {0}
