-- What becomes of the class files of a program where holders of sites in loops hold chains: they are written again, or there is a cause for which they aren't.
use Rattle.std.specs.Prelude.{◌≡◌, Bool, true, List, Some, None, Result, Ok, Err}
use Rattle.fm_summ_shapes.specs.Analysed.{AreLeastTypings}
use Rattle.fm_code.specs.declared.class_file.ClassDef.{ClassDef}
use Rattle.fm_conn.specs.Facts.{AreFacts, Facts}
use Rattle.fm_chain.specs.Chaining.{chained_classes}
use Rattle.fm_rewrite.specs.Causes.{AreNotWoven, first_cause, plans_for}
use Rattle.fm_rewrite.specs.FreeCalls.{first_call}
use Rattle.fm_rewrite.specs.Rewritten.{counts_of}
use Rattle.fm_rewrite.specs.declared.error.RewriteFail.{RewriteFail}
use Rattle.fm_rewrite.specs.declared.error.RewriteFail.TheVariants as fail
use Rattle.fm_rewrite.specs.declared.rewriting.Rewritten.{Rewritten}
use Rattle.fm_world.specs.Programs.{Program}

-- ---- what becomes of the classes

-- the program of the given classes doesn't call FreeMe, and by exact facts, over least typings, they are written with all held sites and all places, with the counts of each; and by
-- these there is no cause against it
pub record AreWoven (chains : Bool) (p : Program) (given : List ClassDef) (made : Rewritten) : Type 0 where
  pub no_call : first_call p ≡ None
  pub facts : Facts
  pub exact : AreFacts p facts
  pub least : AreLeastTypings p facts.typing
  pub written_is : made.classes.items ≡ chained_classes (plans_for chains p facts) given
  pub no_cause : first_cause (plans_for chains p facts) given ≡ None
  pub counts_are : made.counts.items ≡ counts_of (plans_for chains p facts) given

-- one of the two, or the first call of FreeMe; want of memory says nothing
abbrev pub ComesOfWeaving : (chains : Bool) → Program → List ClassDef → Result Rewritten RewriteFail → Type 0
ComesOfWeaving chains p given (Ok made) = AreWoven chains p given made
ComesOfWeaving chains p given (Err (fail.CallsFree method offset)) = first_call p ≡ Some (method.0, offset)
ComesOfWeaving chains p given (Err (fail.PoolFull class indices)) = AreNotWoven chains p given (fail.PoolFull class indices)
ComesOfWeaving chains p given (Err (fail.MethodTooLong method bytes)) = AreNotWoven chains p given (fail.MethodTooLong method bytes)
ComesOfWeaving chains p given (Err fail.NoMemory) = Unit {0}

-- with chains
abbrev pub ComesOfChainingOf : Program → List ClassDef → Result Rewritten RewriteFail → Type 0
ComesOfChainingOf p given result = ComesOfWeaving true p given result
