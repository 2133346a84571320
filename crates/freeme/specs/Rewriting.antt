-- What becomes of the classes of a program, with chains or without: they are written with what frees their dead objects, or there is a cause against it.
use Rattle.std.specs.Prelude.{◌≡◌, Bool, true, false, List, Option, Some, None, Result, Ok, Err}
use Rattle.fm_chain.specs.SafeChains.{FullChainsOf}
use Rattle.fm_code.specs.declared.class_file.ClassDef.{ClassDef}
use Rattle.fm_conn.specs.Facts.{Facts}
use Rattle.fm_law_same_runs.specs.Beside.{Marks}
use Rattle.fm_place.specs.Safe.{FullOf}
use Rattle.fm_rewrite.specs.FreeCalls.{first_call}
use Rattle.fm_rewrite.specs.Causes.{AreNotWoven, first_cause, plans_for}
use Rattle.fm_rewrite.specs.Rewritten.{counts_of}
use Rattle.fm_rewrite.specs.declared.error.RewriteFail.{RewriteFail}
use Rattle.fm_rewrite.specs.declared.error.RewriteFail.TheVariants as fail
use Rattle.fm_rewrite.specs.declared.rewriting.Rewritten.{Rewritten}
use Rattle.fm_summ_shapes.specs.Analysed.{AreLeastTypings}
use Rattle.fm_world.specs.Programs.{Program}

-- each held site has a holder that is freed exactly at its places; with chains that of a site in a loop holds a chain
abbrev pub IsFullBy : (chains : Bool) → Program → (given written : List ClassDef) → Marks → Type 0
IsFullBy false p given written marks = FullOf p given written marks
IsFullBy true p given written marks = FullChainsOf p given written marks

-- the exact facts by which it is so
abbrev pub facts_by : (chains : Bool) (p : Program) (given written : List ClassDef) (marks : Marks) → IsFullBy chains p given written marks → Facts
facts_by false p given written marks full = full.facts
facts_by true p given written marks full = full.facts

-- the first cause for which the classes can't be written so
abbrev pub cause_by : (chains : Bool) → Program → Facts → List ClassDef → Option RewriteFail
cause_by chains p facts given = first_cause (plans_for chains p facts) given

-- The program of the given classes doesn't call FreeMe, and they are written with all held sites and all places, with the counts of each, by facts over least
-- typings; and by these there is no cause against it.
pub record AreRewrittenBy (chains : Bool) (p : Program) (given : List ClassDef) (made : Rewritten) : Type 0 where
  pub no_call : first_call p ≡ None
  pub marks : Marks
  pub full : IsFullBy chains p given made.classes.items marks
  pub least : AreLeastTypings p (facts_by chains p given made.classes.items marks full).typing
  pub no_cause : cause_by chains p (facts_by chains p given made.classes.items marks full) given ≡ None
  pub counts_are : made.counts.items ≡ counts_of (plans_for chains p (facts_by chains p given made.classes.items marks full)) given

-- the facts by which they are
abbrev pub own_facts : {chains : Bool} {p : Program} {given : List ClassDef} {made : Rewritten} → AreRewrittenBy chains p given made → Facts
own_facts {chains} {p} {given} {made} are = facts_by chains p given made.classes.items are.marks are.full

-- one of the two, or the first call of FreeMe; want of memory says nothing
abbrev pub ComesOfRewritingBy : (chains : Bool) → Program → List ClassDef → Result Rewritten RewriteFail → Type 0
ComesOfRewritingBy chains p given (Ok made) = AreRewrittenBy chains p given made
ComesOfRewritingBy chains p given (Err (fail.CallsFree method offset)) = first_call p ≡ Some (method.0, offset)
ComesOfRewritingBy chains p given (Err (fail.PoolFull class indices)) = AreNotWoven chains p given (fail.PoolFull class indices)
ComesOfRewritingBy chains p given (Err (fail.MethodTooLong method bytes)) = AreNotWoven chains p given (fail.MethodTooLong method bytes)
ComesOfRewritingBy chains p given (Err fail.NoMemory) = Unit {0}
