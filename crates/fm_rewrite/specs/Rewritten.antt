-- What becomes of the class files of a program: they are written again, each held site with a holder that is freed at all its places,
-- or there is a cause for which they aren't.
use Rattle.std.specs.Prelude.{◌≡◌, ℕ, ◌+◌, false, List, [], ◌∷◌, length, Option, Some, None, Result, Ok, Err}
use Rattle.std.specs.List.{AllByRecursion}
use Rattle.fm_summ_shapes.specs.Analysed.{AreLeastTypings, IsAccepted}
use Rattle.fm_code.specs.declared.class_file.ClassDef.{ClassDef}
use Rattle.fm_place.specs.Rewriting.{first_given, frees_in, Plans, sites_in}
use Rattle.fm_place.specs.Safe.{full_plans, FullOf, IsProgramOf}
use Rattle.fm_rewrite.specs.Causes.{AreNotWoven, first_cause}
use Rattle.fm_rewrite.specs.FreeCalls.{first_call}
use Rattle.fm_rewrite.specs.declared.counts.Count.{Count}
use Rattle.fm_rewrite.specs.declared.error.RewriteFail.{RewriteFail}
use Rattle.fm_rewrite.specs.declared.error.RewriteFail.TheVariants as fail
use Rattle.fm_rewrite.specs.declared.rewriting.Rewritten.{Rewritten}
use Rattle.fm_check_program.specs.Untyped.{AreTyped}
use Rattle.fm_world.specs.Linking.{refusals}
use Rattle.fm_world.specs.Programs.{Program, program_of}

-- ---- what is required

-- the program is that of these class files, narrowed or not; they are accepted and make one, and its methods are typed: what reading, linking and
-- checking make sure of
pub record AreJudged (given : List ClassDef) (p : Program) : Type 0 where
  pub main : List ℕ
  pub program_is : IsProgramOf given main p
  pub accepted : AllByRecursion IsAccepted given
  pub linked : refusals given main ≡ []
  pub typed : AreTyped (program_of given main)

-- ---- counts

-- how many sites are held and how many frees are inserted in each class, by the plans of its methods, of which the first has this number
abbrev pub counts_from : Plans → (first : ℕ) → List ClassDef → List Count
counts_from plans first [] = []
counts_from plans first (c ∷ classes) =
    record { sites = sites_in plans first c; frees = frees_in plans first c } ∷ counts_from plans (first + length c.methods) classes

-- in each given class
abbrev pub counts_of : Plans → List ClassDef → List Count
counts_of plans given = counts_from plans first_given given

-- ---- what becomes of the classes

-- the program of the given classes doesn't call FreeMe, and they are written with all held sites and all places, with
-- the counts of each, by facts over least typings; and by these there is no cause against it
pub record AreRewrittenOf (p : Program) (given : List ClassDef) (made : Rewritten) : Type 0 where
  pub no_call : first_call p ≡ None
  pub marks : List (List (Option ℕ))
  pub full : FullOf p given made.classes.items marks
  pub least : AreLeastTypings p full.facts.typing
  pub no_cause : first_cause (full_plans p full.facts) given ≡ None
  pub counts_are : made.counts.items ≡ counts_of (full_plans p full.facts) given

-- one of the two, or the first call of FreeMe; want of memory says nothing
abbrev pub ComesOfRewritingOf : Program → List ClassDef → Result Rewritten RewriteFail → Type 0
ComesOfRewritingOf p given (Ok made) = AreRewrittenOf p given made
ComesOfRewritingOf p given (Err (fail.CallsFree method offset)) = first_call p ≡ Some (method.0, offset)
ComesOfRewritingOf p given (Err (fail.PoolFull class indices)) = AreNotWoven false p given (fail.PoolFull class indices)
ComesOfRewritingOf p given (Err (fail.MethodTooLong method bytes)) = AreNotWoven false p given (fail.MethodTooLong method bytes)
ComesOfRewritingOf p given (Err fail.NoMemory) = Unit {0}
