-- Exact facts over least typings serve alike: the result for class files doesn't depend on which of
-- these are taken.
use Rattle.std.specs.Prelude.{◌≡◌, ℕ, false, List, is_some}
use Rattle.fm_audit_classes.specs.Audited.{AreSafePlans}
use Rattle.fm_summ_shapes.specs.Analysed.{AreLeastTypings}
use Rattle.fm_code.specs.declared.class_file.ClassDef.{ClassDef}
use Rattle.fm_conn.specs.Facts.{AreFacts, Facts}
use Rattle.fm_place.specs.Rewriting.{marks_with, Plans, rewritten}
use Rattle.fm_place.specs.Safe.{full_plans}
use Rattle.fm_rewrite.specs.Causes.{AreNotWoven, first_cause}
use Rattle.fm_rewrite.specs.Rewritten.{AreRewrittenOf, counts_of}
use Rattle.fm_rewrite.specs.declared.error.RewriteFail.{RewriteFail}
use Rattle.fm_rewrite.specs.declared.rewriting.Rewritten.{Rewritten}
use Rattle.fm_world.specs.Programs.{Program}

-- the facts are exact, and their states are least typings
pub record AreLeastFacts (p : Program) (facts : Facts) : Type 0 where
  pub exact : AreFacts p facts
  pub least : AreLeastTypings p facts.typing

-- by both plans the given classes are written alike, with the same marks and counts, and the first
-- cause against it is the same
pub record ServeAlike (given : List ClassDef) (plans others : Plans) : Type 0 where
  pub written : rewritten plans given ≡ rewritten others given
  pub marks : marks_with plans given ≡ marks_with others given
  pub counts : counts_of plans given ≡ counts_of others given
  pub cause : first_cause plans given ≡ first_cause others given

-- full plans by exact facts over least typings do, whichever facts are taken
abbrev pub LeastFactsServeAlike : Type 0
LeastFactsServeAlike =
    (given : List ClassDef) (p : Program) (facts others : Facts) → AreLeastFacts p facts → AreLeastFacts p others
    → ServeAlike given (full_plans p facts) (full_plans p others)

-- insertions into the same methods that are safe by these facts, and by which the given classes are written alike
pub record AreSafeAgain (given : List ClassDef) (p : Program) (facts : Facts) (plans : Plans) : Type 0 where
  pub again : Plans
  pub safe : AreSafePlans p facts again
  pub alike : ServeAlike given plans again
  pub methods : (method : ℕ) → is_some (again method) ≡ is_some (plans method)

-- what is safe by exact facts over least typings is safe by any others, but for the numbers of classes
abbrev pub LeastFactsFindAlikeSafe : Type 0
LeastFactsFindAlikeSafe =
    (given : List ClassDef) (p : Program) (facts others : Facts) → AreLeastFacts p facts → AreLeastFacts p others
    → (plans : Plans) → AreSafePlans p facts plans → AreSafeAgain given p others plans

-- classes are written in one way, with one set of counts
abbrev pub WrittenInOneWay : Type 0
WrittenInOneWay =
    (given : List ClassDef) (p : Program) (made other : Rewritten) → AreRewrittenOf p given made → AreRewrittenOf p given other
    → (made.classes.items ≡ other.classes.items) × (made.counts.items ≡ other.counts.items)

-- classes that are written aren't refused
abbrev pub WrittenOrRefused : Type 0
WrittenOrRefused = (given : List ClassDef) (p : Program) (made : Rewritten) (cause : RewriteFail) → AreRewrittenOf p given made → AreNotWoven false p given cause → ⊥

-- and classes that are refused have one cause
abbrev pub RefusedForOneCause : Type 0
RefusedForOneCause =
    (given : List ClassDef) (p : Program) (cause other : RewriteFail) → AreNotWoven false p given cause → AreNotWoven false p given other → cause ≡ other
