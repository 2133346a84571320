-- What becomes of classes with chains or without, stated once for both: by plans whose holders may hold chains.
use Rattle.std.proofs.Common.{◌≡◌, refl, sym, ◌∙◌, Bool, true, false, List, Result, Ok, Err}
use Rattle.fm_chain.proofs.WithoutChains.{classes_are_rewritten}
use Rattle.fm_chain.specs.Chaining.{chained_classes, chained_marks_with}
use Rattle.fm_chain.specs.SafeChains.{full_chains}
use Rattle.fm_code.specs.declared.class_file.ClassDef.{ClassDef}
use Rattle.fm_conn.specs.Facts.{AreFacts, Facts}
use Rattle.fm_law_beside_freeme.specs.Exact.{AreLeastFacts, LeastFactsServeAlike}
use Rattle.fm_law_chains.specs.Exact.{LeastFactsServeChains}
use Rattle.fm_law_same_runs.specs.Beside.{Marks}
use Rattle.fm_place.specs.Safe.{full_plans}
use Rattle.fm_rewrite.proofs.WithoutChains.{plans_plain}
use Rattle.fm_rewrite.specs.Rewritten.{ComesOfRewritingOf}
use Rattle.fm_rewrite.specs.Causes.{plans_for}
use Rattle.fm_rewrite.specs.RewrittenWithChains.{ComesOfChainingOf}
use Rattle.fm_rewrite.specs.declared.error.RewriteFail.{RewriteFail}
use Rattle.fm_rewrite.specs.declared.error.RewriteFail.TheVariants as fail
use Rattle.fm_rewrite.specs.declared.rewriting.Rewritten.{Rewritten}
use Rattle.fm_world.specs.Programs.{Program}
use Rattle.freeme.specs.Rewriting.{cause_by, ComesOfRewritingBy, facts_by, IsFullBy}

-- ---- by plans

-- the classes written are those by these plans
pub full_written : (chained : Bool) (p : Program) (given written : List ClassDef) (marks : Marks) (full : IsFullBy chained p given written marks)
    → written ≡ chained_classes (plans_for chained p (facts_by chained p given written marks full)) given
full_written false p given written marks full =
    full.written_is ∙ sym (classes_are_rewritten (full_plans p full.facts) (plans_plain p full.facts) given).classes_are
full_written true p given written marks full = full.written_is

-- by exact facts
pub full_exact : (chained : Bool) (p : Program) (given written : List ClassDef) (marks : Marks) (full : IsFullBy chained p given written marks)
    → AreFacts p (facts_by chained p given written marks full)
full_exact false p given written marks full = full.exact
full_exact true p given written marks full = full.exact

-- ---- what is rewritten, or isn't

pub comes_without : (p : Program) (given : List ClassDef) (result : Result Rewritten RewriteFail) → ComesOfRewritingOf p given result
    → ComesOfRewritingBy false p given result
comes_without p given (Ok made) by = record {
  no_call = by.no_call;
  marks = by.marks;
  full = by.full;
  least = by.least;
  no_cause = by.no_cause;
  counts_are = by.counts_are;
}
comes_without p given (Err (fail.CallsFree method offset)) by = by
comes_without p given (Err (fail.PoolFull class indices)) by = by
comes_without p given (Err (fail.MethodTooLong method bytes)) by = by
comes_without p given (Err fail.NoMemory) by = tt

pub comes_with : (p : Program) (given : List ClassDef) (result : Result Rewritten RewriteFail) → ComesOfChainingOf p given result
    → ComesOfRewritingBy true p given result
comes_with p given (Ok made) by = record {
  no_call = by.no_call;
  marks = chained_marks_with (full_chains p by.facts) given;
  full = record { facts = by.facts; exact = by.exact; written_is = by.written_is; marks_are = refl };
  least = by.least;
  no_cause = by.no_cause;
  counts_are = by.counts_are;
}
comes_with p given (Err (fail.CallsFree method offset)) by = by
comes_with p given (Err (fail.PoolFull class indices)) by = by
comes_with p given (Err (fail.MethodTooLong method bytes)) by = by
comes_with p given (Err fail.NoMemory) by = tt

-- ---- which facts are taken makes no difference

-- by exact facts over least typings there is one first cause
abbrev pub CausesAgree : Type 0
CausesAgree =
    (chained : Bool) (given : List ClassDef) (p : Program) (facts others : Facts) → AreLeastFacts p facts → AreLeastFacts p others
    → cause_by chained p facts given ≡ cause_by chained p others given

pub causes_agree : LeastFactsServeAlike → LeastFactsServeChains → CausesAgree
causes_agree plain linked false given p facts others one other = (plain given p facts others one other).cause
causes_agree plain linked true given p facts others one other = (linked given p facts others one other).cause
