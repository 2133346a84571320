-- What becomes of the class files by what is to be done with all methods is what becomes of them by the definitions.
use Rattle.std.proofs.Common.{◌≡◌, sym, ◌∙◌, ap, ℕ, Bool, List, drop, length, None, Result, Ok, Err}
use Rattle.std.specs.List.{AllByRecursion}
use Rattle.std.specs.Option.{option_map, option_or}
use Rattle.fm_code.specs.Spells.{HasSpelling}
use Rattle.fm_code.specs.declared.class_file.ClassDef.{ClassDef}
use Rattle.fm_place.specs.Rewriting.{first_given, Plans}
use Rattle.fm_place.specs.Safe.{IsProgramOf}
use Rattle.fm_rewrite.proofs.ProgramByLemmas.{all_counts, all_full, all_long, all_rewritten}
use Rattle.fm_rewrite.proofs.ProgramMeantLemmas.{all_meant, all_planned}
use Rattle.fm_rewrite.specs.FreeCalls.{first_call}
use Rattle.fm_rewrite.specs.Plans.{ArePlanned}
use Rattle.fm_rewrite.specs.Causes.{full_from, long_from, method_too_long, plans_for, pool_full}
use Rattle.fm_rewrite.specs.RewrittenWithChains.{ComesOfWeaving}
use Rattle.fm_rewrite.specs.declared.error.RewriteFail.{RewriteFail}
use Rattle.fm_rewrite.specs.declared.error.RewriteFail.TheVariants as fail
use Rattle.fm_rewrite.specs.declared.rewriting.Rewritten.{Rewritten}
use Rattle.fm_rewrite.specs.inner.ByPlans.{ComesBy, first_full_by, first_long_by}
use Rattle.fm_rewrite.specs.inner.Meant.{AreAllMeant}
use Rattle.fm_place_weave.specs.declared.planned.Planned.{Planned}
use Rattle.fm_world.specs.BuiltIns.{built_in}
use Rattle.fm_world.specs.Programs.{Program}

module _ (given : List ClassDef) (main : List ℕ) (p : Program) (program_is : IsProgramOf given main p) (chains : Bool) (done : List Planned)
    (spelled : AllByRecursion HasSpelling given) (are : ArePlanned p chains done) where
  abbrev plans : Plans
  plans = plans_for chains p are.facts

  abbrev own_done : List Planned
  own_done = drop first_given done

  meant : AreAllMeant plans first_given own_done given
  meant = all_meant p are.facts chains first_given own_done given spelled (all_planned given main p program_is chains done are)

  full_is : first_full_by (length built_in) own_done given ≡ full_from plans (length built_in) first_given given
  full_is = all_full plans (length built_in) first_given own_done given meant

  long_is : first_long_by first_given own_done given ≡ long_from plans first_given given
  long_is = all_long plans first_given own_done given meant

  pub comes_of : first_call p ≡ None → (result : Result Rewritten RewriteFail)
      → ComesBy (length built_in) first_given own_done given result → ComesOfWeaving chains p given result
  comes_of no_call (Ok made) by = record {
    no_call = no_call;
    facts = are.facts;
    exact = are.exact;
    least = are.least;
    written_is = by.classes ∙ all_rewritten plans first_given own_done given meant by.short;
    no_cause = λ k. option_or (option_map pool_full ((sym full_is ∙ by.fit) k)) (option_map method_too_long ((sym long_is ∙ by.short) k));
    counts_are = by.counts ∙ all_counts plans first_given own_done given meant by.short;
  }
  comes_of no_call (Err (fail.CallsFree method offset)) by = absurd by
  comes_of no_call (Err (fail.PoolFull class indices)) by = record {
    no_call = no_call;
    facts = are.facts;
    exact = are.exact;
    least = are.least;
    first = ap (λ o. option_or (option_map pool_full o) (option_map method_too_long (long_from plans first_given given))) (sym full_is ∙ by);
  }
  comes_of no_call (Err (fail.MethodTooLong method bytes)) by = record {
    no_call = no_call;
    facts = are.facts;
    exact = are.exact;
    least = are.least;
    first = λ k. option_or (option_map pool_full ((sym full_is ∙ by.0) k)) (option_map method_too_long ((sym long_is ∙ by.1) k));
  }
  comes_of no_call (Err fail.NoMemory) by = tt
