-- The program by which dead objects are found: what it has of the program that isn't narrowed, that there is one, which status comes of classes by it, and what
-- the walk over reachable code needs.
use Rattle.std.proofs.Common.{◌≡◌, ℕ, ◌<◌, Bool, true, false, List, [], length, Option, Some, None, refl, sym, ap, ◌∙◌, subst, arith}
use Rattle.std.specs.Prelude.{unwrap_or, is_some, ◌&&◌, IfOk, Result}
use Rattle.std.specs.List.{AllByRecursion}
use Rattle.std.specs.Str.{bytes_eq}
use Rattle.std.proofs.lemmas.List.{ext_get_or}
use Rattle.std.proofs.lemmas.Result.{IfOk-weaker}
use Rattle.std.proofs.lemmas.Bool.{false≢true}
use Rattle.std.proofs.lemmas.List.Quantifiers.{position-Some}
use Rattle.fm_base.proofs.ListFacts.{AllByRecursion-weaker}
use Rattle.fm_base.proofs.TestFacts.{same_test}
use Rattle.fm_base.specs.Rows.{has}
use Rattle.fm_code.specs.Profile.{IsSupported}
use Rattle.fm_code.specs.Spells.{HasSpelling}
use Rattle.fm_code.specs.declared.class_file.ClassDef.{ClassDef}
use Rattle.fm_law_chains.specs.Chains.{ChainedClassesDoTheSame, ChainedClassesFreeAll}
use Rattle.fm_law_chains.specs.FreesAll.{FreesAll}
use Rattle.fm_law_headline.proofs.Parts.{whole_sets}
use Rattle.fm_law_headline.specs.Headline.{ClassesDoTheSame, DoesTheSame, NarrowedClassesDoTheSame}
use Rattle.fm_law_linked.proofs.MainMethod.{main_ready}
use Rattle.fm_law_reached.proofs.Closed.{closed_narrowed}
use Rattle.fm_law_reached.specs.Reached.{HasClosedSets}
use Rattle.fm_law_same_runs.specs.Beside.{Marks}
use Rattle.fm_law_same_runs.specs.Programs.{AreTaken}
use Rattle.fm_place.specs.Safe.{FullOf, IsProgramOf}
use Rattle.fm_rapid.specs.Opening.{HasOpening}
use Rattle.fm_rapid.specs.Reach.{IsWithin, narrowed, Reach}
use Rattle.fm_rewrite.proofs.FreeCallsLemmas.{first_call_is}
use Rattle.fm_rewrite.proofs.JudgedLemmas.{classes_counted}
use Rattle.fm_rewrite.specs.Causes.{AreNotWoven}
use Rattle.fm_rewrite.specs.declared.error.RewriteFail.{RewriteFail}
use Rattle.fm_rewrite.specs.declared.error.RewriteFail.TheVariants as fail
use Rattle.fm_rewrite.specs.declared.rewriting.Rewritten.{Rewritten}
use Rattle.fm_rewrite.specs.FreeCalls.{first_call}
use Rattle.fm_summ_shapes.proofs.ShapesLemmas.{code_facts}
use Rattle.fm_summ_shapes.specs.Analysed.{AreAnalysable, AreLeastTypings, IsAccepted}
use Rattle.fm_world.specs.BuiltIns.{built_in}
use Rattle.fm_world.specs.Chains.{given_number}
use Rattle.fm_world.specs.Declarations.{no_class}
use Rattle.fm_world.specs.Linking.{refusals}
use Rattle.fm_world.specs.Programs.{classes_of, outline_of, Program, program_of}
use Rattle.fm_world.specs.declared.declarations.DeclaredClass.{DeclaredClass}
use Rattle.fm_cli.specs.declared.status.TheConstants.{DONE}
use Rattle.fm_cli_requests.specs.FreemeRequest.{FreemeJob}
use Rattle.fm_conn.specs.Facts.{AreFacts, Facts}
use Rattle.fm_load.proofs.VerdictLemmas.{Ends, EndsOnce}
use Rattle.freeme.specs.Causes.{BecomesAs, BecomesByFacts, cause_status}
use Rattle.freeme.proofs.RewritingLemmas.{CausesAgree, full_exact}
use Rattle.freeme.specs.Jobs.{IsAnalysed, IsJobProgram, main_name}
use Rattle.freeme.specs.Refusal.{rewrite_status}
use Rattle.freeme.specs.Rewriting.{AreRewrittenBy, cause_by, facts_by, IsFullBy, own_facts}
use Rattle.freeme.specs.TopCall.{IsFirstCause}
use Rattle.freeme.specs.declared.status.TheConstants.{CALLS_FREE}

-- ---- it is the program of the classes, narrowed or not

pub is_program : (rapid : Bool) (given : List ClassDef) (main : List ℕ) (p : Program) → IsAnalysed rapid (program_of given main) p → IsProgramOf given main p
is_program false given main p is = subst (IsProgramOf given main) (sym is) refl
is_program true given main p is = subst (IsProgramOf given main) (sym is.narrowed_is) refl

-- ---- there is one

same_row : (row other : List Bool) → length row ≡ length other → IsWithin row other → IsWithin other row → row ≡ other
same_row row other count within back = ext_get_or false row other count (λ k inside. same_test (has row k) (has other k) (within k) (back k))

made_once : (p : Program) (methods made others classes : List Bool) → Reach p methods made → Reach p others classes → made ≡ classes
made_once p methods made others classes a b =
    same_row made classes (a.each_class ∙ sym b.each_class) (a.least others classes b.closed).1 (b.least methods made a.closed).1

analysed_once : (rapid : Bool) (whole p q : Program) → IsAnalysed rapid whole p → IsAnalysed rapid whole q → p ≡ q
analysed_once false whole p q a b = a ∙ sym b
analysed_once true whole p q a b =
    a.narrowed_is ∙ ap (narrowed whole) (made_once whole a.methods a.made b.methods b.made a.reached b.reached) ∙ sym b.narrowed_is

-- ---- it is what is returned

pub narrowed_so : {E : Type 0} (whole q : Program) (methods made : List Bool) → Reach whole methods made → q ≡ narrowed whole made → (rapid : Bool) → rapid ≡ true
    → (result : Result Program E) → IfOk result (λ p. p ≡ q) → IfOk result (IsAnalysed rapid whole)
narrowed_so whole q methods made reached is rapid given result same =
    subst (λ (b : Bool). IfOk result (IsAnalysed b whole)) (sym given)
    (IfOk-weaker result (λ p. p ≡ q) (IsAnalysed true whole)
    (λ p e. record { methods = methods; made = made; reached = reached; narrowed_is = e ∙ is }) same)

-- ---- which status comes of classes

-- this status comes of classes that are linked and typed
abbrev pub Rewrites : FreemeJob → Ends
Rewrites job classes status = BecomesAs status job classes (first_call (program_of classes (main_name job)))

-- one does, as exact facts over least typings serve alike, and of one program
pub rewrites_once : CausesAgree → (job : FreemeJob) → EndsOnce (Rewrites job)
rewrites_once agree job classes s t = by (first_call (program_of classes (main_name job))) where
  by : (call : Option (ℕ × ℕ)) → BecomesAs s job classes call → BecomesAs t job classes call → s ≡ t
  by (Some call) a b = sym a ∙ b
  by None a b =
      let p = a.program in
      let one : b.program ≡ p = analysed_once job.rapid (program_of classes (main_name job)) b.program p b.analysed a.analysed in
      let exact = subst (λ (q : Program). AreFacts q b.facts) one b.exact in
      let least = subst (λ (q : Program). AreLeastTypings q b.facts.typing) one b.least in
      let status = subst (λ (q : Program). cause_status (cause_by job.chains q b.facts classes) ≡ t) one b.status_is in
      let same = agree job.chains classes p a.facts b.facts (record { exact = a.exact; least = a.least }) (record { exact = exact; least = least }) in
      sym a.status_is ∙ ap cause_status same ∙ status

-- by facts, where there is no call of FreeMe
becomes_by : (job : FreemeJob) (classes : List ClassDef) (status : ℕ) → first_call (program_of classes (main_name job)) ≡ None → BecomesByFacts status job classes
    → Rewrites job classes status
becomes_by job classes status none by = let P : Option (ℕ × ℕ) → Type 0 = BecomesAs status job classes in subst P (sym none) by

module _ (job : FreemeJob) (classes : List ClassDef) (p : Program) (analysed : IsJobProgram job classes p) where
  call_same : first_call p ≡ first_call (program_of classes (main_name job))
  call_same = first_call_is classes (main_name job) p (is_program job.rapid classes (main_name job) p analysed)

  by_facts : (status : ℕ) → first_call p ≡ None → (facts : Facts) → AreFacts p facts → AreLeastTypings p facts.typing
      → cause_status (cause_by job.chains p facts classes) ≡ status → Rewrites job classes status
  by_facts status none facts exact least is = becomes_by job classes status (sym call_same ∙ none) (record {
    program = p;
    analysed = analysed;
    facts = facts;
    exact = exact;
    least = least;
    status_is = is;
  })

  by_cause : (cause : RewriteFail) → AreNotWoven job.chains p classes cause → Rewrites job classes (rewrite_status cause)
  by_cause cause refused = by_facts (rewrite_status cause) refused.no_call refused.facts refused.exact refused.least (ap cause_status refused.first)

  -- the first cause gives its status
  pub cause_becomes : (cause : RewriteFail) → IsFirstCause job.chains p classes cause → Rewrites job classes (rewrite_status cause)
  cause_becomes (fail.CallsFree method offset) first =
      let P : Option (ℕ × ℕ) → Type 0 = BecomesAs CALLS_FREE job classes in subst P (sym (sym call_same ∙ first)) refl
  cause_becomes (fail.PoolFull class indices) first = by_cause (fail.PoolFull class indices) first
  cause_becomes (fail.MethodTooLong method bytes) first = by_cause (fail.MethodTooLong method bytes) first
  cause_becomes fail.NoMemory first = absurd first

  -- and so do classes that are rewritten
  pub done_becomes : (made : Rewritten) → AreRewrittenBy job.chains p classes made → Rewrites job classes DONE
  done_becomes made are =
      by_facts DONE are.no_call (own_facts are) (full_exact job.chains p classes made.classes.items are.marks are.full) are.least (ap cause_status are.no_cause)

-- ---- what the classes written do

does_analysed : (rapid : Bool) (given : List ClassDef) (main : List ℕ) (p : Program) → IsAnalysed rapid (program_of given main) p → ClassesDoTheSame
    → NarrowedClassesDoTheSame → AreTaken given main → (written : List ClassDef) (marks : Marks) (full : FullOf p given written marks)
    → AllByRecursion HasSpelling written → AllByRecursion IsSupported written → DoesTheSame p given main written marks full.facts
does_analysed false given main p is same narrow taken written marks full spelled supported =
    let P : Program → Type 0 = λ q. (own : FullOf q given written marks) → DoesTheSame q given main written marks own.facts in
    subst P (sym is) (λ own. same given main taken written marks own spelled supported) full
does_analysed true given main p is same narrow taken written marks full spelled supported =
    let P : Program → Type 0 = λ q. (own : FullOf q given written marks) → DoesTheSame q given main written marks own.facts in
    subst P (sym is.narrowed_is) (λ own. narrow given main taken is.methods is.made is.reached.closed written marks own spelled supported) full

-- a program that is narrowed has the classes of closed sets
closed_of : (rapid : Bool) (given : List ClassDef) (main : List ℕ) (p : Program) → IsAnalysed rapid (program_of given main) p → HasClosedSets p
closed_of false given main p is = subst HasClosedSets (sym is) (whole_sets given main)
closed_of true given main p is =
    let whole = program_of given main in
    subst HasClosedSets (sym is.narrowed_is) (is.methods, closed_narrowed whole (Some is.made) is.methods is.made is.reached.closed)

-- what classes do with chains and without
pub record DoLaws : Type 0 where
  pub same : ClassesDoTheSame
  pub narrow : NarrowedClassesDoTheSame
  pub linked : ChainedClassesDoTheSame
  pub all : ChainedClassesFreeAll

-- so it is in the mode of a job
pub does_by : (chains rapid : Bool) (given : List ClassDef) (main : List ℕ) (p : Program) → IsAnalysed rapid (program_of given main) p → DoLaws → AreTaken given main
    → (written : List ClassDef) (marks : Marks) (full : IsFullBy chains p given written marks) → AllByRecursion HasSpelling written
    → AllByRecursion IsSupported written → DoesTheSame p given main written marks (facts_by chains p given written marks full)
does_by false rapid given main p is laws taken written marks full spelled supported =
    does_analysed rapid given main p is laws.same laws.narrow taken written marks full spelled supported
does_by true rapid given main p is laws taken written marks full spelled supported =
    laws.linked given main taken p (is_program rapid given main p is) (closed_of rapid given main p is) written marks full spelled supported

-- with chains all that sites in loops gave is freed
pub frees_by : (chains rapid : Bool) (given : List ClassDef) (main : List ℕ) (p : Program) → IsAnalysed rapid (program_of given main) p → DoLaws → AreTaken given main
    → (written : List ClassDef) (marks : Marks) (full : IsFullBy chains p given written marks) → chains ≡ true
    → FreesAll p (program_of given main) (program_of written main) (facts_by chains p given written marks full) marks
frees_by false rapid given main p is laws taken written marks full chained = absurd (false≢true chained)
frees_by true rapid given main p is laws taken written marks full chained =
    laws.all given main taken p (is_program rapid given main p is) (closed_of rapid given main p is) written marks full

-- ---- what the walk over reachable code needs

some_built_in : 0 < length built_in
unfolding built_in
some_built_in = omega arith

class_inside : (classes : List DeclaredClass) (name : List ℕ) → 0 < length classes → unwrap_or (given_number classes name) 0 < length classes
class_inside classes name some = by (given_number classes name) refl where
  by : (o : Option ℕ) → given_number classes name ≡ o → unwrap_or o 0 < length classes
  by None is = some
  by (Some class) is = (position-Some (λ (c : DeclaredClass). bytes_eq c.name name && is_some c.file) classes class no_class is).0

main_class_inside : (given : List ClassDef) (main : List ℕ) → 0 < length (program_of given main).outline.classes
    → (program_of given main).outline.main_class < length (program_of given main).outline.classes
unfolding program_of outline_of
main_class_inside given main some = class_inside (classes_of given) main some

-- main and its class are there, and the built-in classes
pub opens : (given : List ClassDef) (main : List ℕ) → AllByRecursion IsAccepted given → refusals given main ≡ [] → AreAnalysable (program_of given main)
    → HasOpening (program_of given main).outline
opens given main accepted linked may =
    let p = program_of given main in
    let spelled = AllByRecursion-weaker IsAccepted HasSpelling (λ c is. is.spelled) given accepted in
    let supported = AllByRecursion-weaker IsAccepted IsSupported (λ c is. is.supported) given accepted in
    let ready = main_ready given main spelled supported linked in
    let counted = classes_counted given main p refl in
    let some = some_built_in in
    record {
      main = (code_facts p p.outline.main ready.code may ready.code_is).0.inside;
      main_class = main_class_inside given main (omega (arith, counted, some));
      built_ins = omega (arith, counted);
    }
