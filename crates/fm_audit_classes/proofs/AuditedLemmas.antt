-- What is to be done with the methods of a program by insertions that are safe, and what follows for its classes.
use Rattle.std.proofs.Common.{◌≡◌, refl, sym, ◌∙◌, ap, subst, ℕ, ◌+◌, ◌<◌, ◌≤◌, ⊎_elim, Bool, false, List, [], length, drop, Contains, Option, Some, None, arith}
use Rattle.std.specs.List.{AllByRecursion}
use Rattle.std.specs.Option.{option_map}
use Rattle.std.proofs.lemmas.Bool.{cases_lt}
use Rattle.std.proofs.lemmas.List.{get_or_past, length-drop}
use Rattle.std.proofs.lemmas.Option.{same_Some, slice_get_within}
use Rattle.fm_base.proofs.ContainsFacts.{Contains-none}
use Rattle.fm_chain.proofs.WithoutChains.{none_looped}
use Rattle.fm_chain.specs.Chaining.{plan_has_chain}
use Rattle.fm_code.specs.Members.{code_of, MethodIsValid}
use Rattle.fm_code.specs.declared.class_file.ClassDef.{ClassDef}
use Rattle.fm_code.specs.declared.class_file.Member.{Member}
use Rattle.fm_code.specs.declared.code_array.Code.{Code}
use Rattle.fm_code.specs.declared.constant_pool.Entry.{Entry}
use Rattle.fm_conn.specs.Facts.{Facts}
use Rattle.fm_conn.specs.Links.{typed_method}
use Rattle.fm_conn.specs.Nodes.{TypedMethod}
use Rattle.fm_place.specs.Insertions.{before_at, Insertions}
use Rattle.fm_place.specs.Rewriting.{first_given, marks_with, Plans}
use Rattle.fm_place.specs.Safe.{AreSafe}
use Rattle.fm_place_weave.specs.declared.planned.Planned.{Planned}
use Rattle.fm_place_weave.specs.declared.planned.Planned.TheVariants as planned
use Rattle.fm_law_spelled.specs.Changed.{IsShort}
use Rattle.fm_rewrite.proofs.JudgedLemmas.{judged_analysable, judged_old, judged_spelled}
use Rattle.fm_rewrite.proofs.MeantLemmas.{codes_own}
use Rattle.fm_rewrite.proofs.ProgramMeantLemmas.{code_given, methods_counted}
use Rattle.fm_rewrite.specs.FreeCalls.{first_call}
use Rattle.fm_rewrite.specs.Plans.{HasOldItems, planned_at}
use Rattle.fm_rewrite.specs.Rewritten.{AreJudged}
use Rattle.fm_rewrite.specs.inner.ByPlans.{classes_by, method_count}
use Rattle.fm_summ_shapes.proofs.ShapesLemmas.{code_facts}
use Rattle.fm_summ_shapes.specs.Analysed.{AreAnalysable}
use Rattle.fm_world.specs.Programs.{code_at, Program, program_of}
use Rattle.fm_audit.specs.SafeMethods.{AreSafelyInserted}
use Rattle.fm_audit.specs.SafePlans.{IsListedIn}
use Rattle.fm_audit.specs.declared.methods.NewCode.{NewCode}
use Rattle.fm_audit_classes.proofs.NumberedLemmas.{classes_each}
use Rattle.fm_audit_classes.proofs.WovenClassLemmas.{classes_are, may_be_compared_each}
use Rattle.fm_audit_classes.specs.Audited.{AreSafelyWritten, AreSafePlans}
use Rattle.fm_audit_classes.specs.inner.Compared.{MayBeComparedEach}
use Rattle.fm_audit_classes.specs.inner.Inserted.{AreAllInserted, IsInserted}

-- ---- holders

-- no holder of insertions that are safe holds a chain
pub safe_plain : (p : Program) (facts : Facts) (plans : Plans) → AreSafePlans p facts plans → (method : ℕ) → plan_has_chain (plans method) ≡ false
safe_plain p facts plans safe method = by_plan (plans method) refl where
  by_plan : (o : Option Insertions) → plans method ≡ o → plan_has_chain o ≡ false
  by_plan None is = refl
  by_plan (Some ins) is = none_looped ins.holders (safe method ins is).plain

pub no_chain : (p : Program) (new : List NewCode) (done : List Planned) (are : AreSafelyInserted p new done) (method : ℕ)
    → plan_has_chain (are.plans method) ≡ false
no_chain p new done are = safe_plain p are.facts are.plans are.methods

-- ---- one method

module _ (p : Program) (new : List NewCode) (done : List Planned) (may : AreAnalysable p) (old : HasOldItems p)
    (are : AreSafelyInserted p new done) where
  -- what is inserted into a method that has this code is safe
  pub safe_in : (method : ℕ) (code : Code) (ins : Insertions) → code_at p method ≡ Some code → are.plans method ≡ Some ins
      → AreSafe are.facts (typed_method p are.facts.typing method code) ins
  safe_in method code ins is planned_is =
      let safe = are.methods method ins planned_is in
      let same : typed_method p are.facts.typing method code ≡ safe.x =
      same_Some (typed_method p are.facts.typing method code) safe.x
      (sym (ap (option_map (typed_method p are.facts.typing method)) is) ∙ safe.is) in
      subst (λ (x : TypedMethod). AreSafe are.facts x ins) (sym same) safe.safe

  -- what is freed is a holder
  freed_inside : (method : ℕ) (code : Code) (ins : Insertions) → AreSafe are.facts (typed_method p are.facts.typing method code) ins
      → (j number : ℕ) → Contains (before_at ins j) number → number < length ins.holders
  freed_inside method code ins safe j number found = ⊎_elim
      (λ (inside : j < length ins.before).
      let freed = (safe.items j (omega (arith, inside, safe.one_each))).may number found in slice_get_within ins.holders number freed.holder freed.is)
      (λ (past : length ins.before ≤ j).
      absurd (Contains-none number (subst (λ (numbers : List ℕ). Contains numbers number) (get_or_past ins.before j [] past) found)))
      (cases_lt j (length ins.before))

  inserted : (in_interface : Bool) (entries : List Entry) (method : ℕ) (m : Member) → MethodIsValid in_interface entries m → code_at p method ≡ code_of m
      → IsInserted (are.plans method) (planned_at done method) m
  inserted in_interface entries method m valid at_number = by_code (code_at p method) refl where
    with_code : (code : Code) → code_at p method ≡ Some code → (o : Option Insertions) (d : Planned) → are.plans method ≡ o → IsListedIn code o d
        → IsInserted o d m
    with_code code is None planned.Same planned_is listed = tt
    with_code code is None (planned.Woven plan) planned_is listed = absurd listed
    with_code code is None (planned.TooLong bytes chains) planned_is listed = absurd listed
    with_code code is (Some ins) planned.Same planned_is listed = absurd listed
    with_code code is (Some ins) (planned.Woven plan) planned_is listed =
        let coded : code_of m ≡ Some code = sym at_number ∙ is in
        let safe = safe_in method code ins is planned_is in
        record {
          code = code;
          coded = coded;
          own = codes_own in_interface entries m code valid coded;
          whole = listed;
          plain = sym (ap plan_has_chain planned_is) ∙ no_chain p new done are method;
          old_items = old method code is;
          rules = (code_facts p method code may is).0.spelled;
          room = safe.room;
          before = freed_inside method code ins safe;
        }
    with_code code is (Some ins) (planned.TooLong bytes chains) planned_is listed = absurd listed

    by_code : (o : Option Code) → code_at p method ≡ o → IsInserted (are.plans method) (planned_at done method) m
    by_code None is =
        let none = are.others method is in
        subst (λ o. IsInserted o (planned_at done method) m) (sym none.0) (subst (λ d. IsInserted None d m) (sym none.1) tt)
    by_code (Some code) is = with_code code is (are.plans method) (planned_at done method) refl (are.listed method code is)

-- ---- the program

module _ (given : List ClassDef) (p : Program) (new : List NewCode) (done : List Planned) (judged : AreJudged given p) (are : AreSafelyInserted p new done) where
  counted : length done ≡ first_given + method_count given
  counted = are.one_each ∙ methods_counted given judged.main p judged.program_is

  pub all_inserted : AreAllInserted are.plans first_given (drop first_given done) given
  all_inserted =
      classes_each p (λ n d m. IsInserted (are.plans n) d m) done
      (inserted p new done (judged_analysable given p judged) (judged_old given p judged) are) first_given given
      (judged_spelled given p judged) (λ i inside. code_given given judged.main p judged.program_is i) (omega (arith, counted))

  parts : AllByRecursion IsShort given
      → (length done ≡ first_given + method_count given) × (length (drop first_given done) ≡ method_count given) × MayBeComparedEach (drop first_given done) given
  parts short = (
    counted,
    let left = length-drop first_given done in omega (arith, left, counted),
    may_be_compared_each are.plans (no_chain p new done are) first_given (drop first_given done) given (judged_spelled given p judged) short all_inserted,
  )

-- the program that isn't narrowed
module _ (given : List ClassDef) (main : List ℕ) (new : List NewCode) (done : List Planned) (judged : AreJudged given (program_of given main))
    (are : AreSafelyInserted (program_of given main) new done) where
  written_safely : (written : List ClassDef) → first_call (program_of given main) ≡ None → written ≡ classes_by (drop first_given done) given
      → AreSafelyWritten given main written
  written_safely written no_call is = record {
    no_call = no_call;
    marks = marks_with are.plans given;
    safe = record {
      facts = are.facts;
      exact = are.exact;
      plans = are.plans;
      methods = are.methods;
      written_is =
          is ∙ classes_are are.plans (no_chain (program_of given main) new done are) first_given (drop first_given done) given
          (all_inserted given (program_of given main) new done judged are);
      marks_are = refl;
    };
    least = are.least;
  }

-- ---- as the code has it

-- how many plans there are, how many of given classes, and that these can be compared
pub record AreParts (given : List ClassDef) (done : List Planned) : Type 0 where
  pub all : length done ≡ first_given + method_count given
  pub own : length (drop first_given done) ≡ method_count given
  pub compared : MayBeComparedEach (drop first_given done) given

pub parts_of : (given : List ClassDef) (p : Program) (new : List NewCode) (done : List Planned) → AreJudged given p → AllByRecursion IsShort given
    → AreSafelyInserted p new done → AreParts given done
parts_of given p new done judged short are =
    let found = parts given p new done judged are short in record { all = found.0; own = found.1; compared = found.2 }

pub audited : (given : List ClassDef) (p : Program) (new : List NewCode) (done : List Planned) (written : List ClassDef) → AreJudged given p
    → AreSafelyInserted p new done → first_call p ≡ None → written ≡ classes_by (drop first_given done) given → (main : List ℕ) → p ≡ program_of given main → AreSafelyWritten given main written
audited given p new done written judged are no_call is main program_is =
    written_safely given main new done (subst (AreJudged given) program_is judged) (subst (λ q. AreSafelyInserted q new done) program_is are) written
    (sym (ap first_call program_is) ∙ no_call) is
