-- What is planned for a method by the facts of its program is what the definitions insert by them.
use Rattle.std.proofs.Common.{◌≡◌, refl, sym, ◌∙◌, ap, subst, ℕ, ◌≤◌, ◌||◌, Bool, true, false, cond, List, [], ◌∷◌, Option, Some, None, arith, if◌then◌else◌}
use Rattle.std.specs.Prelude.{nat_eq, nat_lt, option_and_then, option_map}
use Rattle.std.specs.List.{AllByRecursion, count_by}
use Rattle.std.specs.Option.{option_or}
use Rattle.std.proofs.lemmas.Bool.{lt-ltb, ltb-true}
use Rattle.std.proofs.lemmas.List.Sums.{sum_by-cons}
use Rattle.fm_chain.proofs.PlanLaws.{plans_have_the_chains}
use Rattle.fm_chain.specs.Chained.{chained}
use Rattle.fm_chain.specs.Planned.{has_chain as planned_chain}
use Rattle.fm_chain.specs.SafeChains.{looped_plan}
use Rattle.fm_chain.specs.declared.calls.Calls.{Calls}
use Rattle.fm_chain.specs.declared.plans.ChainPlan.{ChainPlan}
use Rattle.fm_code.specs.AccessFlags.{is_abstract, is_native}
use Rattle.fm_code.specs.Members.{code_of, is_coded, MethodIsValid}
use Rattle.fm_code.specs.declared.class_file.Member.{Member}
use Rattle.fm_code.specs.declared.class_file.MemberAttr.{MemberAttr}
use Rattle.fm_code.specs.declared.class_file.MemberAttr.TheVariants as attribute
use Rattle.fm_code.specs.declared.code_array.Code.{Code}
use Rattle.fm_code.specs.declared.code_array.TheConstants.{MAX_CODE_BYTES}
use Rattle.fm_code.specs.declared.constant_pool.Entry.{Entry}
use Rattle.fm_conn.specs.Facts.{Facts}
use Rattle.fm_conn.specs.Links.{typed_method}
use Rattle.fm_layout.proofs.LayoutLemmas.{refused_narrow}
use Rattle.fm_layout.specs.Laid.{IsCause, laid_length, narrow_length, refused_length}
use Rattle.fm_layout.specs.declared.error.LayFail.TheVariants as fail
use Rattle.fm_layout.specs.declared.new_items.NewItem.{NewItem}
use Rattle.fm_place.proofs.PlanLemmas.{holders_tell_full}
use Rattle.fm_place.specs.Insertions.{all_insertions, full_insertions, Insertions}
use Rattle.fm_place.specs.Safe.{full_plans}
use Rattle.fm_read_limits.proofs.LimitLemmas.{code_is, first_code}
use Rattle.fm_rewrite.proofs.FullPlanLemmas.{held_for, whole}
use Rattle.fm_rewrite.specs.Alike.{IsOwnCode, IsPlannedAt}
use Rattle.fm_rewrite.specs.Plans.{inserted_for, IsPlannedByFacts}
use Rattle.fm_rewrite.specs.Causes.{long_code, long_method, plans_for}
use Rattle.fm_rewrite.specs.inner.Meant.{IsMeant}
use Rattle.fm_place_weave.proofs.NarrowLemmas.{narrow-is}
use Rattle.fm_place_weave.proofs.PlanLemmas.{items-is}
use Rattle.fm_place_weave.specs.ByPlan.{narrow_by, planned_by}
use Rattle.fm_place_weave.specs.ClassByPlan.{long_attribute, long_attributes}
use Rattle.fm_place_weave.specs.ClassLaws.{IsPlanIn}
use Rattle.fm_place_weave.specs.Laws.{IsWholePlan}
use Rattle.fm_place_weave.specs.declared.planned.Planned.{Planned}
use Rattle.fm_place_weave.specs.declared.planned.Planned.TheVariants as planned
use Rattle.fm_world.specs.Programs.{code_at, Program}

-- ---- the attributes of a method

-- an attribute that is code, by its plan
plan_in : (code : Code) (ins : Insertions) (plan : ChainPlan) → IsWholePlan code ins plan → (a : MemberAttr) → IsOwnCode code a → IsPlanIn ins plan a
plan_in code ins plan is (attribute.Coded name own) same = subst (λ c. IsWholePlan c ins plan) (sym same) is
plan_in code ins plan is a own = tt

pub plans_in : (code : Code) (ins : Insertions) (plan : ChainPlan) → IsWholePlan code ins plan → (attributes : List MemberAttr)
    → AllByRecursion (IsOwnCode code) attributes → AllByRecursion (IsPlanIn ins plan) attributes
plans_in code ins plan is [] all = tt
plans_in code ins plan is (a ∷ attributes) all = (plan_in code ins plan is a all.0, plans_in code ins plan is attributes all.1)

-- by the words of a method's flags it has at most one code
at_most_one : (b : Bool) (n : ℕ) → n ≡ cond b 0 1 → n ≤ 1
at_most_one true n is = omega (arith, is)
at_most_one false n is = omega (arith, is)

no_codes : (code : Code) (attributes : List MemberAttr) → count_by is_coded attributes ≤ 0 → AllByRecursion (IsOwnCode code) attributes
no_codes code [] none = tt
no_codes code (attribute.Coded name own ∷ rest) none =
    absurd (let more = sum_by-cons (λ (a : MemberAttr). cond (is_coded a) 1 0) (attribute.Coded name own) rest in omega (arith, none, more))
no_codes code (attribute.Constant name value ∷ rest) none =
    let more = sum_by-cons (λ (a : MemberAttr). cond (is_coded a) 1 0) (attribute.Constant name value) rest in
    (tt, no_codes code rest (omega (arith, none, more)))
no_codes code (attribute.Other raw ∷ rest) none =
    let more = sum_by-cons (λ (a : MemberAttr). cond (is_coded a) 1 0) (attribute.Other raw) rest in
    (tt, no_codes code rest (omega (arith, none, more)))

own_codes : (code : Code) (attributes : List MemberAttr) → count_by is_coded attributes ≤ 1 → first_code attributes ≡ Some code
    → AllByRecursion (IsOwnCode code) attributes
own_codes code [] few is = tt
own_codes code (attribute.Coded name own ∷ rest) few is =
    let same : own ≡ code = cc in
    let more = sum_by-cons (λ (a : MemberAttr). cond (is_coded a) 1 0) (attribute.Coded name own) rest in
    (same, no_codes code rest (omega (arith, few, more)))
own_codes code (attribute.Constant name value ∷ rest) few is =
    let more = sum_by-cons (λ (a : MemberAttr). cond (is_coded a) 1 0) (attribute.Constant name value) rest in
    (tt, own_codes code rest (omega (arith, few, more)) is)
own_codes code (attribute.Other raw ∷ rest) few is =
    let more = sum_by-cons (λ (a : MemberAttr). cond (is_coded a) 1 0) (attribute.Other raw) rest in
    (tt, own_codes code rest (omega (arith, few, more)) is)

-- each attribute that is code is the method's
pub codes_own : (in_interface : Bool) (entries : List Entry) (m : Member) (code : Code) → MethodIsValid in_interface entries m → code_of m ≡ Some code
    → AllByRecursion (IsOwnCode code) m.attributes
codes_own in_interface entries m code valid is =
    own_codes code m.attributes (at_most_one (is_abstract m.flags || is_native m.flags) (count_by is_coded m.attributes) valid.coded) (sym (code_is m) ∙ is)

-- ---- codes that are too long

or_same : (o : Option ℕ) → option_or o o ≡ o
or_same None = refl
or_same (Some n) = refl

or_none : (o : Option ℕ) → option_or o None ≡ o
or_none None = refl
or_none (Some n) = refl

-- the result for each code is the same, or there is none at all
long_rest : (calls : Calls) (plan : ChainPlan) (code : Code) (attributes : List MemberAttr) → AllByRecursion (IsOwnCode code) attributes
    → option_or (long_attribute calls plan (attribute.Coded 0 code)) (long_attributes calls plan attributes) ≡ long_attribute calls plan (attribute.Coded 0 code)
long_rest calls plan code [] all = or_none (long_attribute calls plan (attribute.Coded 0 code))
long_rest calls plan code (attribute.Coded name own ∷ rest) all =
    let told = long_attribute calls plan (attribute.Coded 0 code) in
    let same : long_attribute calls plan (attribute.Coded name own) ≡ told = ap (λ c. long_attribute calls plan (attribute.Coded 0 c)) all.0 in
    ap (λ o. option_or told (option_or o (long_attributes calls plan rest))) same ∙ ap (option_or told) (long_rest calls plan code rest all.1) ∙ or_same told
long_rest calls plan code (attribute.Constant name value ∷ rest) all = long_rest calls plan code rest all.1
long_rest calls plan code (attribute.Other raw ∷ rest) all = long_rest calls plan code rest all.1

long_first : (calls : Calls) (plan : ChainPlan) (code : Code) (attributes : List MemberAttr) → AllByRecursion (IsOwnCode code) attributes
    → first_code attributes ≡ Some code → long_attributes calls plan attributes ≡ long_attribute calls plan (attribute.Coded 0 code)
long_first calls plan code [] all is = absurd cc
long_first calls plan code (attribute.Coded name own ∷ rest) all is =
    ap (λ c. option_or (long_attribute calls plan (attribute.Coded 0 c)) (long_attributes calls plan rest)) all.0 ∙ long_rest calls plan code rest all.1
long_first calls plan code (attribute.Constant name value ∷ rest) all is = long_first calls plan code rest all.1 is
long_first calls plan code (attribute.Other raw ∷ rest) all is = long_first calls plan code rest all.1 is

-- how long code of these new items would be, where that is too long
abbrev pub long_items : Code → List NewItem → Option ℕ
long_items code items = cond (nat_lt MAX_CODE_BYTES (laid_length code.items items)) (Some (refused_length code.items items)) None

-- a refusal names its cause
long_told : (code : Code) (items : List NewItem) (n : ℕ) → IsCause code.items items (fail.TooLong n) → long_items code items ≡ Some n
long_told code items n cause =
    ap (λ b. cond b (Some (refused_length code.items items)) None) (lt-ltb MAX_CODE_BYTES (laid_length code.items items) cause.0) ∙ ap Some (sym cause.1)

module _ (code : Code) (ins : Insertions) (plan : ChainPlan) (is : IsWholePlan code ins plan) (m : Member) (coded : code_of m ≡ Some code) where
  -- by its plan a method is too long where it is by the insertions
  long_woven : AllByRecursion (IsOwnCode code) m.attributes → (calls : Calls) → long_attributes calls plan m.attributes ≡ long_method calls (Some ins) m
  long_woven all calls =
      long_first calls plan code m.attributes all (sym (code_is m) ∙ coded) ∙ ap (long_items code) (items-is calls code ins plan is)
      ∙ sym (ap (option_and_then (long_code calls ins)) coded)

  -- what is too long already while no branch is widened is too long
  long_narrow : nat_lt MAX_CODE_BYTES (narrow_by code plan) ≡ true → (calls : Calls) → long_method calls (Some ins) m ≡ Some (narrow_by code plan)
  unfolding narrow_length
  long_narrow long calls =
      let items = chained calls code ins in
      let narrow : narrow_by code plan ≡ narrow_length code.items items =
      narrow-is calls code plan ∙ ap (narrow_length code.items) (items-is calls code ins plan is) in
      ap (option_and_then (long_code calls ins)) coded
      ∙ long_told code items (narrow_by code plan)
      (refused_narrow code.items items (narrow_by code plan) narrow (ltb-true MAX_CODE_BYTES (narrow_by code plan) long))

  -- by whether a site is held, and whether the method is too long
  by_tests : AllByRecursion (IsOwnCode code) m.attributes → (none long : Bool) → nat_lt MAX_CODE_BYTES (narrow_by code plan) ≡ long
      → IsMeant (cond none None (Some ins)) (cond none planned.Same (cond long (planned.TooLong (narrow_by code plan) (planned_chain plan)) (planned.Woven plan))) m
  by_tests own true long tested = tt
  by_tests own false true tested = record { long = long_narrow tested; chains_are = plans_have_the_chains ins plan is.plan_is }
  by_tests own false false tested =
      record { plan_is = is.plan_is; attributes = plans_in code ins plan is m.attributes own; long = long_woven own }

-- ---- methods

-- a plan that there is, with chains or without
some_plan : (chains none : Bool) (code : Code) (ins : Insertions)
    → (if chains then looped_plan (Some code) (cond none None (Some ins)) else cond none None (Some ins)) ≡ cond none None (Some (inserted_for chains code ins))
some_plan false none code ins = refl
some_plan true true code ins = refl
some_plan true false code ins = refl

-- a method that has code
coded_meant : (p : Program) (facts : Facts) (chains : Bool) (method : ℕ) (code : Code) (done : Planned) (m : Member) → code_at p method ≡ Some code
    → code_of m ≡ Some code → AllByRecursion (IsOwnCode code) m.attributes → IsPlannedByFacts p facts method code chains done
    → IsMeant (plans_for chains p facts method) done m
coded_meant p facts chains method code done m is coded own by =
    let x = typed_method p facts.typing method code in
    let ins = all_insertions facts x in
    let held = held_for facts x by.plan by.plan_is chains in
    let none = nat_eq by.plan.holders 0 in
    let plain : full_plans p facts method ≡ cond none None (Some ins) =
    ap (λ o. option_and_then (full_insertions facts) (option_map (typed_method p facts.typing method) o)) is ∙ holders_tell_full facts x by.plan by.plan_is in
    let plans : plans_for chains p facts method ≡ cond none None (Some (inserted_for chains code ins)) =
    for_chains chains (full_plans p facts method)
    ∙ (λ k. if chains then looped_plan (is k) (plain k) else plain k) ∙ some_plan chains none code ins in
    subst (λ o. IsMeant o done m) (sym plans)
    (subst (λ d. IsMeant (cond none None (Some (inserted_for chains code ins))) d m) (sym (by.planned_is ∙ ap (planned_by code) by.held_is))
    (by_tests code (inserted_for chains code ins) held (whole facts x by.plan by.plan_is chains) m coded own none (nat_lt MAX_CODE_BYTES (narrow_by code held)) refl)) where
      for_chains : (b : Bool) (plan : Option Insertions) → plans_for b p facts method ≡ (if b then looped_plan (code_at p method) (full_plans p facts method) else full_plans p facts method)
      for_chains true plan = refl
      for_chains false plan = refl

-- a method of a class file, with code or without
pub member_meant : (in_interface : Bool) (entries : List Entry) (p : Program) (facts : Facts) (chains : Bool) (method : ℕ) (done : Planned) (m : Member)
    → MethodIsValid in_interface entries m → IsPlannedAt p facts chains method done m → IsMeant (plans_for chains p facts method) done m
member_meant in_interface entries p facts chains method done m valid at_number = by_code (code_at p method) refl where
  none_for : (b : Bool) → code_at p method ≡ None → plans_for b p facts method ≡ None
  none_for false is = ap (λ o. option_and_then (full_insertions facts) (option_map (typed_method p facts.typing method) o)) is
  none_for true is = ap (λ o. looped_plan o (full_plans p facts method)) is

  by_code : (o : Option Code) → code_at p method ≡ o → IsMeant (plans_for chains p facts method) done m
  by_code None is =
      subst (λ o. IsMeant o done m) (sym (none_for chains is)) (subst (λ d. IsMeant None d m) (sym (at_number.others is)) tt)
  by_code (Some code) is =
      let coded : code_of m ≡ Some code = sym at_number.coded ∙ is in
      coded_meant p facts chains method code done m is coded (codes_own in_interface entries m code valid coded) (at_number.by code is)
