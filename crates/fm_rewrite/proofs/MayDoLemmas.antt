-- What is planned for the methods of classes may be done, and its counts fit a word of 32 bits.
use Rattle.std.proofs.Common.{◌≡◌, refl, sym, ap, ◌∙◌, subst, ℕ, zero, suc, ◌+◌, ◌*◌, ◌<◌, ◌≤◌, Bool, true, false, cond, List, [], ◌∷◌, length, Option, Some, None, arith}
use Rattle.std.specs.Prelude.{nat_eq, nat_lt}
use Rattle.std.specs.List.{AllByRecursion}
use Rattle.std.proofs.lemmas.Bool.{ltb-false}
use Rattle.fm_summ_shapes.proofs.ShapesLemmas.{code_facts}
use Rattle.fm_summ_shapes.specs.Analysed.{AreAnalysable}
use Rattle.fm_chain.specs.Planned.{has_chain}
use Rattle.fm_chain.specs.declared.calls.Calls.{Calls}
use Rattle.fm_chain.specs.declared.plans.ChainPlan.{ChainPlan}
use Rattle.fm_code.specs.AccessFlags.{is_interface}
use Rattle.fm_code.specs.Members.{MethodIsValid}
use Rattle.fm_code.specs.Spells.{HasSpelling}
use Rattle.fm_code.specs.declared.class_file.ClassDef.{ClassDef}
use Rattle.fm_code.specs.declared.class_file.Member.{Member}
use Rattle.fm_code.specs.declared.class_file.MemberAttr.{MemberAttr}
use Rattle.fm_code.specs.declared.class_file.MemberAttr.TheVariants as attribute
use Rattle.fm_code.specs.declared.code_array.Code.{Code}
use Rattle.fm_code.specs.declared.code_array.TheConstants.{MAX_CODE_BYTES}
use Rattle.fm_code.specs.declared.constant_pool.Entry.{Entry}
use Rattle.fm_conn.specs.Facts.{Facts}
use Rattle.fm_conn.specs.Links.{typed_method}
use Rattle.fm_rewrite.proofs.FullPlanLemmas.{full_may_be_woven, has_room, held_for, whole}
use Rattle.fm_rewrite.proofs.MeantLemmas.{codes_own}
use Rattle.fm_rewrite.specs.Alike.{ArePlannedFrom, IsOwnCode, IsPlannedAt}
use Rattle.fm_rewrite.specs.Plans.{CallsFit, HasOldItems, inserted_for, IsPlannedByFacts}
use Rattle.fm_rewrite.specs.inner.ByPlans.{frees_by, frees_of_one, HasFlags, HaveCounts, HaveFlags, MayDoEach, others, own, sites_by, sites_of_one}
use Rattle.fm_rewrite.specs.inner.Meant.{AreAllPlanned}
use Rattle.fm_place.specs.Insertions.{all_insertions}
use Rattle.fm_place_weave.proofs.FreesLemmas.{frees_within}
use Rattle.fm_place_weave.specs.ByPlan.{narrow_by, planned_by}
use Rattle.fm_place_weave.specs.ClassByPlan.{MayDo, MayDoAll, MayWeave}
use Rattle.fm_place_weave.specs.Conditions.{MayBeWoven}
use Rattle.fm_place_weave.specs.declared.planned.Planned.{Planned}
use Rattle.fm_place_weave.specs.declared.planned.Planned.TheVariants as planned
use Rattle.fm_world.specs.Programs.{code_at, Program}

positive : (n : ℕ) → nat_eq n 0 ≡ false → 0 < n
positive zero is = absurd cc
positive (suc n) is = omega arith

-- ---- attributes

may_weave : (calls : Calls) (code : Code) (plan : ChainPlan) → MayBeWoven calls code plan → (attributes : List MemberAttr)
    → AllByRecursion (IsOwnCode code) attributes → AllByRecursion (MayWeave calls plan) attributes
may_weave calls code plan may [] all = tt
may_weave calls code plan may (attribute.Coded name own ∷ rest) all =
    (subst (λ c. MayBeWoven calls c plan) (sym all.0) may, may_weave calls code plan may rest all.1)
may_weave calls code plan may (attribute.Constant name value ∷ rest) all = (tt, may_weave calls code plan may rest all.1)
may_weave calls code plan may (attribute.Other raw ∷ rest) all = (tt, may_weave calls code plan may rest all.1)

-- ---- by the tests of a plan

-- what is to be done by a plan, by whether no site is held, and whether its code is too long
abbrev by_plan : (none long : Bool) → ℕ → ChainPlan → Planned
by_plan none long bytes plan = cond none planned.Same (cond long (planned.TooLong bytes (has_chain plan)) (planned.Woven plan))

do_tests : (calls : Calls) (plan : ChainPlan) (bytes : ℕ) (m : Member) (none long : Bool)
    → (none ≡ false → AllByRecursion (MayWeave calls plan) m.attributes) → MayDo calls (by_plan none long bytes plan) m
do_tests calls plan bytes m true long may = tt
do_tests calls plan bytes m false true may = tt
do_tests calls plan bytes m false false may = may refl

-- the counts of one method
record IsSmall (done : Planned) : Type 0 where
  sites : sites_of_one done ≤ 65535
  frees : frees_of_one done ≤ 65535

small_tests : (plan : ChainPlan) (bytes : ℕ) (none long : Bool) → plan.plan.holders ≤ 65535 → (long ≡ false → length plan.plan.before.items ≤ 65535)
    → IsSmall (by_plan none long bytes plan)
small_tests plan bytes true long sites frees = record { sites = omega arith; frees = omega arith }
small_tests plan bytes false true sites frees = record { sites = omega arith; frees = omega arith }
small_tests plan bytes false false sites frees = record { sites = sites; frees = frees refl }

-- there is a flag for each holder
flags_tests : (plan : ChainPlan) (bytes : ℕ) (none long : Bool) → plan.plan.holders ≤ length plan.looped → HasFlags (by_plan none long bytes plan)
flags_tests plan bytes true long flags = tt
flags_tests plan bytes false true flags = tt
flags_tests plan bytes false false flags = flags

-- ---- methods

module _ (p : Program) (facts : Facts) (may : AreAnalysable p) (old : HasOldItems p) where
  do_coded : (chains : Bool) (calls : Calls) (method : ℕ) (code : Code) (done : Planned) (m : Member) → CallsFit calls → code_at p method ≡ Some code
      → AllByRecursion (IsOwnCode code) m.attributes → IsPlannedByFacts p facts method code chains done → MayDo calls done m
  do_coded chains calls method code done m fits is all by =
      let x = typed_method p facts.typing method code in
      let known = code_facts p method code may is in
      let held = held_for facts x by.plan by.plan_is chains in
      subst (λ d. MayDo calls d m) (sym (by.planned_is ∙ ap (planned_by code) by.held_is))
      (do_tests calls held (narrow_by code held) m (nat_eq by.plan.holders 0) (nat_lt MAX_CODE_BYTES (narrow_by code held))
      (λ some.
      may_weave calls code held
      (full_may_be_woven calls facts x by.plan chains held fits (old method code is) known.0.spelled known.1 by.plan_is refl (positive by.plan.holders some))
      m.attributes all))

  do_member : (in_interface : Bool) (entries : List Entry) (chains : Bool) (calls : Calls) (method : ℕ) (done : Planned) (m : Member) → CallsFit calls
      → MethodIsValid in_interface entries m → IsPlannedAt p facts chains method done m → MayDo calls done m
  do_member in_interface entries chains calls method done m fits valid at_number = by_code (code_at p method) refl where
    by_code : (o : Option Code) → code_at p method ≡ o → MayDo calls done m
    by_code None is = subst (λ d. MayDo calls d m) (sym (at_number.others is)) tt
    by_code (Some code) is =
        do_coded chains calls method code done m fits is (codes_own in_interface entries m code valid (sym at_number.coded ∙ is)) (at_number.by code is)

  do_members : (in_interface : Bool) (entries : List Entry) (chains : Bool) (calls : Calls) (first : ℕ) (done : List Planned) (methods : List Member) → CallsFit calls
      → AllByRecursion (MethodIsValid in_interface entries) methods → ArePlannedFrom p facts chains first done methods → MayDoAll calls done methods
  do_members in_interface entries chains calls first [] [] fits valid are = tt
  do_members in_interface entries chains calls first [] (m ∷ methods) fits valid are = absurd are
  do_members in_interface entries chains calls first (d ∷ done) [] fits valid are = absurd are
  do_members in_interface entries chains calls first (d ∷ done) (m ∷ methods) fits valid are = (
    do_member in_interface entries chains calls first d m fits valid.0 are.0,
    do_members in_interface entries chains calls (first + 1) done methods fits valid.1 are.1,
  )

  pub may_do_each : (chains : Bool) (first : ℕ) (done : List Planned) (classes : List ClassDef) → AllByRecursion HasSpelling classes
      → AreAllPlanned p facts chains first done classes → MayDoEach done classes
  may_do_each chains first done [] spelled are = tt
  may_do_each chains first done (c ∷ classes) spelled are = (
    λ calls fits. do_members (is_interface c.flags) c.pool.entries chains calls first (own c done) c.methods fits spelled.0.1.methods are.0,
    may_do_each chains (first + length c.methods) (others c done) classes spelled.1 are.1,
  )

  -- ---- counts

  small_coded : (chains : Bool) (method : ℕ) (code : Code) (done : Planned) → code_at p method ≡ Some code → IsPlannedByFacts p facts method code chains done
      → IsSmall done × HasFlags done
  small_coded chains method code done is by =
      let x = typed_method p facts.typing method code in
      let known = code_facts p method code may is in
      let held = held_for facts x by.plan by.plan_is chains in
      let room = has_room facts x by.plan by.plan_is chains (old method code is) known.0.spelled known.1.locals in
      let holders = room.holders in
      let within = frees_within code (inserted_for chains code (all_insertions facts x)) held (whole facts x by.plan by.plan_is chains) in
      subst (λ d. IsSmall d × HasFlags d) (sym (by.planned_is ∙ ap (planned_by code) by.held_is)) (
        small_tests held (narrow_by code held) (nat_eq by.plan.holders 0) (nat_lt MAX_CODE_BYTES (narrow_by code held)) (omega (arith, holders))
            (λ short. let few = ltb-false MAX_CODE_BYTES (narrow_by code held) short in omega (arith, within, few)),
        flags_tests held (narrow_by code held) (nat_eq by.plan.holders 0) (nat_lt MAX_CODE_BYTES (narrow_by code held)) room.flags,
      )

  small_member : (chains : Bool) (method : ℕ) (done : Planned) (m : Member) → IsPlannedAt p facts chains method done m → IsSmall done
  small_member chains method done m at_number = by_code (code_at p method) refl where
    by_code : (o : Option Code) → code_at p method ≡ o → IsSmall done
    by_code None is = subst IsSmall (sym (at_number.others is)) (record { sites = omega arith; frees = omega arith })
    by_code (Some code) is = (small_coded chains method code done is (at_number.by code is)).0

  flags_member : (chains : Bool) (method : ℕ) (done : Planned) (m : Member) → IsPlannedAt p facts chains method done m → HasFlags done
  flags_member chains method done m at_number = by_code (code_at p method) refl where
    by_code : (o : Option Code) → code_at p method ≡ o → HasFlags done
    by_code None is = subst HasFlags (sym (at_number.others is)) tt
    by_code (Some code) is = (small_coded chains method code done is (at_number.by code is)).1

  flags_members : (chains : Bool) (first : ℕ) (done : List Planned) (methods : List Member) → ArePlannedFrom p facts chains first done methods
      → AllByRecursion HasFlags done
  flags_members chains first [] methods are = tt
  flags_members chains first (d ∷ done) [] are = absurd are
  flags_members chains first (d ∷ done) (m ∷ methods) are =
      (flags_member chains first d m are.0, flags_members chains (first + 1) done methods are.1)

  -- each method that is woven has a flag for each holder
  pub have_flags : (chains : Bool) (first : ℕ) (done : List Planned) (classes : List ClassDef) → AreAllPlanned p facts chains first done classes
      → HaveFlags done classes
  have_flags chains first done [] are = tt
  have_flags chains first done (c ∷ classes) are =
      (flags_members chains first (own c done) c.methods are.0, have_flags chains (first + length c.methods) (others c done) classes are.1)

  small_members : (chains : Bool) (first : ℕ) (done : List Planned) (methods : List Member) → ArePlannedFrom p facts chains first done methods
      → (sites_by done ≤ 65535 * length methods) × (frees_by done ≤ 65535 * length methods)
  small_members chains first [] [] are = (omega arith, omega arith)
  small_members chains first [] (m ∷ methods) are = absurd are
  small_members chains first (d ∷ done) [] are = absurd are
  small_members chains first (d ∷ done) (m ∷ methods) are =
      let one = small_member chains first d m are.0 in
      let rest = small_members chains (first + 1) done methods are.1 in
      (omega (arith, one.sites, rest.0), omega (arith, one.frees, rest.1))

  pub have_counts : (chains : Bool) (first : ℕ) (done : List Planned) (classes : List ClassDef) → AllByRecursion HasSpelling classes
      → AreAllPlanned p facts chains first done classes → HaveCounts done classes
  have_counts chains first done [] spelled are = tt
  have_counts chains first done (c ∷ classes) spelled are =
      let few = spelled.0.1.fits.methods.count in
      let small = small_members chains first (own c done) c.methods are.0 in (
        record { sites = omega (arith, small.0, few); frees = omega (arith, small.1, few) },
        have_counts chains (first + length c.methods) (others c done) classes spelled.1 are.1,
      )
