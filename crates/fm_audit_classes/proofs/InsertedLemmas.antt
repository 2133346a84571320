-- What can be done with a method by insertions that have room.
use Rattle.std.proofs.Common.{◌≡◌, refl, sym, ◌∙◌, ap, subst, ℕ, ◌*◌, ◌<◌, ◌≤◌, Bool, true, false, cond, List, [], ◌∷◌, length, Option, Some, None, arith}
use Rattle.std.specs.Prelude.{nat_lt}
use Rattle.std.specs.List.{AllByRecursion}
use Rattle.std.proofs.lemmas.Bool.{ltb-false}
use Rattle.fm_chain.proofs.LaidChains.{chained_is_laid_out}
use Rattle.fm_chain.proofs.PlanLaws.{plans_have_the_chains}
use Rattle.fm_chain.specs.Chained.{added_words as words_of, chained}
use Rattle.fm_chain.specs.Laws.{CallsSuit}
use Rattle.fm_chain.specs.Planned.{added_words}
use Rattle.fm_chain.specs.declared.calls.Calls.{Calls}
use Rattle.fm_chain.specs.declared.plans.ChainPlan.{ChainPlan}
use Rattle.fm_code.specs.declared.class_file.Member.{Member}
use Rattle.fm_code.specs.declared.class_file.MemberAttr.{MemberAttr}
use Rattle.fm_code.specs.declared.class_file.MemberAttr.TheVariants as attribute
use Rattle.fm_code.specs.declared.code_array.TheConstants.{MAX_CODE_BYTES}
use Rattle.fm_flow.proofs.CodeFacts.{items_counted}
use Rattle.fm_layout.specs.Laid.{laid_length, refused_length}
use Rattle.fm_layout.specs.declared.laying.TheConstants.{MAX_NEW_ITEMS}
use Rattle.fm_layout.specs.declared.new_items.NewItem.{NewItem}
use Rattle.fm_law_spelled.specs.Changed.{AttributeCan, CanWeave, MethodCan}
use Rattle.fm_place.specs.Insertions.{Insertions}
use Rattle.fm_place.specs.Woven.{null_stored_items}
use Rattle.fm_place_weave.proofs.LengthLemmas.{number_by-is}
use Rattle.fm_place_weave.proofs.PlanLemmas.{items-is, may-be-woven}
use Rattle.fm_place_weave.specs.ByPlan.{items_by, number_by}
use Rattle.fm_place_weave.specs.ClassByPlan.{chains_in, long_attributes, long_code, long_method, MayDo, MayWeave}
use Rattle.fm_place_weave.specs.ClassLaws.{IsAlike}
use Rattle.fm_place_weave.specs.Conditions.{MayBeWoven}
use Rattle.fm_place_weave.specs.declared.planned.Planned.{Planned}
use Rattle.fm_place_weave.specs.declared.planned.Planned.TheVariants as planned
use Rattle.fm_rewrite.proofs.ClassMeantLemmas.{or_first, or_rest}
use Rattle.fm_rewrite.proofs.FullPlanLemmas.{number_few}
use Rattle.fm_rewrite.proofs.MeantLemmas.{plans_in}
use Rattle.fm_rewrite.specs.Alike.{IsOwnCode}
use Rattle.fm_rewrite.specs.Plans.{CallsFit}
use Rattle.fm_audit_classes.proofs.LowLemmas.{low_in}
use Rattle.fm_audit_classes.specs.inner.Inserted.{HasInsertions, IsInserted}
use Rattle.fm_audit_classes.specs.inner.Low.{is_low, IsLow}

-- ---- a code that isn't too long

-- new items that aren't refused are short enough
within_limit : (long refused : ℕ) → cond (nat_lt MAX_CODE_BYTES long) (Some refused) None ≡ None → long ≤ MAX_CODE_BYTES
within_limit long refused none = by_test (nat_lt MAX_CODE_BYTES long) refl none where
  by_test : (b : Bool) → nat_lt MAX_CODE_BYTES long ≡ b → cond b (Some refused) None ≡ None → long ≤ MAX_CODE_BYTES
  by_test true is none = absurd cc
  by_test false is none = omega (arith, ltb-false MAX_CODE_BYTES long is)

-- ---- one method with its plan

module _ (ins : Insertions) (plan : ChainPlan) (m : Member) (has : HasInsertions ins plan m) (low : IsLow has.code plan.plan) (calls : Calls)
    (fit : CallsFit calls) where
  suits : CallsSuit calls has.code ins
  suits = record { free = fit.free; link = fit.link; free_chain = fit.free_chain; room = has.room; before = has.before }

  few : length (chained calls has.code ins) < MAX_NEW_ITEMS
  few =
      let same : number_by has.code plan ≡ length (chained calls has.code ins) =
      number_by-is calls has.code plan ∙ ap length (items-is calls has.code ins plan has.whole) in
      let all = number_few plan.looped (null_stored_items * plan.plan.holders) 0 plan.plan.before.items plan.plan.after.items has.code.items in
      let items = (items_counted has.code has.rules).1 in
      let holders : plan.plan.holders ≡ length ins.holders = has.whole.plan_is.plan_is.holders in
      omega (arith, same, all, items, holders, has.room, low.before, low.after)

  -- no holder holds a chain: one word of stack is added
  words : added_words plan ≡ 1
  words = ap (λ b. cond b 2 1) (plans_have_the_chains ins plan has.whole.plan_is ∙ has.plain)

  may_be : MayBeWoven calls has.code plan
  may_be = may-be-woven calls has.code ins plan has.whole has.old_items has.rules (let stack = low.stack in omega (arith, stack, words)) suits few

  -- its attributes may be woven
  may_all : (attributes : List MemberAttr) → AllByRecursion (IsOwnCode has.code) attributes → AllByRecursion (MayWeave calls plan) attributes
  may_all [] own = tt
  may_all (attribute.Coded name code ∷ rest) own = (subst (λ c. MayBeWoven calls c plan) (sym own.0) may_be, may_all rest own.1)
  may_all (attribute.Constant name value ∷ rest) own = (tt, may_all rest own.1)
  may_all (attribute.Other raw ∷ rest) own = (tt, may_all rest own.1)

  pub may_method : MayDo calls (planned.Woven plan) m
  may_method = may_all m.attributes has.own

  -- a code that isn't too long can be woven
  can_code : long_code calls plan has.code ≡ None → CanWeave calls has.code ins
  can_code none = record {
    old_items = has.old_items;
    stack = let stack = low.stack in let own : words_of ins ≡ 1 = ap (λ b. cond b 2 1) has.plain in omega (arith, stack, own);
    suits = suits;
    new_items = chained_is_laid_out calls has.code ins has.old_items suits few;
    short = subst (λ (items : List NewItem). laid_length has.code.items items ≤ MAX_CODE_BYTES) (items-is calls has.code ins plan has.whole)
        (within_limit (laid_length has.code.items (items_by calls has.code plan)) (refused_length has.code.items (items_by calls has.code plan)) none);
  }

  can_all : (attributes : List MemberAttr) → AllByRecursion (IsOwnCode has.code) attributes → long_attributes calls plan attributes ≡ None
      → AllByRecursion (AttributeCan calls ins) attributes
  can_all [] own none = tt
  can_all (attribute.Coded name code ∷ rest) own none =
      let here : long_code calls plan code ≡ None = or_first (long_code calls plan code) (long_attributes calls plan rest) none in (
        subst (λ c. CanWeave calls c ins) (sym own.0) (can_code (ap (long_code calls plan) (sym own.0) ∙ here)),
        can_all rest own.1 (or_rest (long_code calls plan code) (long_attributes calls plan rest) none),
      )
  can_all (attribute.Constant name value ∷ rest) own none = (tt, can_all rest own.1 none)
  can_all (attribute.Other raw ∷ rest) own none = (tt, can_all rest own.1 none)

  pub can_method : long_method calls (planned.Woven plan) m ≡ None → MethodCan calls (Some ins) m
  can_method none = can_all m.attributes has.own none

-- ---- by what is to be done

pub may_do : (o : Option Insertions) (d : Planned) (m : Member) → IsInserted o d m → is_low d m ≡ true → (calls : Calls) → CallsFit calls → MayDo calls d m
may_do None planned.Same m is low calls fit = tt
may_do None (planned.Woven plan) m is low calls fit = absurd is
may_do None (planned.TooLong bytes chains) m is low calls fit = absurd is
may_do (Some ins) planned.Same m is low calls fit = absurd is
may_do (Some ins) (planned.Woven plan) m is low calls fit = may_method ins plan m is (low_in plan m is.code is.coded low) calls fit
may_do (Some ins) (planned.TooLong bytes chains) m is low calls fit = absurd is

pub can_do : (o : Option Insertions) (d : Planned) (m : Member) → IsInserted o d m → is_low d m ≡ true → (calls : Calls) → CallsFit calls
    → long_method calls d m ≡ None → MethodCan calls o m
can_do None planned.Same m is low calls fit none = tt
can_do None (planned.Woven plan) m is low calls fit none = absurd is
can_do None (planned.TooLong bytes chains) m is low calls fit none = absurd is
can_do (Some ins) planned.Same m is low calls fit none = absurd is
can_do (Some ins) (planned.Woven plan) m is low calls fit none = can_method ins plan m is (low_in plan m is.code is.coded low) calls fit none
can_do (Some ins) (planned.TooLong bytes chains) m is low calls fit none = absurd is

-- it is what the definitions insert
pub alike_do : (o : Option Insertions) (d : Planned) (m : Member) → IsInserted o d m → IsAlike o d m
alike_do None planned.Same m is = tt
alike_do None (planned.Woven plan) m is = absurd is
alike_do None (planned.TooLong bytes chains) m is = absurd is
alike_do (Some ins) planned.Same m is = absurd is
alike_do (Some ins) (planned.Woven plan) m is = (is.whole.plan_is, plans_in is.code ins plan is.whole m.attributes is.own)
alike_do (Some ins) (planned.TooLong bytes chains) m is = absurd is

-- no holder of it holds a chain
pub plain_do : (o : Option Insertions) (d : Planned) (m : Member) → IsInserted o d m → chains_in d ≡ false
plain_do None planned.Same m is = refl
plain_do None (planned.Woven plan) m is = absurd is
plain_do None (planned.TooLong bytes chains) m is = absurd is
plain_do (Some ins) planned.Same m is = absurd is
plain_do (Some ins) (planned.Woven plan) m is = plans_have_the_chains ins plan is.whole.plan_is ∙ is.plain
plain_do (Some ins) (planned.TooLong bytes chains) m is = absurd is
