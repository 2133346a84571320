-- What the test says of the room in a method.
use Rattle.std.proofs.Common.{◌≡◌, refl, sym, ◌∙◌, ap, ℕ, ◌≤◌, not, Bool, true, false, cond, length, Some, arith}
use Rattle.std.specs.Prelude.{nat_lt}
use Rattle.std.proofs.lemmas.Bool.{ltb-false}
use Rattle.fm_chain.specs.declared.plans.ChainPlan.{ChainPlan}
use Rattle.fm_code.specs.Members.{code_of}
use Rattle.fm_code.specs.declared.class_file.Member.{Member}
use Rattle.fm_code.specs.declared.code_array.Code.{Code}
use Rattle.fm_audit_classes.specs.declared.low.TheConstants.{MAX_WOVEN_STACK_WORDS}
use Rattle.fm_place.specs.declared.plans.Plan.{Plan}
use Rattle.fm_place_weave.specs.declared.planned.Planned.TheVariants as planned
use Rattle.fm_audit_classes.specs.inner.Low.{is_low, is_low_code, is_low_in, IsLow}

-- a number isn't past its limit
at_most : (limit n : ℕ) → nat_lt limit n ≡ false → n ≤ limit
at_most limit n low = let le = ltb-false limit n low in omega (arith, le)

pub low_code : (code : Code) (plan : Plan) → is_low_code code plan ≡ true → IsLow code plan
low_code code plan is =
    by_tests (nat_lt MAX_WOVEN_STACK_WORDS code.max_stack) refl (nat_lt 65535 (length plan.before.items)) refl (nat_lt 65535 (length plan.after.items)) refl is where
      by_tests : (high : Bool) → nat_lt MAX_WOVEN_STACK_WORDS code.max_stack ≡ high → (before : Bool) → nat_lt 65535 (length plan.before.items) ≡ before
          → (after : Bool) → nat_lt 65535 (length plan.after.items) ≡ after → cond high false (cond before false (not after)) ≡ true → IsLow code plan
      by_tests true stack before few after less passes = absurd cc
      by_tests false stack true few after less passes = absurd cc
      by_tests false stack false few true less passes = absurd cc
      by_tests false stack false few false less passes = record {
        stack = let most = at_most MAX_WOVEN_STACK_WORDS code.max_stack stack in omega (arith, most);
        before = at_most 65535 (length plan.before.items) few;
        after = at_most 65535 (length plan.after.items) less;
      }

-- there is room in the code of a method
pub low_in : (plan : ChainPlan) (m : Member) (code : Code) → code_of m ≡ Some code → is_low (planned.Woven plan) m ≡ true → IsLow code plan.plan
low_in plan m code coded is = low_code code plan.plan (sym (ap (is_low_in plan.plan) coded) ∙ is)
