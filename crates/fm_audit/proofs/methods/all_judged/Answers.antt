use Rattle.std.proofs.Common.{rules, ◌≡◌, ℕ, List, length, subst, sym, arith}
use Rattle.fm_audit.proofs.MethodsLemmas.{each_more}
use Rattle.fm_audit.specs.NewCodes.{new_free_of, new_items_of, StaysAt}
use Rattle.fm_audit.specs.Parts.{part_in, planned_of}
use Rattle.fm_audit.specs.SafeMethods.{IsSafelyJudgedAt}
use Rattle.fm_audit.specs.declared.parts.Part.{Part}
use Rattle.fm_code.specs.declared.code_array.Item.{Item}
use Rattle.fm_place_weave.specs.declared.planned.Planned.{Planned}
use Rattle.fm_world.specs.Members.{methods_of}
use Rattle.fm_audit.proofs.methods.all_judged.Goals as goal

pub loop-number-preserved : goal.loop-number-preserved
loop-number-preserved c =
    let p = c.args.program.now in
    let k = c.loop-number.number in
    let judged : ℕ → Part → Planned → Type 0 =
    λ m failed done. IsSafelyJudgedAt p c.args.summaries.now m (new_free_of p c.args.new.now m) (new_items_of p c.args.new.now m) failed done
    × StaysAt p m (new_items_of p c.args.new.now m) done in
    let free : c.new_code_at-own.result.free ≡ new_free_of p c.args.new.now k = search rules in
    let own : c.new_code_at-own.result.items.now ≡ new_items_of p c.args.new.now k = search rules in
    let failed = part_in c.in_ok-found.found in
    let done = planned_of c.in_ok-found.found in
    each_more judged k c.loop-number.failing.items c.push.new.self.items c.loop-number.planned.items c.push-in-loop-number.new.self.items c.failed-failed.result
    c.planned-made.result c.loop-number.invariant.0 c.loop-number.invariant.1 c.in_ok-push.ensures.items c.in_ok-push-2.ensures.items
    c.loop-number.invariant.2
    (subst (λ o. judged k o c.planned-made.result) (sym c.failed-failed.ensures) (subst (judged k failed) (sym c.planned-made.ensures) (
      subst (λ (items : List Item). IsSafelyJudgedAt p c.args.summaries.now k (new_free_of p c.args.new.now k) items failed done) own
          (subst (λ (n : ℕ). IsSafelyJudgedAt p c.args.summaries.now k n c.new_code_at-own.result.items.now failed done) free
          c.in_ok-found.ensures.safe),
      subst (λ (items : List Item). StaysAt p k items done) own c.in_ok-found.ensures.still,
    )))

pub returns-clause-safe : goal.returns-clause-safe
returns-clause-safe c =
    let count : length c.loop-number.planned.items ≡ length (methods_of c.args.program.now.outline.classes) =
    omega (arith, c.loop-number-test.false, c.loop-number.invariant.1, c.methods-methods.ensures) in
    record { one_each = count; each = λ k inside. (c.loop-number.invariant.2 k (omega (arith, inside, c.loop-number.invariant.1))).0 }

pub returns-clause-still : goal.returns-clause-still
returns-clause-still c = λ k inside. (c.loop-number.invariant.2 k (omega (arith, inside, c.loop-number.invariant.1))).1
