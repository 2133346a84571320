use Rattle.std.proofs.Common.{◌∙◌, List, ℕ, ap, arith, false, length, subst, sym, true}
use Rattle.std.proofs.lemmas.List.{length-replicate, length-set}
use Rattle.fm_base.specs.Rows.{has}
use Rattle.fm_summ.proofs.OrderLemmas.{all_listed, below_listed, listed_none}
use Rattle.fm_summ.specs.inner.Orders.{AreListed}
use Rattle.fm_summ.proofs.order.each_once.Goals as goal

pub loop-method-init : goal.loop-method-init
loop-method-init c =
    let marks = c.in_ok-listed.ensures.items_if_clones_equal (λ y e. e) in
    record {
      long = ap length marks ∙ length-replicate c.args.count false;
      are = subst (λ (order : List ℕ). AreListed c.in_ok-listed.listed.items order) (sym c.new-order.ensures.items) (listed_none c.args.count _ marks);
    }

pub loop-method-preserved : goal.loop-method-preserved
loop-method-preserved c =
    let so_far = c.loop-method.invariant in
    let one = c.in_ok-list_once.ensures in
    record {
      long = ap length one.marks ∙ length-set c.loop-method.listed.items _ true ∙ so_far.long;
      are = one.kept so_far.are;
    }

pub loop-other-init : goal.loop-other-init
loop-other-init c =
    let so_far = c.loop-method.invariant in record { long = so_far.long; are = so_far.are; below = λ m none. absurd (omega (arith, none)) }

pub loop-other-preserved : goal.loop-other-preserved
loop-other-preserved c =
    let so_far = c.loop-other.invariant in
    let one = c.in_ok-list_once-2.ensures in
    let other = c.loop-other.other in
    record {
      long = ap length one.marks ∙ length-set c.loop-other.listed.items other true ∙ so_far.long;
      are = one.kept so_far.are;
      below = λ m inside. ap (λ marks. has marks m) one.marks
          ∙ below_listed c.loop-other.listed.items other (omega (arith, so_far.long, c.loop-other-test.true)) so_far.below m inside;
    }

pub returns : goal.returns
returns c =
    let so_far = c.loop-other.invariant in
    all_listed c.loop-other.listed.items c.loop-other.order.items c.args.count so_far.long
    (λ m inside. so_far.below m (omega (arith, inside, c.loop-other-test.false))) so_far.are
