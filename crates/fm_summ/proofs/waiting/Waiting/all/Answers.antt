use Rattle.std.proofs.Common.{ℕ, List, Contains, below_more, subst, arith}
use Rattle.fm_base.proofs.ContainsFacts.{Contains-none}
use Rattle.fm_summ.proofs.WaitLemmas.{none_count, none_marked}
use Rattle.fm_summ.proofs.waiting.Waiting.all.Goals as goal

pub push_known-requires : goal.push_known-requires
push_known-requires c =
    let waits = c.in_ok-vec.ensures.items_if_clones_equal (λ y e. e) in
    record {
      one_each = none_count c.args.count _ waits;
      inside = λ m found. absurd (Contains-none m (subst (λ (list : List ℕ). Contains list m) c.new.ensures.items found));
      marked = none_marked c.args.count _ waits _;
    }

pub loop-method-init : goal.loop-method-init
loop-method-init c = record { kept = c.in_ok-push_known.ensures; all = λ m inside. absurd (omega (arith, inside)) }

pub loop-method-preserved : goal.loop-method-preserved
loop-method-preserved c =
    let so_far = c.loop-method.invariant in
    let pushed = c.in_ok-push.ensures in
    record {
      kept = pushed.kept;
      all = below_more (Contains c.push.new.self.queue.items) c.loop-method.method (λ m inside. pushed.others m (so_far.all m inside)) pushed.waits;
    }

pub returns-clause-kept : goal.returns-clause-kept
returns-clause-kept c = c.loop-method.invariant.kept

pub returns-clause-all : goal.returns-clause-all
returns-clause-all c = λ m inside. c.loop-method.invariant.all m (omega (arith, inside, c.loop-method-test.false))
