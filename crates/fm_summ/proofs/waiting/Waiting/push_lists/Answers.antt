use Rattle.std.proofs.Common.{List, ℕ, Contains, ap, arith, length, subst, sym}
use Rattle.std.proofs.lemmas.List.Elements.{Contains-get_or}
use Rattle.fm_base.proofs.ContainsFacts.{Contains-flat_map}
use Rattle.fm_flow.specs.inner.LiveWalks.{list_of}
use Rattle.fm_summ.proofs.ListLemmas.{list_taken_length, list_taken_more, lists_taken}
use Rattle.fm_summ.specs.inner.Callers.{lists_of}
use Rattle.fm_summ.proofs.waiting.Waiting.push_lists.Goals as goal

pub push_all-requires-clause-inside : goal.push_all-requires-clause-inside
push_all-requires-clause-inside c = λ m found.
    c.requires.inside m
    (Contains-flat_map (list_of (lists_of c.args.methods.now)) c.args.lists.now _ m (Contains-get_or c.args.lists.now c.loop-list.list-index 0 c.loop-list-test.true)
    (subst (λ (list : List ℕ). Contains list m) c.list_at.ensures found))

pub loop-list-preserved : goal.loop-list-preserved
loop-list-preserved c =
    let so_far = c.loop-list.invariant in
    let pushed = c.in_ok-push_all.ensures in
    let lists = lists_of c.args.methods.now in
    let i = c.loop-list.list-index in
    record {
      kept = pushed.kept;
      wait = λ m found.
          list_taken_more lists c.args.lists.now i c.loop-list-test.true (Contains c.push_all.new.self.queue.items)
          (λ k was. pushed.others k (so_far.wait k was))
          (λ k here. pushed.wait k (subst (λ (list : List ℕ). Contains list k) (sym c.list_at.ensures) here)) m found;
      others = λ m found. pushed.others m (so_far.others m found);
      more =
          let one = pushed.more in
          let so = so_far.more in
          let here = ap length c.list_at.ensures in
          let all = list_taken_length lists c.args.lists.now i c.loop-list-test.true in
          omega arith;
    }

pub returns : goal.returns
returns c =
    let so_far = c.loop-list.invariant in
    let all = lists_taken (lists_of c.args.methods.now) c.args.lists.now c.loop-list.list-index (omega (arith, c.loop-list-test.false)) in
    record {
      kept = so_far.kept;
      wait = λ m found. so_far.wait m (subst (λ (list : List ℕ). Contains list m) (sym all) found);
      others = so_far.others;
      more = let count = ap length all in omega (arith, so_far.more, count);
    }
