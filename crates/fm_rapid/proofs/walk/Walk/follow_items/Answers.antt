use Rattle.std.proofs.Common.{arith}
use Rattle.fm_conn.specs.inner.PairLists.{method_in}
use Rattle.fm_flow.proofs.CodeFacts.{items_counted}
use Rattle.fm_rapid.proofs.Closing.{gone_below-more, kept_of}
use Rattle.fm_rapid.proofs.WalkSteps.{Goes-none, Goes-then}
use Rattle.fm_rapid.specs.inner.Walks.{sets_of}
use Rattle.fm_rapid.proofs.walk.Walk.follow_items.Goals as goal

pub loop-item-init : goal.loop-item-init
loop-item-init c = record {
  goes = Goes-none c.args.at.now.program.now (sets_of c.args.self.now) c.requires.walk;
  gone = λ j inside. absurd (omega (arith, inside));
}

pub follow_item-requires-clause-walk : goal.follow_item-requires-clause-walk
follow_item-requires-clause-walk c = c.loop-item.invariant.goes.walk

pub loop-item-preserved : goal.loop-item-preserved
loop-item-preserved c =
    let p = c.args.at.now.program.now in
    let before = sets_of c.loop-item.self in
    let after = sets_of c.follow_item.new.self in
    record {
      goes = Goes-then p (sets_of c.args.self.now) before after c.loop-item.invariant.goes c.in_ok-follow_item.ensures.goes;
      gone = gone_below-more (method_in c.args.at.now) before after (kept_of p before after c.in_ok-follow_item.ensures.goes.went) c.loop-item.item c.loop-item.invariant.gone
          c.in_ok-follow_item.ensures.gone;
    }

pub returns-clause-goes : goal.returns-clause-goes
returns-clause-goes c = c.loop-item.invariant.goes

pub returns-clause-gone : goal.returns-clause-gone
returns-clause-gone c =
    λ j inside. c.loop-item.invariant.gone j (omega arith)

pub overflow_cast-item : goal.overflow_cast-item
overflow_cast-item c =
    let counted = items_counted c.args.at.now.code.now c.requires.flow.spelled in
    omega (arith, counted.1, c.loop-item-test.true, c.len-item-end.ensures)
