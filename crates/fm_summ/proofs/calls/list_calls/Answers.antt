use Rattle.std.proofs.Common.{List, Contains, ap, map, subst}
use Rattle.std.specs.List.{slice_get}
use Rattle.fm_summ.proofs.CodeLemmas.{element}
use Rattle.fm_summ.proofs.ListLemmas.{one_method_more, past_all_methods}
use Rattle.fm_summ.specs.inner.Callers.{call_targets, lists_of, AreNumbersOf}
use Rattle.fm_conn.specs.declared.shapes.CallShape.{CallShape}
use Rattle.fm_summ.proofs.calls.list_calls.Goals as goal

pub loop-shape-init : goal.loop-shape-init
loop-shape-init c = record {
  known = c.requires.known;
  are = ap (λ list. map (map (slice_get (lists_of c.args.known.now.lists.items))) (lists_of list)) c.new-found.ensures.items;
}

pub list_calls_of-requires-clause-calls : goal.list_calls_of-requires-clause-calls
list_calls_of-requires-clause-calls c = λ call found.
    c.requires.calls c.shape-item.result call (element c.args.shapes.now c.loop-shape.shape-index c.shape-item.result c.loop-shape-test.true c.shape-item.is)
    (subst (λ (list : List CallShape). Contains list call) c.as_slice.ensures found)

pub loop-shape-preserved : goal.loop-shape-preserved
loop-shape-preserved c =
    let so_far = c.loop-shape.invariant in
    let one = c.in_ok-list_calls_of.ensures in
    record {
      known = one.known;
      are = one_method_more c.args.program.now c.args.shapes.now c.loop-shape.shape-index c.shape-item.result (lists_of c.loop-shape.known.lists.items)
          (lists_of c.list_calls_of.new.known.lists.items) c.loop-shape.found.items c.push.new.self.items c.in_ok-list_calls_of.field-0
          c.loop-shape-test.true c.shape-item.is so_far.are one.kept
          (subst (λ (list : List CallShape). AreNumbersOf (lists_of c.list_calls_of.new.known.lists.items) c.in_ok-list_calls_of.field-0.items (call_targets c.args.program.now list)) c.as_slice.ensures one.are)
          c.in_ok-push.ensures.items;
    }

pub returns : goal.returns
returns c = past_all_methods c.args.program.now c.args.shapes.now c.loop-shape.shape-index _ _ c.loop-shape-test.false c.loop-shape.invariant.are
