use Rattle.std.proofs.Common.{ap, map}
use Rattle.std.specs.List.{slice_get}
use Rattle.fm_summ.proofs.CodeLemmas.{element}
use Rattle.fm_summ.proofs.ListLemmas.{kept_then, one_call_more, past_all}
use Rattle.fm_summ.specs.inner.Callers.{lists_of}
use Rattle.fm_summ.proofs.calls.list_calls_of.Goals as goal

pub loop-call-init : goal.loop-call-init
loop-call-init c = record { known = c.requires.known; kept = record { each = λ n xs is. is }; are = ap (map (slice_get (lists_of c.args.known.now.lists.items))) c.new-found.ensures.items }

pub number-requires-clause-call : goal.number-requires-clause-call
number-requires-clause-call c =
    c.requires.calls c.call-item.result (element c.args.calls.now c.loop-call.call-index c.call-item.result c.loop-call-test.true c.call-item.is)

pub loop-call-preserved : goal.loop-call-preserved
loop-call-preserved c =
    let so_far = c.loop-call.invariant in
    let one = c.in_ok-number.ensures in
    record {
      known = one.known;
      kept = kept_then _ _ _ so_far.kept one.kept;
      are = one_call_more c.args.program.now c.args.calls.now c.loop-call.call-index c.call-item.result _ _ c.loop-call.found.items _ _
          c.loop-call-test.true c.call-item.is so_far.are one.kept one.is c.in_ok-push.ensures.items;
    }

pub returns : goal.returns
returns c =
    let so_far = c.loop-call.invariant in
    record { known = so_far.known; kept = so_far.kept; are = past_all c.args.program.now c.args.calls.now c.loop-call.call-index _ _ c.loop-call-test.false so_far.are }
