use Rattle.std.proofs.Common.{take}
use Rattle.fm_summ.specs.inner.Callers.{call_targets, lists_of, AreNumbersOf, Keeps}
use Rattle.fm_summ.specs.inner.Lists.{KnowsCalls}
use Rattle.fm_summ.proofs.calls.list_calls_of.Given as goal

abbrev pub invariant-loop-call : goal.invariant-loop-call
invariant-loop-call l =
    record {
      known : KnowsCalls l.program l.known;
      kept : Keeps (lists_of l.initial.known.lists.items) (lists_of l.known.lists.items);
      are : AreNumbersOf (lists_of l.known.lists.items) l.found.items (call_targets l.program (take l.call-index l.calls));
    }
