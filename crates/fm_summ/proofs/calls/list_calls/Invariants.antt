use Rattle.std.proofs.Common.{take}
use Rattle.fm_summ.specs.inner.Callers.{lists_of, shape_targets, AreNumbersOfAll}
use Rattle.fm_summ.specs.inner.Lists.{KnowsCalls}
use Rattle.fm_summ.proofs.calls.list_calls.Given as goal

abbrev pub invariant-loop-shape : goal.invariant-loop-shape
invariant-loop-shape l =
    record {
      known : KnowsCalls l.program l.known;
      are : AreNumbersOfAll (lists_of l.known.lists.items) (lists_of l.found.items) (shape_targets l.program (take l.shape-index l.shapes));
    }
