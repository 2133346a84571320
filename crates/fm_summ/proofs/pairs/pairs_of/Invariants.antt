use Rattle.std.proofs.Common.{◌≡◌, ◌++◌, drop}
use Rattle.fm_summ.specs.inner.Passed.{method_pairs}
use Rattle.fm_summ.specs.inner.Callers.{called_by, lists_of}
use Rattle.fm_summ.proofs.pairs.pairs_of.Given as goal

abbrev pub invariant-loop-index : goal.invariant-loop-index
invariant-loop-index l =
    l.pairs.items ++ method_pairs l.shapes (called_by (lists_of l.lists) (drop l.index l.numbers)) (drop l.index l.calls)
    ≡ method_pairs l.shapes (called_by (lists_of l.lists) l.numbers) l.calls
