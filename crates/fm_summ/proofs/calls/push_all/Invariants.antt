use Rattle.std.proofs.Common.{◌≡◌, drop}
use Rattle.fm_summ.specs.inner.Callers.{lists_of, with_all}
use Rattle.fm_summ.proofs.calls.push_all.Given as goal

abbrev pub invariant-loop-index : goal.invariant-loop-index
invariant-loop-index l =
    with_all (lists_of l.found.items) (lists_of (drop l.index l.lists)) l.index ≡ with_all (lists_of l.initial.found.items) (lists_of l.lists) 0
