use Rattle.std.proofs.Common.{◌≡◌, drop}
use Rattle.fm_summ.specs.inner.Callers.{lists_of, with_callers}
use Rattle.fm_summ.proofs.calls.push_each.Given as goal

abbrev pub invariant-loop-at : goal.invariant-loop-at
invariant-loop-at l =
    with_callers (lists_of l.found.items) (drop l.at-index l.list) l.number ≡ with_callers (lists_of l.initial.found.items) l.list l.number
