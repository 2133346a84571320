use Rattle.std.proofs.Common.{◌≡◌, [], replicate}
use Rattle.fm_summ.specs.inner.Callers.{lists_of}
use Rattle.fm_rapid.proofs.lists.empty_lists.Given as goal

-- as many as were asked for so far
abbrev pub invariant-loop-list : goal.invariant-loop-list
invariant-loop-list l = lists_of l.lists.items ≡ replicate l._list []
