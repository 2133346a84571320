use Rattle.std.proofs.Common.{◌≡◌, [], replicate}
use Rattle.fm_summ.specs.inner.Callers.{lists_of}
use Rattle.fm_summ.proofs.calls.listed_in.Given as goal

abbrev pub invariant-loop-number : goal.invariant-loop-number
invariant-loop-number l = lists_of l.found.items ≡ replicate l._number []
