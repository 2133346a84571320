use Rattle.std.proofs.Common.{◌≡◌, take, map}
use Rattle.fm_summ.specs.inner.Passed.{renumbered_call}
use Rattle.fm_summ.specs.inner.Renumberings.{renumber}
use Rattle.fm_summ.proofs.shapes.renumbered_calls.Given as goal

abbrev pub invariant-loop-call : goal.invariant-loop-call
invariant-loop-call l =
    l.made.items ≡ map (renumbered_call (renumber l.by)) (take l.call-index l.calls)
