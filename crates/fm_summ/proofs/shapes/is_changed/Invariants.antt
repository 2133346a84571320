use Rattle.std.proofs.Common.{◌≡◌, drop}
use Rattle.fm_summ.specs.inner.Passed.{is_changed}
use Rattle.fm_summ.specs.inner.Renumberings.{renumber}
use Rattle.fm_summ.proofs.shapes.is_changed.Given as goal

abbrev pub invariant-loop-end : goal.invariant-loop-end
invariant-loop-end l =
    is_changed (renumber l.by) (drop l.end-index l.ends) ≡ is_changed (renumber l.by) l.ends
