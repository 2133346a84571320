use Rattle.std.proofs.Common.{◌≡◌, take}
use Rattle.fm_summ.specs.inner.Passed.{renumbered_ends}
use Rattle.fm_summ.specs.inner.Renumberings.{renumber}
use Rattle.fm_summ.proofs.shapes.renumbered_ends.Given as goal

abbrev pub invariant-loop-end : goal.invariant-loop-end
invariant-loop-end l =
    l.made.items ≡ renumbered_ends (renumber l.by) (take l.end-index l.ends)
