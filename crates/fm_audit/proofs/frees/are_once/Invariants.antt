use Rattle.std.proofs.Common.{◌≡◌, ◌-◌}
use Rattle.fm_audit.specs.inner.Frees.{are_once_from}
use Rattle.fm_audit.proofs.frees.are_once.Given as goal

abbrev pub invariant-loop-item : goal.invariant-loop-item
invariant-loop-item l =
    are_once_from l.item (l.items - l.item) l.rest ≡ are_once_from 0 l.items l.pairs
