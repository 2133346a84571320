use Rattle.std.proofs.Common.{◌≡◌, ◌-◌, length}
use Rattle.std.specs.List.{list_all, range_with_len}
use Rattle.fm_audit.specs.inner.Frees.{are_freed_there, is_freed_there}
use Rattle.fm_audit.proofs.frees.is_each_freed_there.Given as goal

abbrev pub invariant-loop-holder : goal.invariant-loop-holder
invariant-loop-holder l =
    list_all (is_freed_there l.classes l.busy l.holding.rows.items l.item l.pairs) (range_with_len l.holder (length l.classes - l.holder))
    ≡ are_freed_there l.classes l.busy l.holding.rows.items l.item l.pairs
