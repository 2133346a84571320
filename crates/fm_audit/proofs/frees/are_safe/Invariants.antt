use Rattle.std.proofs.Common.{◌≡◌, ◌-◌, length}
use Rattle.fm_audit.specs.inner.Frees.{are_safe_from}
use Rattle.fm_audit.proofs.frees.are_safe.Given as goal

abbrev pub invariant-loop-item : goal.invariant-loop-item
invariant-loop-item l =
    are_safe_from l.classes l.busy l.holding.rows.items l.item (length l.holding.freed - l.item) l.rest
    ≡ are_safe_from l.classes l.busy l.holding.rows.items 0 (length l.holding.freed) l.pairs
