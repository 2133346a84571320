use Rattle.std.proofs.Common.{◌≡◌, ◌-◌, length}
use Rattle.fm_audit.specs.inner.Frees.{are_quiet_from}
use Rattle.fm_audit.proofs.frees.are_all_quiet.Given as goal

abbrev pub invariant-loop-item : goal.invariant-loop-item
invariant-loop-item l =
    are_quiet_from l.classes l.busy l.item (length l.holding.freed - l.item) l.rest ≡ are_quiet_from l.classes l.busy 0 (length l.holding.freed) l.pairs
