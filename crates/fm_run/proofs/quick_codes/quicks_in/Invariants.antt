use Rattle.std.proofs.Common.{◌≡◌, ◌++◌, drop}
use Rattle.fm_run.proofs.quick_codes.quicks_in.Given as goal
use Rattle.fm_run.specs.inner.Quicks.{quicks_for}

abbrev pub invariant-loop-item : goal.invariant-loop-item
invariant-loop-item l =
    l.quicks.items ++ quicks_for l.program l.method.0 (drop l.item-index l.items) ≡ quicks_for l.program l.method.0 l.items
