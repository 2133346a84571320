use Rattle.std.proofs.Common.{◌≡◌, drop}
use Rattle.fm_audit.specs.inner.Frees.{lists}
use Rattle.fm_audit.proofs.frees.lists.Given as goal

abbrev pub invariant-loop-pair : goal.invariant-loop-pair
invariant-loop-pair l = lists (drop l.pair-index l.pairs) l.holder ≡ lists l.pairs l.holder
