use Rattle.std.proofs.Common.{◌≡◌, drop}
use Rattle.fm_audit.specs.inner.Holders.{are_own_items}
use Rattle.fm_audit.proofs.holders.are_own_items.Given as goal

abbrev pub invariant-loop-pair : goal.invariant-loop-pair
invariant-loop-pair l = are_own_items l.held (drop l.pair-index l.after) ≡ are_own_items l.held l.after
