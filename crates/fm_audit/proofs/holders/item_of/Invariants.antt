use Rattle.std.proofs.Common.{◌≡◌, drop}
use Rattle.fm_audit.specs.inner.Holders.{item_of}
use Rattle.fm_audit.proofs.holders.item_of.Given as goal

abbrev pub invariant-loop-pair : goal.invariant-loop-pair
invariant-loop-pair l = item_of (drop l.pair-index l.after) l.holder ≡ item_of l.after l.holder
