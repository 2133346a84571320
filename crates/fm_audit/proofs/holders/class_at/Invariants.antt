use Rattle.std.proofs.Common.{◌≡◌, drop}
use Rattle.fm_audit.specs.inner.Holders.{class_at}
use Rattle.fm_audit.proofs.holders.class_at.Given as goal

abbrev pub invariant-loop-site : goal.invariant-loop-site
invariant-loop-site l = class_at (drop l.site-index l.sites) l.item ≡ class_at l.sites l.item
