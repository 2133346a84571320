use Rattle.std.proofs.Common.{ℕ, ◌<◌}
use Rattle.fm_audit_classes.specs.inner.Methods.{IsAsPlannedAt}
use Rattle.fm_audit_classes.proofs.others.first_unplanned.Given as goal

abbrev pub invariant-loop-place : goal.invariant-loop-place
invariant-loop-place l = (k : ℕ) → k < l.place → IsAsPlannedAt l.calls l.planned l.old l.new k
