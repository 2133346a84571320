use Rattle.std.proofs.Common.{◌≡◌, drop}
use Rattle.std.specs.List.{list_any}
use Rattle.fm_rewrite.specs.inner.ByPlans.{is_changed}
use Rattle.fm_audit_classes.proofs.comparing.changes.Given as goal

abbrev pub invariant-loop-method : goal.invariant-loop-method
invariant-loop-method l = list_any is_changed (drop l.method-index l.planned) ≡ list_any is_changed l.planned
