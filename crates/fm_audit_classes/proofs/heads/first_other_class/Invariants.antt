use Rattle.std.proofs.Common.{ℕ, ◌<◌}
use Rattle.fm_audit_classes.specs.Parts.{HasClassAt}
use Rattle.fm_audit_classes.proofs.heads.first_other_class.Given as goal

abbrev pub invariant-loop-place : goal.invariant-loop-place
invariant-loop-place l = (k : ℕ) → k < l.place → HasClassAt l.classes l.written k
