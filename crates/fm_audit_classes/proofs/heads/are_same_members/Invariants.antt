use Rattle.std.proofs.Common.{◌≡◌, drop, map}
use Rattle.fm_audit_classes.specs.Parts.{bare_method}
use Rattle.fm_audit_classes.proofs.heads.are_same_members.Given as goal

abbrev pub invariant-loop-place : goal.invariant-loop-place
invariant-loop-place l = map bare_method (drop l.place l.new) ≡ map bare_method (drop l.place l.old) → map bare_method l.new ≡ map bare_method l.old
