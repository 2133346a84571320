use Rattle.std.proofs.Common.{◌≡◌, drop, map}
use Rattle.fm_audit_classes.specs.Parts.{bare_attribute}
use Rattle.fm_audit_classes.proofs.heads.are_same_attributes.Given as goal

abbrev pub invariant-loop-place : goal.invariant-loop-place
invariant-loop-place l = map bare_attribute (drop l.place l.new) ≡ map bare_attribute (drop l.place l.old) → map bare_attribute l.new ≡ map bare_attribute l.old
