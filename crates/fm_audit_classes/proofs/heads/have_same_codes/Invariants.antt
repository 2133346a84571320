use Rattle.std.proofs.Common.{◌≡◌, drop, map}
use Rattle.fm_code.specs.Members.{code_of}
use Rattle.fm_audit_classes.proofs.heads.have_same_codes.Given as goal

abbrev pub invariant-loop-place : goal.invariant-loop-place
invariant-loop-place l = map code_of (drop l.place l.new) ≡ map code_of (drop l.place l.old) → map code_of l.new ≡ map code_of l.old
