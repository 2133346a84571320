use Rattle.std.proofs.Common.{◌≡◌, length}
use Rattle.fm_audit.specs.Reading.{after_frees}
use Rattle.fm_audit.proofs.reading.after_frees.Given as goal

abbrev pub invariant-loop-rest : goal.invariant-loop-rest
invariant-loop-rest l = after_frees l.free l.first l.rest ≡ after_frees l.free l.first l.items

abbrev pub decreases-loop-rest : goal.decreases-loop-rest
decreases-loop-rest l = length l.rest
