use Rattle.std.proofs.Common.{◌≡◌, length}
use Rattle.fm_audit.specs.Reading.{after_nulls}
use Rattle.fm_audit.proofs.reading.after_nulls.Given as goal

abbrev pub invariant-loop-rest : goal.invariant-loop-rest
invariant-loop-rest l = after_nulls l.first l.rest ≡ after_nulls l.first l.items

abbrev pub decreases-loop-rest : goal.decreases-loop-rest
decreases-loop-rest l = length l.rest
