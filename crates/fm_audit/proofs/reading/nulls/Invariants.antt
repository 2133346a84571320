use Rattle.std.proofs.Common.{◌≡◌, ◌++◌, length}
use Rattle.fm_audit.specs.Reading.{nulls}
use Rattle.fm_audit.proofs.reading.nulls.Given as goal

abbrev pub invariant-loop-holder : goal.invariant-loop-holder
invariant-loop-holder l = l.holders.items ++ nulls l.first l.rest ≡ nulls l.first l.items

abbrev pub decreases-loop-holder : goal.decreases-loop-holder
decreases-loop-holder l = length l.rest
