use Rattle.std.proofs.Common.{◌≡◌, length}
use Rattle.fm_audit.specs.inner.Frees.{is_once}
use Rattle.fm_audit.proofs.frees.is_once.Given as goal

abbrev pub invariant-loop-pair : goal.invariant-loop-pair
invariant-loop-pair l = is_once l.rest ≡ is_once l.pairs

abbrev pub decreases-loop-pair : goal.decreases-loop-pair
decreases-loop-pair l = length l.rest
