use Rattle.std.proofs.Common.{◌≡◌, false, length}
use Rattle.fm_base.specs.Texts.{units}
use Rattle.fm_read_limits.specs.inner.ClassNames.{are_whole}
use Rattle.fm_read_limits.proofs.support.class_names.is_supported_name.Given as goal

-- the rest decides
abbrev pub invariant-loop-unit : goal.invariant-loop-unit
invariant-loop-unit l = are_whole l.high (units l.rest) ≡ are_whole false (units l.name)

abbrev pub decreases-loop-unit : goal.decreases-loop-unit
decreases-loop-unit l = length l.rest
