use Rattle.std.proofs.Common.{◌≡◌, false, drop}
use Rattle.fm_read_limits.specs.inner.FloatingTypes.{has_floating}
use Rattle.fm_read_limits.proofs.support.floating_types.has_floating.Given as goal

-- the rest decides
abbrev pub invariant-loop-c : goal.invariant-loop-c
invariant-loop-c l = has_floating l.in_class (drop l.c-index l.descriptor) ≡ has_floating false l.descriptor
