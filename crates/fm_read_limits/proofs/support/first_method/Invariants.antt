use Rattle.std.proofs.Common.{◌≡◌, take}
use Rattle.std.specs.List.{AllByRecursion}
use Rattle.fm_code.specs.Profile.{MethodIsSupported}
use Rattle.fm_read_limits.proofs.support.first_method.Given as goal

abbrev pub invariant-loop-method : goal.invariant-loop-method
invariant-loop-method l = record { counted : l.number ≡ l.method-index; before : AllByRecursion (MethodIsSupported l.in_interface l.pool.entries) (take l.method-index l.methods) }
