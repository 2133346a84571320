use Rattle.std.proofs.Common.{◌≡◌, take}
use Rattle.std.specs.List.{AllByRecursion}
use Rattle.fm_code.specs.Profile.{MethodIsWithin}
use Rattle.fm_read_limits.proofs.limits.first_over_limit.Given as goal

abbrev pub invariant-loop-method : goal.invariant-loop-method
invariant-loop-method l = record { counted : l.number ≡ l.method-index; before : AllByRecursion MethodIsWithin (take l.method-index l.methods) }
