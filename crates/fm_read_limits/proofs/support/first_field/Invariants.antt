use Rattle.std.proofs.Common.{◌≡◌, take}
use Rattle.std.specs.List.{AllByRecursion}
use Rattle.fm_code.specs.Profile.{FieldIsSupported}
use Rattle.fm_read_limits.proofs.support.first_field.Given as goal

abbrev pub invariant-loop-field : goal.invariant-loop-field
invariant-loop-field l = record { counted : l.number ≡ l.field-index; before : AllByRecursion (FieldIsSupported l.pool.entries) (take l.field-index l.fields) }
