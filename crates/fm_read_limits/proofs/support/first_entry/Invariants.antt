use Rattle.std.proofs.Common.{◌≡◌, take}
use Rattle.std.specs.List.{AllByRecursion}
use Rattle.fm_code.specs.Profile.{EntryIsSupported}
use Rattle.fm_read_limits.proofs.support.first_entry.Given as goal

abbrev pub invariant-loop-entry : goal.invariant-loop-entry
invariant-loop-entry l = record { counted : l.index ≡ l.entry-index; before : AllByRecursion EntryIsSupported (take l.entry-index l.entries) }
