use Rattle.std.proofs.Common.{◌≡◌, ◌++◌, length, take}
use Rattle.std.specs.List.{flat_map}
use Rattle.fm_code.specs.Numbers.{two}
use Rattle.fm_code.specs.ClassBytes.{entry_bytes}
use Rattle.fm_pool.proofs.writing.spelling_of.Given as goal

abbrev pub invariant-loop-entry : goal.invariant-loop-entry
invariant-loop-entry l = l.out.items ≡ two (length l.entries) ++ flat_map entry_bytes (take l.entry-index l.entries)
