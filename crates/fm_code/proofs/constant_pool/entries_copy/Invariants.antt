use Rattle.std.proofs.Common.{◌≡◌, take}
use Rattle.fm_code.proofs.constant_pool.entries_copy.Given as goal

abbrev pub invariant-loop-entry : goal.invariant-loop-entry
invariant-loop-entry l = l.copies.items ≡ take l.entry-index l.entries
