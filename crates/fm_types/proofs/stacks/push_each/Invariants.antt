use Rattle.std.proofs.Common.{◌≡◌, ◌++◌, take}
use Rattle.fm_types.proofs.stacks.push_each.Given as goal

abbrev pub invariant-loop-slot : goal.invariant-loop-slot
invariant-loop-slot l = l.list ≡ l.initial.list ++ take l.slot-index l.slots
