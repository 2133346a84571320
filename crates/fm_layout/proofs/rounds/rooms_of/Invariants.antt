use Rattle.std.proofs.Common.{◌≡◌, ◌++◌, drop}
use Rattle.fm_layout.specs.Rooms.{rooms_of}
use Rattle.fm_layout.proofs.rounds.rooms_of.Given as goal

abbrev pub invariant-loop-new : goal.invariant-loop-new
invariant-loop-new l = l.rooms.items ++ rooms_of l.old (drop l.new-index l.items) ≡ rooms_of l.old l.items
