use Rattle.std.proofs.Common.{◌≡◌, drop}
use Rattle.fm_layout.specs.Rooms.{end_from, rooms_of}
use Rattle.fm_layout.proofs.rounds.narrow_length.Given as goal

abbrev pub invariant-loop-new : goal.invariant-loop-new
invariant-loop-new l = end_from l.end (rooms_of l.old (drop l.new-index l.items)) ≡ end_from 0 (rooms_of l.old l.items)
