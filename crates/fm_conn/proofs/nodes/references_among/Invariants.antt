use Rattle.std.proofs.Common.{◌≡◌, take, map}
use Rattle.fm_types.specs.States.{is_reference}
use Rattle.fm_conn.proofs.nodes.references_among.Given as goal

abbrev pub invariant-loop-slot : goal.invariant-loop-slot
invariant-loop-slot l = l.words.items ≡ map is_reference (take l.slot-index l.slots)
