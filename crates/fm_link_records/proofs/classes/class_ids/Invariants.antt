use Rattle.std.proofs.Common.{◌≡◌, map, take}
use Rattle.fm_world.specs.Programs.{class_id}
use Rattle.fm_link_records.proofs.classes.class_ids.Given as goal

abbrev pub invariant-loop-number : goal.invariant-loop-number
invariant-loop-number l = l.ids.items ≡ map class_id (take l.number-index l.numbers)
