use Rattle.std.proofs.Common.{◌≡◌, map, take}
use Rattle.fm_world.specs.Members.{own_size}
use Rattle.fm_link_records.proofs.sizes.own_sizes.Given as goal

abbrev pub invariant-loop-class : goal.invariant-loop-class
invariant-loop-class l = l.sizes.items ≡ map own_size (take l.class-index l.classes)
