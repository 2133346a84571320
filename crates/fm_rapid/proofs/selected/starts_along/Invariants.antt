use Rattle.std.proofs.Common.{◌≡◌, take}
use Rattle.std.specs.List.{filter_map}
use Rattle.fm_world.specs.Members.{start_of}
use Rattle.fm_rapid.proofs.selected.starts_along.Given as goal

abbrev pub invariant-loop-class : goal.invariant-loop-class
invariant-loop-class l = l.found.items ≡ filter_map (start_of l.program.outline.classes) (take l.class-index l.chain)
