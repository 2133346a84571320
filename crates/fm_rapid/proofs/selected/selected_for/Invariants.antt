use Rattle.std.proofs.Common.{◌≡◌, take}
use Rattle.std.specs.List.{filter_map}
use Rattle.fm_world.specs.Lookups.{select}
use Rattle.fm_rapid.proofs.selected.selected_for.Given as goal

abbrev pub invariant-loop-class : goal.invariant-loop-class
invariant-loop-class l = l.found.items ≡ filter_map (λ class. select l.program.outline.classes class l.method.0) (take l.class-index l.classes)
