use Rattle.std.proofs.Common.{◌≡◌, take}
use Rattle.std.specs.List.{filter_map}
use Rattle.fm_world.specs.Lookups.{select}
use Rattle.fm_rapid.proofs.selected.selected_by.Given as goal

abbrev pub invariant-loop-method : goal.invariant-loop-method
invariant-loop-method l = l.found.items ≡ filter_map (select l.program.outline.classes l.class.0) (take l.method-index l.methods)
