use Rattle.std.proofs.Common.{◌≡◌, drop}
use Rattle.std.specs.List.{flat_map}
use Rattle.fm_base.specs.Rows.{marked}
use Rattle.fm_world.specs.Uses.{values_of}
use Rattle.fm_link_names.proofs.used.mark_values.Given as goal

abbrev pub invariant-loop-field : goal.invariant-loop-field
invariant-loop-field l =
    marked l.used.items (flat_map values_of (drop l.field-index l.fields)) ≡ marked l.initial.used.items (flat_map values_of l.fields)
