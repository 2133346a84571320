use Rattle.std.proofs.Common.{◌≡◌, drop}
use Rattle.std.specs.List.{flat_map}
use Rattle.fm_base.specs.Rows.{marked}
use Rattle.fm_world.specs.Uses.{caught_by}
use Rattle.fm_link_names.proofs.used.mark_caught.Given as goal

abbrev pub invariant-loop-method : goal.invariant-loop-method
invariant-loop-method l =
    marked l.used.items (flat_map caught_by (drop l.method-index l.methods)) ≡ marked l.initial.used.items (flat_map caught_by l.methods)
