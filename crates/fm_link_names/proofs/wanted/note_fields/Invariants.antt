use Rattle.std.proofs.Common.{◌≡◌, drop}
use Rattle.fm_link_names.specs.inner.Wanting.{noted_among}
use Rattle.fm_world.specs.Causes.{static_field_wanted}
use Rattle.fm_link_names.proofs.wanted.note_fields.Given as goal

abbrev pub invariant-loop-item : goal.invariant-loop-item
invariant-loop-item l =
    noted_among static_field_wanted l.wanted.items (drop l.item-index l.items) ≡ noted_among static_field_wanted l.initial.wanted.items l.items
