use Rattle.std.proofs.Common.{◌≡◌, drop, length, replicate, []}
use Rattle.std.specs.List.{flat_map}
use Rattle.fm_link_names.specs.inner.Wanting.{noted_among, wanted_of}
use Rattle.fm_world.specs.Causes.{static_field_wanted, static_method_wanted}
use Rattle.fm_world.specs.Uses.{class_items, items_of}
use Rattle.fm_link_names.proofs.wanted.WantedMembers.of.Given as goal

abbrev pub invariant-loop-method : goal.invariant-loop-method
invariant-loop-method l = record {
  fields : noted_among static_field_wanted l.fields.items (flat_map items_of (drop l.method-index l.method-items))
      ≡ noted_among static_field_wanted (replicate (length l.class.pool.entries) (wanted_of [])) (class_items l.class);
  methods : noted_among static_method_wanted l.methods.items (flat_map items_of (drop l.method-index l.method-items))
      ≡ noted_among static_method_wanted (replicate (length l.class.pool.entries) (wanted_of [])) (class_items l.class);
}
