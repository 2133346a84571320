use Rattle.std.proofs.Common.{◌≡◌, ◌+◌, ◌++◌, drop}
use Rattle.fm_link_records.specs.inner.Fields.{slots_among, static_fields}
use Rattle.fm_link_records.proofs.fields.Slots.add.Given as goal

abbrev pub invariant-loop-field : goal.invariant-loop-field
invariant-loop-field l = record {
  slots : l.self.slots.items ++ slots_among l.self.statics l.own (drop l.field-index l.fields)
      ≡ l.fn.self.slots.items ++ slots_among l.fn.self.statics l.base l.fields;
  statics : l.self.statics + static_fields (drop l.field-index l.fields) ≡ l.fn.self.statics + static_fields l.fields;
}
