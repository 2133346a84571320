use Rattle.std.proofs.Common.{◌≡◌, ◌++◌, drop, sum_by, take}
use Rattle.fm_link_records.specs.inner.Fields.{slots_told, static_fields}
use Rattle.fm_link_records.proofs.fields.slots_of.Given as goal

abbrev pub invariant-loop-class : goal.invariant-loop-class
invariant-loop-class l = record {
  slots : l.found.slots.items ++ slots_told l.bases l.found.statics l.class (drop l.class l.classes) ≡ slots_told l.bases 0 0 l.classes;
  statics : l.found.statics ≡ sum_by (λ c. static_fields c.fields) (take l.class l.classes);
}
