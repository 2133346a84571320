use Rattle.std.proofs.Common.{◌≡◌, ◌++◌, length, drop}
use Rattle.fm_link_records.specs.inner.Fields.{fields_among, fields_told}
use Rattle.fm_link_records.specs.inner.Rows.{lent_kinds}
use Rattle.fm_link_records.proofs.fields.add_fields.Given as goal

abbrev pub invariant-loop-field : goal.invariant-loop-field
invariant-loop-field l =
    l.infos.items ++ fields_told (lent_kinds l.kinds) l.slots l.firsts (length l.infos.items) (fields_among l.class (drop l.field-index l.fields))
    ≡ l.fn.infos.items ++ fields_told (lent_kinds l.kinds) l.slots l.firsts (length l.fn.infos.items) (fields_among l.class l.fields)
