use Rattle.std.proofs.Common.{◌≡◌, ◌++◌, length, drop}
use Rattle.fm_world.specs.Members.{fields_from, fields_of}
use Rattle.fm_link_records.specs.inner.Fields.{fields_told}
use Rattle.fm_link_records.specs.inner.Rows.{lent_kinds}
use Rattle.fm_link_records.proofs.fields.field_infos.Given as goal

abbrev pub invariant-loop-class : goal.invariant-loop-class
invariant-loop-class l =
    l.infos.items ++ fields_told (lent_kinds l.kinds) l.slots l.firsts (length l.infos.items) (fields_from l.class (drop l.class l.classes))
    ≡ fields_told (lent_kinds l.kinds) l.slots l.firsts 0 (fields_of l.classes)
