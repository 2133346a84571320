use Rattle.std.proofs.Common.{◌≡◌, ◌++◌, length, drop}
use Rattle.fm_world.specs.Members.{methods_from, methods_of}
use Rattle.fm_link_records.specs.inner.Methods.{methods_told}
use Rattle.fm_link_records.specs.inner.Rows.{lent_codes, lent_kinds}
use Rattle.fm_link_records.proofs.methods.method_infos.Given as goal

abbrev pub invariant-loop-class : goal.invariant-loop-class
invariant-loop-class l =
    l.infos.items ++ methods_told (lent_kinds l.kinds) (lent_codes l.codes) (length l.infos.items) (methods_from l.class (drop l.class l.classes))
    ≡ methods_told (lent_kinds l.kinds) (lent_codes l.codes) 0 (methods_of l.classes)
