use Rattle.std.proofs.Common.{◌≡◌, ◌++◌, length, drop}
use Rattle.fm_link_records.specs.inner.Methods.{methods_among, methods_told}
use Rattle.fm_link_records.specs.inner.Rows.{lent_codes, lent_kinds}
use Rattle.fm_link_records.proofs.methods.add_methods.Given as goal

abbrev pub invariant-loop-method : goal.invariant-loop-method
invariant-loop-method l =
    l.infos.items ++ methods_told (lent_kinds l.kinds) (lent_codes l.codes) (length l.infos.items) (methods_among l.class (drop l.method-index
    l.methods))
    ≡ l.fn.infos.items ++ methods_told (lent_kinds l.kinds) (lent_codes l.codes) (length l.fn.infos.items) (methods_among l.class l.methods)
