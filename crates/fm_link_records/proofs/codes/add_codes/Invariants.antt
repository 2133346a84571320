use Rattle.std.proofs.Common.{◌≡◌, ◌++◌, map, take}
use Rattle.fm_code.specs.Members.{code_of}
use Rattle.fm_link_records.specs.inner.Rows.{lent_codes}
use Rattle.fm_link_records.proofs.codes.add_codes.Given as goal

abbrev pub invariant-loop-method : goal.invariant-loop-method
invariant-loop-method l = lent_codes l.codes.items ≡ lent_codes l.fn.codes.items ++ map code_of (take l.method-index l.methods)
