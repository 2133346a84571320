use Rattle.std.proofs.Common.{◌≡◌, ◌++◌, map, take}
use Rattle.fm_link_records.specs.inner.Firsts.{first_use}
use Rattle.fm_link_records.proofs.firsts.add_firsts.Given as goal

abbrev pub invariant-loop-field : goal.invariant-loop-field
invariant-loop-field l = l.firsts.items ≡ l.fn.firsts.items ++ map (first_use l.uses) (take l.field-index l.fields)
