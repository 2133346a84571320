use Rattle.std.proofs.Common.{◌≡◌, ◌++◌, None, replicate, take}
use Rattle.std.specs.List.{flat_map}
use Rattle.fm_link_records.specs.inner.Rows.{codes_in, lent_codes}
use Rattle.fm_world.specs.BuiltIns.{built_in_methods}
use Rattle.fm_link_records.proofs.codes.codes_of.Given as goal

abbrev pub invariant-loop : goal.invariant-loop
invariant-loop l = lent_codes l.codes.items ≡ replicate l.counter None

abbrev pub invariant-loop-file : goal.invariant-loop-file
invariant-loop-file l = lent_codes l.codes.items ≡ replicate built_in_methods None ++ flat_map codes_in (take l.file-index l.files)
