use Rattle.std.proofs.Common.{◌≡◌, ◌++◌, take}
use Rattle.std.specs.List.{flat_map}
use Rattle.fm_code.specs.ClassBytes.{raw_bytes}
use Rattle.fm_write.proofs.attributes.put_raws.Given as goal

abbrev pub invariant-loop-raw : goal.invariant-loop-raw
invariant-loop-raw l = l.out.items ≡ l.initial.out.items ++ flat_map raw_bytes (take l.raw-index l.raws)
