use Rattle.std.proofs.Common.{◌≡◌, take}
use Rattle.std.specs.List.{flat_map}
use Rattle.fm_link_records.specs.inner.Named.{types_named}
use Rattle.fm_link_records.proofs.named.named_types.Given as goal

abbrev pub invariant-loop-file : goal.invariant-loop-file
invariant-loop-file l = l.named.items ≡ flat_map (types_named l.types) (take l.file-index l.files)
