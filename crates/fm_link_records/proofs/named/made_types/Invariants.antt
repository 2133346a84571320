use Rattle.std.proofs.Common.{◌≡◌, ◌++◌, take}
use Rattle.std.specs.List.{flat_map}
use Rattle.fm_link_records.specs.inner.Named.{types_made}
use Rattle.fm_link_records.proofs.named.made_types.Given as goal

abbrev pub invariant-loop-file : goal.invariant-loop-file
invariant-loop-file l = l.made.items ≡ l.initial.made.items ++ flat_map (types_made l.types) (take l.file-index l.files)
