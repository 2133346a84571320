use Rattle.std.proofs.Common.{◌≡◌, take}
use Rattle.std.specs.List.{flat_map}
use Rattle.fm_link_records.specs.inner.Named.{texts_named}
use Rattle.fm_link_records.proofs.named.named_texts.Given as goal

abbrev pub invariant-loop-file : goal.invariant-loop-file
invariant-loop-file l = l.named.items ≡ flat_map texts_named (take l.file-index l.files)
