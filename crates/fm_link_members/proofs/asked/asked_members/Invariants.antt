use Rattle.std.proofs.Common.{◌≡◌, take}
use Rattle.std.specs.List.{flat_map}
use Rattle.fm_link_members.specs.inner.Asked.{asked_in}
use Rattle.fm_link_members.proofs.asked.asked_members.Given as goal

abbrev pub invariant-loop-file : goal.invariant-loop-file
invariant-loop-file l = l.asked.items ≡ flat_map (asked_in l.by_text) (take l.file-index l.files)
