use Rattle.std.proofs.Common.{◌≡◌, take}
use Rattle.fm_link_names.specs.inner.Numbering.{lent}
use Rattle.fm_link_names.proofs.declared.built_in_names.Given as goal

abbrev pub invariant-loop-name : goal.invariant-loop-name
invariant-loop-name l = l.shared.items ≡ lent (take l.name-index l.names)
