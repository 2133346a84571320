use Rattle.std.proofs.Common.{◌≡◌, take}
use Rattle.fm_link_names.specs.inner.Numbering.{lent}
use Rattle.fm_link_names.proofs.declared.shared_texts.Given as goal

abbrev pub invariant-loop-text : goal.invariant-loop-text
invariant-loop-text l = l.shared.items ≡ lent (take l.text-index l.texts)
