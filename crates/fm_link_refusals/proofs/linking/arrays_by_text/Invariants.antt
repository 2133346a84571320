use Rattle.std.proofs.Common.{◌≡◌, map, take}
use Rattle.fm_link_names.specs.inner.Numbering.{lent}
use Rattle.fm_link_refusals.specs.inner.Linking.{names_array}
use Rattle.fm_link_refusals.proofs.linking.arrays_by_text.Given as goal

abbrev pub invariant-loop-text : goal.invariant-loop-text
invariant-loop-text l = l.arrays.items ≡ map names_array (take l.text-index (lent l.texts))
