use Rattle.std.proofs.Common.{◌≡◌, take}
use Rattle.std.specs.List.{flat_map}
use Rattle.fm_types.specs.States.{local_slots}
use Rattle.fm_check_rows.proofs.words.words_of.Given as goal

abbrev pub invariant-loop-kind : goal.invariant-loop-kind
invariant-loop-kind l = l.words.items ≡ flat_map local_slots (take l.kind-index l.kinds)
