use Rattle.std.proofs.Common.{◌≡◌, take, map, get_or}
use Rattle.fm_summ.proofs.renumbering.named_by.Given as goal

abbrev pub invariant-loop-place : goal.invariant-loop-place
invariant-loop-place l =
    l.found.items ≡ map (λ k. get_or l.names k 0) (take l.place-index l.places)
