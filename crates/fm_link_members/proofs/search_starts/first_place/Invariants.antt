use Rattle.std.proofs.Common.{take}
use Rattle.fm_link_members.proofs.OwnerLemmas.{IsLow}
use Rattle.fm_link_members.proofs.search_starts.first_place.Given as goal

abbrev pub invariant-loop-class : goal.invariant-loop-class
invariant-loop-class l = IsLow l.places (take l.class-index l.owners) l.first
