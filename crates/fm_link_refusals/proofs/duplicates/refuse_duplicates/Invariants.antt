use Rattle.fm_link_refusals.proofs.EarlierNames.{AreEarlier, known_of}
use Rattle.std.proofs.Common.{drop}
use Rattle.fm_link_refusals.proofs.duplicates.refuse_duplicates.Given as goal

abbrev pub invariant-loop-class : goal.invariant-loop-class
invariant-loop-class l = AreEarlier l.given (drop l.class-index l.given) (known_of l.earlier)
