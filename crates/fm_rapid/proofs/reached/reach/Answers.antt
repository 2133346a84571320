use Rattle.fm_rapid.proofs.Closing.{at_end}
use Rattle.fm_rapid.proofs.Followable.{can_be_followed}
use Rattle.fm_rapid.specs.inner.Walks.{sets_of}
use Rattle.fm_rapid.proofs.reached.reach.Goals as goal

pub opened-requires : goal.opened-requires
opened-requires c = can_be_followed c.args.program.now c.requires.analysable c.requires.opening

pub follow_all-requires-clause-program : goal.follow_all-requires-clause-program
follow_all-requires-clause-program c = can_be_followed c.args.program.now c.requires.analysable c.requires.opening

pub returns : goal.returns
returns c =
    at_end c.args.program.now (sets_of c.follow_all.new.self) (can_be_followed c.args.program.now c.requires.analysable c.requires.opening)
    c.in_ok-follow_all.ensures
