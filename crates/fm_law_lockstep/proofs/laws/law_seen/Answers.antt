use Rattle.fm_law_lockstep.proofs.Seen.{retired_is_unseen}
use Rattle.fm_law_lockstep.proofs.laws.law_seen.Goals as goal

pub returns : goal.returns
returns c = retired_is_unseen
