use Rattle.fm_law_no_fault.proofs.CatchesKeep.{all_caught}
use Rattle.fm_law_no_fault.proofs.FramesKeep.{going_whole, started_whole}
use Rattle.fm_law_no_fault.proofs.WaitingFrames.{waiting_whole}
use Rattle.fm_law_no_fault.proofs.laws.law_whole_frames.Goals as goal

pub returns-clause-going_on : goal.returns-clause-going_on
returns-clause-going_on c = going_whole

pub returns-clause-starting : goal.returns-clause-starting
returns-clause-starting c = started_whole

pub returns-clause-catching : goal.returns-clause-catching
returns-clause-catching c =
    λ p fit t thrown typings tree typed store v reference object held type_is f callers words stands below whole after is.
    all_caught p fit t thrown typings tree typed store v reference object held type_is f callers words stands below whole after is

pub returns-clause-waiting : goal.returns-clause-waiting
returns-clause-waiting c = waiting_whole
