use Rattle.fm_law_chained.proofs.CalledSteps.{links_fault, links_join, links_pass_over}
use Rattle.fm_law_chained.proofs.laws.law_link_called.Goals as goal

pub returns : goal.returns
returns c = record { passed = links_pass_over; joined = links_join; lost = links_fault }
