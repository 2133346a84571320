use Rattle.fm_law_sound.proofs.CallsLead.{calls_lead}
use Rattle.fm_law_sound.proofs.laws.law_calls.Goals as goal

pub returns : goal.returns
returns c = calls_lead
