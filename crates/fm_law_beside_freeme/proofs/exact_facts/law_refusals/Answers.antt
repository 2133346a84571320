use Rattle.fm_law_beside_freeme.proofs.Causes.{refusals_named}
use Rattle.fm_law_beside_freeme.proofs.exact_facts.law_refusals.Goals as goal

pub returns : goal.returns
returns c = refusals_named
