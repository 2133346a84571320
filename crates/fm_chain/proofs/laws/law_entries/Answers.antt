use Rattle.fm_chain.proofs.ChainEntriesAdded.{calls_are_named, entries_are_supported, pools_are_spelled}
use Rattle.fm_chain.proofs.laws.law_entries.Goals as goal

pub returns : goal.returns
returns c = record { named = calls_are_named; supported = entries_are_supported; spelled = pools_are_spelled }
