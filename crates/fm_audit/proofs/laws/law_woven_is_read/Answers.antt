use Rattle.fm_audit.proofs.WovenReadLemmas.{woven_is_read}
use Rattle.fm_audit.proofs.laws.law_woven_is_read.Goals as goal

pub returns : goal.returns
returns c = woven_is_read
