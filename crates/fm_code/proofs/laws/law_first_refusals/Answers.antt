use Rattle.fm_code.proofs.ProfileLaws.{over_limit, one_over_limit, unsupported, one_unsupported}
use Rattle.fm_code.proofs.laws.law_first_refusals.Goals as goal

pub returns : goal.returns
returns c = record { over_limit = over_limit; one_over_limit = one_over_limit; unsupported = unsupported; one_unsupported = one_unsupported }
