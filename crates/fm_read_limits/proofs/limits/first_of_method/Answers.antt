use Rattle.fm_read_limits.proofs.LimitLemmas.{code_fits}
use Rattle.fm_read_limits.proofs.limits.first_of_method.Goals as goal

pub first_of_code-requires : goal.first_of_code-requires
first_of_code-requires c = code_fits c.args.method.now c.in-Some.code.now c.requires c.in-Some.ensures
