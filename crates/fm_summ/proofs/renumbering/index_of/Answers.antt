use Rattle.fm_summ.proofs.CodeLemmas.{not_there}
use Rattle.fm_summ.proofs.renumbering.index_of.Goals as goal

pub unreachable-requires : goal.unreachable-requires
unreachable-requires c = not_there c.args.names.now c.args.n c.in-Err.field-0 c.requires.rising c.in-Err.ensures.position c.requires.there
