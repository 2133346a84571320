use Rattle.fm_pool.proofs.MissingLemmas.{method_in_turn}
use Rattle.fm_pool.proofs.missing.Missing.place_method.Goals as goal

pub returns-clause-placed : goal.returns-clause-placed
returns-clause-placed c =
    method_in_turn _ _ _ _ c.in_ok-name_index.name_index c.in_ok-descriptor_index.descriptor_index c.in_ok-pair.pair c.in_ok-method.method c.args.class c.args.name.now c.args.descriptor.now c.args.found _ _ _ _ _
    c.in_ok-name_index.ensures.count c.in_ok-descriptor_index.ensures.count c.in_ok-pair.ensures.count
    c.in_ok-name_index.ensures.placed c.in_ok-descriptor_index.ensures.placed c.in_ok-pair.ensures.placed c.in_ok-method.ensures.placed
