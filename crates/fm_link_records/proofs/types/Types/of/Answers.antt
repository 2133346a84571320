use Rattle.fm_link_records.proofs.TypeSteps.{all_types}
use Rattle.fm_link_records.proofs.types.Types.of.Goals as goal

pub returns-clause-types : goal.returns-clause-types
returns-clause-types c =
    all_types c.args.classes c.args.named.now c.args.made.now _ _ _ _ _ c.with_hasher.ensures.empty c.in_ok-add_classes.ensures
    c.in_ok-add_all.ensures c.in_ok-add_all_arrays.ensures c.in_ok-add_all_arrays-2.ensures
