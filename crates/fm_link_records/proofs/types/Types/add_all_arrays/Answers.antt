use Rattle.fm_link_records.proofs.TypeSteps.{arrays_step}
use Rattle.fm_link_records.proofs.types.Types.add_all_arrays.Goals as goal

pub loop-one-preserved : goal.loop-one-preserved
loop-one-preserved c =
    arrays_step c.args.named.now c.loop-one.one-index _ _ _ c.loop-one-test.true c.in_ok-add_arrays.ensures c.loop-one.invariant
