use Rattle.std.proofs.Common.{arith}
use Rattle.fm_place_weave.proofs.CountingLemmas.{end_after_grows}
use Rattle.fm_place_weave.specs.ByPlan.{inserted_end, nulls_by}
use Rattle.fm_place_weave.proofs.counting.narrow_length.Goals as goal

pub nulls_end-requires-clause-fits : goal.nulls_end-requires-clause-fits
nulls_end-requires-clause-fits c =
    let grows = end_after_grows c.args.plan.now.looped c.args.code.now.max_locals
    (inserted_end 0 (nulls_by c.args.code.now.max_locals c.args.plan.now.plan.holders)) 0 c.args.plan.now.plan.before.items c.args.plan.now.plan.after.items c.args.code.now.items in
    omega (arith, grows, c.requires.fits)
