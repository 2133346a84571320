use Rattle.std.proofs.Common.{◌+◌, ◌∙◌, ap, arith}
use Rattle.fm_place_weave.proofs.CountingLemmas.{null_fits, null_step, nulls_from, nulls_none}
use Rattle.fm_place_weave.specs.ByPlan.{inserted_end, nulls_by}
use Rattle.fm_place_weave.proofs.counting.nulls_end.Goals as goal

pub null_end-end-requires : goal.null_end-end-requires
null_end-end-requires c =
    let fits = null_fits c.args.first c.loop-holder.holder c.args.holders c.loop-holder.end (inserted_end 0 (nulls_by c.args.first c.args.holders)) (omega arith)
    c.loop-holder.invariant in
    omega (arith, fits, c.requires.fits)

pub loop-holder-preserved : goal.loop-holder-preserved
loop-holder-preserved c =
    ap (λ e. inserted_end e (nulls_from c.args.first (c.loop-holder.holder + 1) c.args.holders)) c.null_end-end.ensures
    ∙ null_step c.args.first c.loop-holder.holder c.args.holders c.loop-holder.end (inserted_end 0 (nulls_by c.args.first c.args.holders)) (omega arith)
    c.loop-holder.invariant

pub returns : goal.returns
returns c =
    nulls_none c.args.first c.loop-holder.holder c.args.holders c.loop-holder.end (inserted_end 0 (nulls_by c.args.first c.args.holders)) (omega arith)
    c.loop-holder.invariant
