use Rattle.std.proofs.Common.{◌+◌}
use Rattle.fm_conn.proofs.ListLemmas.{flat_range_next}
use Rattle.fm_place.specs.Woven.{null_stored}
use Rattle.fm_place_weave.proofs.weaving.nulls.Goals as goal

pub loop-holder-preserved : goal.loop-holder-preserved
loop-holder-preserved c =
    flat_range_next (λ h. null_stored (c.args.first + h)) c.loop-holder.holder c.loop-holder.items.items c.put_null.new.out.items c.loop-holder.invariant
    c.in_ok-put_null.ensures
