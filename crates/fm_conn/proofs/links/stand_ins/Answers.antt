use Rattle.std.proofs.Common.{◌∙◌, ◌++◌}
use Rattle.fm_conn.proofs.ListLemmas.{flat_range_next}
use Rattle.fm_conn.specs.declared.ends.End2.TheVariants as end
use Rattle.fm_conn.specs.inner.PairLists.{end_entry}
use Rattle.fm_conn.proofs.links.stand_ins.Goals as goal

pub loop-k-preserved : goal.loop-k-preserved
loop-k-preserved c =
    flat_range_next _ c.loop-k.k c.loop-k.ends.items c.push_end.new.ends.items c.loop-k.invariant
    (c.in_ok-push_end.ensures ∙ (λ q. c.loop-k.ends.items ++ end_entry (end.Parameter (c.in_ok-local_of.ensures q)) (c.slot-word.ensures q)))
