use Rattle.std.proofs.Common.{◌∙◌, ◌++◌, ◌∷◌, [], ap, cond}
use Rattle.fm_conn.proofs.ListLemmas.{flat_range_next}
use Rattle.fm_conn.specs.declared.ends.End2.TheVariants as end
use Rattle.fm_conn.specs.inner.NodeTables.{class_at}
use Rattle.fm_conn.specs.inner.PairLists.{parameter_entry}
use Rattle.fm_conn.proofs.own_classes.references_of.Goals as goal

pub loop-k-preserved : goal.loop-k-preserved
loop-k-preserved c =
    let class = c.class_at.ensures ∙ ap (class_at c.args.least.now) c.from.ensures in
    flat_range_next (parameter_entry c.args.least.now c.args.locals.now) c.loop-k.k c.loop-k.ends.items c.push_if.new.ends.items c.loop-k.invariant
    (c.in_ok-push_if.ensures
    ∙ (λ q. c.loop-k.ends.items ++ cond (c.is_reference_at.ensures q) ((end.Parameter c.loop-k.k, class q) ∷ []) []))
