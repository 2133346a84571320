use Rattle.std.proofs.Common.{length, arith}
use Rattle.fm_audit.proofs.FreedLemmas.{all_end, all_more, all_stops}
use Rattle.fm_audit.specs.inner.Frees.{are_freed_there, is_freed_there}
use Rattle.fm_audit.proofs.frees.is_each_freed_there.Goals as goal

pub returns-then-not-is_freed_there : goal.returns-then-not-is_freed_there
returns-then-not-is_freed_there c =
    all_stops (is_freed_there c.args.classes.now c.args.busy.now c.args.holding.now.rows.items c.args.item c.args.pairs.now) c.loop-holder.holder
    (length c.args.classes.now) c.is_freed_there.result
    (are_freed_there c.args.classes.now c.args.busy.now c.args.holding.now.rows.items c.args.item c.args.pairs.now) (omega arith)
    c.is_freed_there.ensures c.if-not-is_freed_there.true c.loop-holder.invariant

pub loop-holder-preserved : goal.loop-holder-preserved
loop-holder-preserved c =
    all_more (is_freed_there c.args.classes.now c.args.busy.now c.args.holding.now.rows.items c.args.item c.args.pairs.now) c.loop-holder.holder
    (length c.args.classes.now) c.is_freed_there.result
    (are_freed_there c.args.classes.now c.args.busy.now c.args.holding.now.rows.items c.args.item c.args.pairs.now) (omega arith)
    c.is_freed_there.ensures c.if-not-is_freed_there.false c.loop-holder.invariant

pub returns : goal.returns
returns c =
    all_end (is_freed_there c.args.classes.now c.args.busy.now c.args.holding.now.rows.items c.args.item c.args.pairs.now) c.loop-holder.holder
    (length c.args.classes.now)
    (are_freed_there c.args.classes.now c.args.busy.now c.args.holding.now.rows.items c.args.item c.args.pairs.now) (omega arith)
    c.loop-holder.invariant
