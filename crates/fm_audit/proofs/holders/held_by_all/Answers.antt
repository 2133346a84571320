use Rattle.std.proofs.Common.{sym, arith}
use Rattle.std.specs.List.{range_with_len}
use Rattle.fm_audit.proofs.HeldLemmas.{held_ends, held_more, held_stops}
use Rattle.fm_audit.specs.inner.Holders.{held_by_all}
use Rattle.fm_audit.proofs.holders.held_by_all.Goals as goal

pub returns-in_default : goal.returns-in_default
returns-in_default c =
    sym (held_stops c.args.sites.now c.args.after.now c.loop-holder.holder c.args.holders
    (held_by_all c.args.sites.now c.args.after.now (range_with_len 0 c.args.holders)) c.loop-holder.held.items c.loop-holder-test.true
    (sym c.in_default.ensures) c.loop-holder.invariant)

pub loop-holder-preserved : goal.loop-holder-preserved
loop-holder-preserved c =
    held_more c.args.sites.now c.args.after.now c.loop-holder.holder c.args.holders
    (held_by_all c.args.sites.now c.args.after.now (range_with_len 0 c.args.holders)) c.in-Some.pair c.loop-holder.held.items c.push.new.self.items
    c.loop-holder-test.true (sym c.in-Some.ensures) c.in_ok-push.ensures.items c.loop-holder.invariant

pub returns : goal.returns
returns c =
    held_ends c.args.sites.now c.args.after.now c.loop-holder.holder c.args.holders
    (held_by_all c.args.sites.now c.args.after.now (range_with_len 0 c.args.holders)) c.loop-holder.held.items (omega arith) c.loop-holder.invariant
