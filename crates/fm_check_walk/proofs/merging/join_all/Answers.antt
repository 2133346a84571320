use Rattle.std.proofs.Common.{◌∙◌, ap, length, arith}
use Rattle.fm_check_walk.proofs.MergingLemmas.{joined-all, joined-more, length-joined_to}
use Rattle.fm_check_walk.proofs.merging.join_all.Goals as goal

pub join_one-requires : goal.join_one-requires
join_one-requires c =
    let size = ap length c.loop-number.invariant
    ∙ length-joined_to c.args.program.now.outline c.loop-number.number c.args.slots.now c.args.others.now in
    omega (arith, size, c.loop-number-test.true, c.len-number-end.ensures, c.requires)

pub loop-number-preserved : goal.loop-number-preserved
loop-number-preserved c =
    joined-more c.args.program.now.outline c.loop-number.number c.args.slots.now c.args.others.now c.loop-number.slots c.join_one.new.slots c.slot.result
    (omega (arith, c.loop-number-test.true, c.len-number-end.ensures, c.requires)) c.requires c.loop-number.invariant c.slot.ensures c.in_ok-join_one.ensures

pub returns : goal.returns
returns c =
    c.loop-number.invariant
    ∙ joined-all c.args.program.now.outline c.loop-number.number c.args.slots.now c.args.others.now (omega (arith, c.len-number-end.ensures, c.requires)) c.requires
