use Rattle.std.proofs.Common.{◌∙◌, ap, length, arith}
use Rattle.fm_check_rows.proofs.MarkLemmas.{length-replaced_to, replaced-all, replaced-more}
use Rattle.fm_check_rows.specs.Outcomes.{marks}
use Rattle.fm_check_rows.proofs.object_rows.replace.Goals as goal

pub replace_slot-requires : goal.replace_slot-requires
replace_slot-requires c =
    let size = ap length c.loop-number.invariant ∙ length-replaced_to (marks c.args.mark) c.args.other c.loop-number.number c.args.slots.now in
    omega (arith, size, c.loop-number-test.true, c.len-number-end.ensures)

pub loop-number-preserved : goal.loop-number-preserved
loop-number-preserved c =
    replaced-more (marks c.args.mark) c.args.other c.loop-number.number c.args.slots.now c.loop-number.slots c.replace_slot.new.slots
    (omega (arith, c.loop-number-test.true, c.len-number-end.ensures)) c.loop-number.invariant c.in_ok-replace_slot.ensures

pub returns : goal.returns
returns c =
    c.loop-number.invariant ∙ replaced-all (marks c.args.mark) c.args.other c.loop-number.number c.args.slots.now (omega (arith, c.len-number-end.ensures))
