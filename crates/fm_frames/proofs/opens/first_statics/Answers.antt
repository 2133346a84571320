use Rattle.std.proofs.Common.{arith}
use Rattle.fm_frames.proofs.FirstValues.{firsts-all, firsts-more}
use Rattle.fm_frames.proofs.opens.first_statics.Goals as goal

pub loop-field-preserved : goal.loop-field-preserved
loop-field-preserved c =
    firsts-more c.args.program.now.outline c.loop-field.field c.field.result.now c.loop-field.statics.items c.add_first.new.statics.items
    (omega (arith, c.loop-field-test.true, c.fields-field-end.ensures)) c.field.ensures c.loop-field.invariant c.in_ok-add_first.ensures

pub returns : goal.returns
returns c =
    firsts-all c.args.program.now.outline c.loop-field.field c.loop-field.statics.items (omega (arith, c.fields-field-end.ensures)) c.loop-field.invariant
