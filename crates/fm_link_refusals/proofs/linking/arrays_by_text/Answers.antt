use Rattle.std.proofs.Common.{ap, ◌==◌, not}
use Rattle.fm_code.specs.Names.{FieldType}
use Rattle.fm_link_refusals.proofs.MissingNames.{met_more}
use Rattle.fm_link_refusals.specs.inner.Linking.{names_array}
use Rattle.fm_link_refusals.proofs.linking.arrays_by_text.Goals as goal

pub loop-text-preserved : goal.loop-text-preserved
loop-text-preserved c =
    met_more names_array c.args.texts.now c.loop-text.text-index _ c.loop-text.arrays.items c.push.new.self.items _ c.loop-text-test.true
    c.in_ok-push.ensures.items
    (ap (λ (t : FieldType). not (t.dimensions == 0)) c.class_type.ensures) c.loop-text.invariant
