use Rattle.std.proofs.Common.{◌∙◌, ap}
use Rattle.std.specs.List.{flat_map}
use Rattle.fm_link_names.proofs.MarkLemmas.{marks_step}
use Rattle.fm_base.specs.Rows.{marked}
use Rattle.fm_link_names.specs.inner.Marks.{operands_among, operands_in}
use Rattle.fm_link_names.proofs.used.mark_operands.Goals as goal

pub loop-method-preserved : goal.loop-method-preserved
loop-method-preserved c =
    let old = c.loop-method.used.items in
    marks_step operands_in c.args.methods.now c.loop-method.method-index c.method-item.result old c.mark_items.new.used.items
    (marked c.args.used.now.items (flat_map operands_in c.args.methods.now)) c.loop-method-test.true c.method-item.is
    (c.mark_items.ensures ∙ ap (λ items. marked old (operands_among items)) c.items_of.ensures) c.loop-method.invariant
