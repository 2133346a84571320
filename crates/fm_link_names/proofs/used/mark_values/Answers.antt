use Rattle.std.proofs.Common.{sym, ◌∙◌, ap}
use Rattle.std.specs.List.{flat_map}
use Rattle.fm_link_names.proofs.MarkLemmas.{marks_step, values_are}
use Rattle.fm_base.specs.Rows.{marked}
use Rattle.fm_link_names.specs.inner.Marks.{values_among}
use Rattle.fm_world.specs.Uses.{values_of}
use Rattle.fm_link_names.proofs.used.mark_values.Goals as goal

pub loop-field-preserved : goal.loop-field-preserved
loop-field-preserved c =
    let old = c.loop-field.used.items in
    let field = c.field-item.result in
    marks_step values_of c.args.fields.now c.loop-field.field-index field old c.mark_value.new.used.items
    (marked c.args.used.now.items (flat_map values_of c.args.fields.now)) c.loop-field-test.true c.field-item.is
    (c.mark_value.ensures ∙ ap (λ attributes. marked old (values_among attributes)) c.as_slice.ensures ∙ ap (marked old) (sym (values_are field)))
    c.loop-field.invariant
