use Rattle.std.proofs.Common.{rules, ◌∙◌, ap, length, drop, ◌+◌, ◌++◌}
use Rattle.fm_base.proofs.ListFacts.{drop_here}
use Rattle.fm_world.specs.Members.{fields_from, fields_of}
use Rattle.fm_link_records.specs.inner.Fields.{field_numbered, fields_among, fields_told}
use Rattle.fm_link_records.specs.inner.Rows.{lent_kinds}
use Rattle.fm_link_records.proofs.RowSteps.{part_step}
use Rattle.fm_link_records.proofs.fields.field_infos.Goals as goal

pub loop-class-init : goal.loop-class-init
unfolding fields_of
loop-class-init c = search rules

pub loop-class-preserved : goal.loop-class-preserved
loop-class-preserved c =
    let class = c.loop-class.class in
    let classes = c.args.classes.now in
    let declared = c.index-classes-class.result in
    part_step (field_numbered (lent_kinds c.args.kinds.now) c.args.slots.now c.args.firsts.now) c.loop-class.infos.items c.add_fields.new.infos.items
    _
    (fields_among class declared.fields) (fields_from (class + 1) (drop (class + 1) classes)) (fields_from class (drop class classes))
    (ap (fields_from class) (drop_here classes class declared c.loop-class-test.true c.index-classes-class.is))
    (c.in_ok-add_fields.ensures
    ∙ ap (λ fs. c.loop-class.infos.items ++ fields_told (lent_kinds c.args.kinds.now) c.args.slots.now c.args.firsts.now (length
    c.loop-class.infos.items)
    (fields_among c.in_ok-number_of.field-0 fs)) c.as_slice-fields.ensures
    ∙ ap (λ k. c.loop-class.infos.items ++ fields_told (lent_kinds c.args.kinds.now) c.args.slots.now c.args.firsts.now (length
    c.loop-class.infos.items)
    (fields_among k declared.fields)) c.in_ok-number_of.ensures)
    c.loop-class.invariant
