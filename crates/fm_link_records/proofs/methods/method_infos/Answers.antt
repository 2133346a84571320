use Rattle.std.proofs.Common.{rules, ◌∙◌, ap, length, drop, ◌+◌, ◌++◌}
use Rattle.fm_base.proofs.ListFacts.{drop_here}
use Rattle.fm_world.specs.Members.{methods_from, methods_of}
use Rattle.fm_link_records.specs.inner.Methods.{method_numbered, methods_among, methods_told}
use Rattle.fm_link_records.specs.inner.Rows.{lent_codes, lent_kinds}
use Rattle.fm_link_records.proofs.RowSteps.{part_step}
use Rattle.fm_link_records.proofs.methods.method_infos.Goals as goal

pub loop-class-init : goal.loop-class-init
unfolding methods_of
loop-class-init c = search rules

pub loop-class-preserved : goal.loop-class-preserved
loop-class-preserved c =
    let class = c.loop-class.class in
    let classes = c.args.classes.now in
    let declared = c.index-classes-class.result in
    part_step (method_numbered (lent_kinds c.args.kinds.now) (lent_codes c.args.codes.now)) c.loop-class.infos.items c.add_methods.new.infos.items _
    (methods_among class declared.methods) (methods_from (class + 1) (drop (class + 1) classes)) (methods_from class (drop class classes))
    (ap (methods_from class) (drop_here classes class declared c.loop-class-test.true c.index-classes-class.is))
    (c.in_ok-add_methods.ensures
    ∙ ap (λ ms. c.loop-class.infos.items ++ methods_told (lent_kinds c.args.kinds.now) (lent_codes c.args.codes.now) (length c.loop-class.infos.items)
    (methods_among c.in_ok-number_of.field-0 ms)) c.as_slice-methods.ensures
    ∙ ap (λ k. c.loop-class.infos.items ++ methods_told (lent_kinds c.args.kinds.now) (lent_codes c.args.codes.now) (length c.loop-class.infos.items)
    (methods_among k declared.methods)) c.in_ok-number_of.ensures)
    c.loop-class.invariant
