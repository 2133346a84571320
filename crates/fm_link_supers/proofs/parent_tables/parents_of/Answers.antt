use Rattle.std.proofs.Common.{sym, ◌∙◌, ap, ◌++◌, map}
use Rattle.fm_link_names.specs.declared.given.GivenFile.{GivenFile}
use Rattle.fm_link_names.specs.inner.ClassNumbering.{number_in}
use Rattle.fm_link_supers.proofs.ParentTables.{map_twice}
use Rattle.fm_link_supers.proofs.TableSteps.{map_end, map_step, map_step_read}
use Rattle.fm_link_supers.specs.inner.NamedParents.{class_named_in, parents_by, superclass_by}
use Rattle.fm_world.specs.BuiltIns.{built_in}
use Rattle.fm_world.specs.declared.built_ins.BuiltInClass.{BuiltInClass}
use Rattle.fm_world.specs.inner.BuiltInTable.{class_of_row}
use Rattle.fm_link_supers.proofs.parent_tables.parents_of.Goals as goal

pub loop-class-init : goal.loop-class-init
loop-class-init c =
    let find = number_in c.args.numbers.now.numbers in
    let rows = c.built_in_classes-class-items.result.now in
    ap (λ xs. xs ++ map (λ (row : BuiltInClass). superclass_by find c.args.files.now (class_of_row row)) rows) c.new-parents.ensures.items
    ∙ sym (map_twice (superclass_by find c.args.files.now) class_of_row rows) ∙ ap (map (superclass_by find c.args.files.now)) c.built_in_classes-class-items.ensures

pub loop-class-preserved : goal.loop-class-preserved
loop-class-preserved c =
    let find = number_in c.args.numbers.now.numbers in
    map_step_read (λ (row : BuiltInClass). superclass_by find c.args.files.now (class_of_row row)) c.built_in_classes-class-items.result.now c.loop-class.class-index _
    c.loop-class.parents.items c.push.new.self.items (map (superclass_by find c.args.files.now) built_in) c.in_ok-parent_of_built_in.field-0 c.loop-class-test.true c.in_ok-push.ensures.items
    c.in_ok-parent_of_built_in.ensures c.loop-class.invariant

pub loop-file-init : goal.loop-file-init
loop-file-init c =
    let find = number_in c.args.numbers.now.numbers in
    ap (λ xs. xs ++ map (λ (file : GivenFile). class_named_in c.args.by_text.now file file.class.now.super_class) c.args.files.now)
    (map_end (λ (row : BuiltInClass). superclass_by find c.args.files.now (class_of_row row)) c.built_in_classes-class-items.result.now c.loop-class.class-index c.loop-class.parents.items
    (map (superclass_by find c.args.files.now) built_in) c.loop-class-test.false c.loop-class.invariant)

pub loop-file-preserved : goal.loop-file-preserved
loop-file-preserved c =
    map_step (λ (file : GivenFile). class_named_in c.args.by_text.now file file.class.now.super_class) c.args.files.now c.loop-file.file-index c.file-item.result
    c.loop-file.parents.items c.push-in-loop-file.new.self.items (parents_by (number_in c.args.numbers.now.numbers) c.args.by_text.now c.args.files.now) c.class_named.result c.loop-file-test.true
    c.file-item.is c.in_ok-push-2.ensures.items c.class_named.ensures c.loop-file.invariant
