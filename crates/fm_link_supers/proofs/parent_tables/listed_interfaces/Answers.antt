use Rattle.std.proofs.Common.{sym, ◌∙◌, ap, ◌++◌, map}
use Rattle.fm_link_names.specs.inner.ClassNumbering.{number_in}
use Rattle.fm_link_supers.proofs.ParentTables.{map_twice}
use Rattle.fm_link_supers.proofs.TableSteps.{lists_push, map_end, map_step, map_step_read}
use Rattle.fm_link_supers.specs.inner.ListTables.{lists}
use Rattle.fm_link_supers.specs.inner.NamedParents.{interfaces_by, listed_by, listed_in}
use Rattle.fm_world.specs.BuiltIns.{built_in}
use Rattle.fm_world.specs.declared.built_ins.BuiltInClass.{BuiltInClass}
use Rattle.fm_world.specs.inner.BuiltInTable.{class_of_row}
use Rattle.fm_link_supers.proofs.parent_tables.listed_interfaces.Goals as goal

pub loop-class-init : goal.loop-class-init
loop-class-init c =
    let find = number_in c.args.numbers.now.numbers in
    let rows = c.built_in_classes-class-items.result.now in
    ap (λ xs. lists xs ++ map (λ (row : BuiltInClass). interfaces_by find (class_of_row row)) rows) c.new-listed.ensures.items
    ∙ sym (map_twice (interfaces_by find) class_of_row rows) ∙ ap (map (interfaces_by find)) c.built_in_classes-class-items.ensures

pub loop-class-preserved : goal.loop-class-preserved
loop-class-preserved c =
    let find = number_in c.args.numbers.now.numbers in
    let found = c.in_ok-listed_by_built_in.field-0 in
    map_step_read (λ (row : BuiltInClass). interfaces_by find (class_of_row row)) c.built_in_classes-class-items.result.now c.loop-class.class-index _
    (lists c.loop-class.listed.items) (lists c.push.new.self.items) (map (interfaces_by find) built_in) found.items c.loop-class-test.true
    (lists_push c.loop-class.listed.items c.push.new.self.items found c.in_ok-push.ensures.items) c.in_ok-listed_by_built_in.ensures c.loop-class.invariant

pub loop-file-init : goal.loop-file-init
loop-file-init c =
    let find = number_in c.args.numbers.now.numbers in
    ap (λ xs. xs ++ map (listed_in find c.args.by_text.now) c.args.files.now)
    (map_end (λ (row : BuiltInClass). interfaces_by find (class_of_row row)) c.built_in_classes-class-items.result.now c.loop-class.class-index (lists c.loop-class.listed.items)
    (map (interfaces_by find) built_in) c.loop-class-test.false c.loop-class.invariant)

pub loop-file-preserved : goal.loop-file-preserved
loop-file-preserved c =
    let find = number_in c.args.numbers.now.numbers in
    let found = c.in_ok-listed_by_file.field-0 in
    map_step (listed_in find c.args.by_text.now) c.args.files.now c.loop-file.file-index c.file-item.result
    (lists c.loop-file.listed.items) (lists c.push-in-loop-file.new.self.items) (listed_by find c.args.by_text.now c.args.files.now) found.items c.loop-file-test.true
    c.file-item.is (lists_push c.loop-file.listed.items c.push-in-loop-file.new.self.items found c.in_ok-push-2.ensures.items) c.in_ok-listed_by_file.ensures c.loop-file.invariant
