use Rattle.std.proofs.Common.{◌≡◌, sym, ◌∙◌, ap, ◌||◌, not, true, false, length, Some, None}
use Rattle.fm_link_names.specs.inner.ClassNumbering.{number_in}
use Rattle.fm_world.proofs.Displays.{class_number-within}
use Rattle.fm_world.specs.Causes.{goes_deep, is_array_name}
use Rattle.fm_world.specs.Declarations.{name_at}
use Rattle.fm_world.specs.Descriptors.{class_number}
use Rattle.fm_world.specs.Lookups.{is_interface_at}
use Rattle.fm_link_refusals.proofs.ParentNames.{class_at_index, cycle_at, interface_judged, interface_unnamed}
use Rattle.fm_link_refusals.specs.inner.GivenClasses.{class_in}
use Rattle.fm_link_refusals.proofs.parents.is_bad_interface.Goals as goal

pub returns-then-is_interface_at : goal.returns-then-is_interface_at
returns-then-is_interface_at c = λ classes texts judges numbered.
    let class = c.in-Some.class in
    let name = name_at (class_in c.args.file.now).pool.entries c.args.index in
    let find = number_in c.args.ancestry.numbers.now.numbers in
    let number : class_number classes name ≡ Some class =
    sym (class_at_index classes texts find c.args.ancestry.by_text.now c.args.file.now judges.numbers judges.by_text numbered c.args.index)
    ∙ sym c.class_listed.ensures ∙ c.in-Some.is in
    let deep = goes_deep (length classes) classes class in
    let is : is_interface_at classes class ≡ true =
    ap (λ cs. is_interface_at cs class) (sym judges.ancestors.classes_are) ∙ sym c.is_interface_at.ensures ∙ c.if-is_interface_at.true in
    c.is_marked.ensures
    ∙ cycle_at classes c.as_slice.result.now (c.as_slice.ensures.value ∙ judges.ancestors.cycles) class
    (class_number-within classes name class number)
    ∙ ap (λ b. not b || deep) (sym is)
    ∙ sym (interface_judged classes name class (ap is_array_name (sym c.name_at.ensures) ∙ sym c.is_array_name.ensures
    ∙ c.if-is_array_name.false) number)

pub returns-else-is_interface_at : goal.returns-else-is_interface_at
returns-else-is_interface_at c = λ classes texts judges numbered.
    let class = c.in-Some.class in
    let name = name_at (class_in c.args.file.now).pool.entries c.args.index in
    let find = number_in c.args.ancestry.numbers.now.numbers in
    let number : class_number classes name ≡ Some class =
    sym (class_at_index classes texts find c.args.ancestry.by_text.now c.args.file.now judges.numbers judges.by_text numbered c.args.index)
    ∙ sym c.class_listed.ensures ∙ c.in-Some.is in
    let deep = goes_deep (length classes) classes class in
    let is : is_interface_at classes class ≡ false =
    ap (λ cs. is_interface_at cs class) (sym judges.ancestors.classes_are) ∙ sym c.is_interface_at.ensures ∙ c.if-is_interface_at.false in
    ap (λ b. not b || deep) (sym is)
    ∙ sym (interface_judged classes name class (ap is_array_name (sym c.name_at.ensures) ∙ sym c.is_array_name.ensures
    ∙ c.if-is_array_name.false) number)

pub returns-in-None : goal.returns-in-None
returns-in-None c = λ classes texts judges numbered.
    let name = name_at (class_in c.args.file.now).pool.entries c.args.index in
    let find = number_in c.args.ancestry.numbers.now.numbers in
    let number : class_number classes name ≡ None =
    sym (class_at_index classes texts find c.args.ancestry.by_text.now c.args.file.now judges.numbers judges.by_text numbered c.args.index)
    ∙ sym c.class_listed.ensures ∙ c.in-None.is in
    sym (interface_unnamed classes name (ap is_array_name (sym c.name_at.ensures) ∙ sym c.is_array_name.ensures ∙ c.if-is_array_name.false) number)
