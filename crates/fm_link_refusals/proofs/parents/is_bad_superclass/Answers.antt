use Rattle.std.proofs.Common.{◌≡◌, sym, ◌∙◌, ap, ◌&&◌, not, length}
use Rattle.std.specs.List.{list_any}
use Rattle.std.specs.Str.{bytes_eq}
use Rattle.fm_code.specs.AccessFlags.{is_interface}
use Rattle.fm_link_names.specs.inner.ClassNumbering.{number_in}
use Rattle.fm_link_supers.specs.inner.ParentTable.{climbs}
use Rattle.fm_world.specs.BuiltIns.{object_name, sealed_names}
use Rattle.fm_world.specs.Causes.{goes_up, is_array_name, is_there_and}
use Rattle.fm_world.specs.Declarations.{name_at}
use Rattle.fm_world.specs.Descriptors.{class_number}
use Rattle.fm_world.specs.Lookups.{is_interface_at}
use Rattle.fm_link_supers.proofs.ParentTables.{climbs_is}
use Rattle.fm_link_refusals.proofs.ParentNames.{class_at_index, first_fault, fourth_fault, last_fault, second_fault, third_fault}
use Rattle.fm_link_refusals.specs.inner.GivenClasses.{class_in}
use Rattle.fm_link_refusals.proofs.parents.is_bad_superclass.Goals as goal

pub returns-then-is_array_name : goal.returns-then-is_array_name
returns-then-is_array_name c = λ classes texts judges numbered.
    let class = class_in c.args.file.now in
    let name = name_at class.pool.entries class.super_class in
    let named = sym c.name_at-name.ensures in
    let parents = c.args.ancestry.ancestors.now.parents.items in
    let find = number_in c.args.ancestry.numbers.now.numbers in
    let r = c.class_listed-class.result in
    let number : class_number classes name ≡ r =
    sym (class_at_index classes texts find c.args.ancestry.by_text.now c.args.file.now judges.numbers judges.by_text numbered class.super_class)
    ∙ sym c.class_listed-class.ensures in
    let is_array = is_array_name name in
    let is_below = is_there_and (is_interface_at classes) (class_number classes name) in
    let goes = goes_up (length classes) classes (class_number classes name) in
    let is_other = is_interface class.flags && not (bytes_eq name object_name) in
    let is_sealed = list_any (bytes_eq name) sealed_names in
    first_fault is_array is_below goes is_other is_sealed
    (ap is_array_name named ∙ sym c.is_array_name.ensures ∙ c.if-is_array_name.true)

pub returns-then-is_interface_there : goal.returns-then-is_interface_there
returns-then-is_interface_there c = λ classes texts judges numbered.
    let class = class_in c.args.file.now in
    let name = name_at class.pool.entries class.super_class in
    let named = sym c.name_at-name.ensures in
    let parents = c.args.ancestry.ancestors.now.parents.items in
    let find = number_in c.args.ancestry.numbers.now.numbers in
    let r = c.class_listed-class.result in
    let number : class_number classes name ≡ r =
    sym (class_at_index classes texts find c.args.ancestry.by_text.now c.args.file.now judges.numbers judges.by_text numbered class.super_class)
    ∙ sym c.class_listed-class.ensures in
    let is_array = is_array_name name in
    let is_below = is_there_and (is_interface_at classes) (class_number classes name) in
    let goes = goes_up (length classes) classes (class_number classes name) in
    let is_other = is_interface class.flags && not (bytes_eq name object_name) in
    let is_sealed = list_any (bytes_eq name) sealed_names in
    second_fault is_array is_below goes is_other is_sealed
    (ap is_array_name named ∙ sym c.is_array_name.ensures ∙ c.if-is_array_name.false)
    (ap (is_there_and (is_interface_at classes)) number ∙ ap (λ cs. is_there_and (is_interface_at cs) r) (sym judges.ancestors.classes_are)
    ∙ sym c.is_interface_there.ensures
    ∙ c.if-is_interface_there.true)

pub returns-then-goes_up : goal.returns-then-goes_up
returns-then-goes_up c = λ classes texts judges numbered.
    let class = class_in c.args.file.now in
    let name = name_at class.pool.entries class.super_class in
    let named = sym c.name_at-name.ensures in
    let parents = c.args.ancestry.ancestors.now.parents.items in
    let find = number_in c.args.ancestry.numbers.now.numbers in
    let r = c.class_listed-class.result in
    let number : class_number classes name ≡ r =
    sym (class_at_index classes texts find c.args.ancestry.by_text.now c.args.file.now judges.numbers judges.by_text numbered class.super_class)
    ∙ sym c.class_listed-class.ensures in
    let is_array = is_array_name name in
    let is_below = is_there_and (is_interface_at classes) (class_number classes name) in
    let goes = goes_up (length classes) classes (class_number classes name) in
    let is_other = is_interface class.flags && not (bytes_eq name object_name) in
    let is_sealed = list_any (bytes_eq name) sealed_names in
    third_fault is_array is_below goes is_other is_sealed
    (ap is_array_name named ∙ sym c.is_array_name.ensures ∙ c.if-is_array_name.false)
    (ap (is_there_and (is_interface_at classes)) number ∙ ap (λ cs. is_there_and (is_interface_at cs) r) (sym judges.ancestors.classes_are)
    ∙ sym c.is_interface_there.ensures
    ∙ c.if-is_interface_there.false)
    (ap (goes_up (length classes) classes) number ∙ sym (climbs_is classes parents judges.ancestors.parents r)
    ∙ ap (λ ps. climbs (length ps) ps r) (sym c.as_slice.ensures.value) ∙ sym c.goes_up.ensures ∙ c.if-goes_up.true)

pub returns-then-is_interface_below : goal.returns-then-is_interface_below
returns-then-is_interface_below c = λ classes texts judges numbered.
    let class = class_in c.args.file.now in
    let name = name_at class.pool.entries class.super_class in
    let named = sym c.name_at-name.ensures in
    let parents = c.args.ancestry.ancestors.now.parents.items in
    let find = number_in c.args.ancestry.numbers.now.numbers in
    let r = c.class_listed-class.result in
    let number : class_number classes name ≡ r =
    sym (class_at_index classes texts find c.args.ancestry.by_text.now c.args.file.now judges.numbers judges.by_text numbered class.super_class)
    ∙ sym c.class_listed-class.ensures in
    let is_array = is_array_name name in
    let is_below = is_there_and (is_interface_at classes) (class_number classes name) in
    let goes = goes_up (length classes) classes (class_number classes name) in
    let is_other = is_interface class.flags && not (bytes_eq name object_name) in
    let is_sealed = list_any (bytes_eq name) sealed_names in
    fourth_fault is_array is_below goes is_other is_sealed
    (ap is_array_name named ∙ sym c.is_array_name.ensures ∙ c.if-is_array_name.false)
    (ap (is_there_and (is_interface_at classes)) number ∙ ap (λ cs. is_there_and (is_interface_at cs) r) (sym judges.ancestors.classes_are)
    ∙ sym c.is_interface_there.ensures
    ∙ c.if-is_interface_there.false)
    (ap (goes_up (length classes) classes) number ∙ sym (climbs_is classes parents judges.ancestors.parents r)
    ∙ ap (λ ps. climbs (length ps) ps r) (sym c.as_slice.ensures.value) ∙ sym c.goes_up.ensures ∙ c.if-goes_up.false)
    (ap (λ n. is_interface class.flags && not (bytes_eq n object_name)) named ∙ sym c.is_interface_below.ensures ∙ c.if-is_interface_below.true)

pub returns : goal.returns
returns c = λ classes texts judges numbered.
    let class = class_in c.args.file.now in
    let name = name_at class.pool.entries class.super_class in
    let named = sym c.name_at-name.ensures in
    let parents = c.args.ancestry.ancestors.now.parents.items in
    let find = number_in c.args.ancestry.numbers.now.numbers in
    let r = c.class_listed-class.result in
    let number : class_number classes name ≡ r =
    sym (class_at_index classes texts find c.args.ancestry.by_text.now c.args.file.now judges.numbers judges.by_text numbered class.super_class)
    ∙ sym c.class_listed-class.ensures in
    let is_array = is_array_name name in
    let is_below = is_there_and (is_interface_at classes) (class_number classes name) in
    let goes = goes_up (length classes) classes (class_number classes name) in
    let is_other = is_interface class.flags && not (bytes_eq name object_name) in
    let is_sealed = list_any (bytes_eq name) sealed_names in
    c.is_sealed.ensures
    ∙ ap (λ n. list_any (bytes_eq n) sealed_names) c.name_at-name.ensures
    ∙ last_fault is_array is_below goes is_other is_sealed
    (ap is_array_name named ∙ sym c.is_array_name.ensures ∙ c.if-is_array_name.false)
    (ap (is_there_and (is_interface_at classes)) number ∙ ap (λ cs. is_there_and (is_interface_at cs) r) (sym judges.ancestors.classes_are)
    ∙ sym c.is_interface_there.ensures
    ∙ c.if-is_interface_there.false)
    (ap (goes_up (length classes) classes) number ∙ sym (climbs_is classes parents judges.ancestors.parents r)
    ∙ ap (λ ps. climbs (length ps) ps r) (sym c.as_slice.ensures.value) ∙ sym c.goes_up.ensures ∙ c.if-goes_up.false)
    (ap (λ n. is_interface class.flags && not (bytes_eq n object_name)) named ∙ sym c.is_interface_below.ensures ∙ c.if-is_interface_below.false)
