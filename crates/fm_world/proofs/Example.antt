-- The example computed: each fact by running the definitions.
use Rattle.std.proofs.Common.{◌+◌, true, false, nat_eq, ◌≡◌, refl, [], ◌∷◌, codes, drop, length, Some, slice_get}
use Rattle.std.specs.List.{filter_map, list_all, list_any, range_with_len}
use Rattle.std.specs.Option.{option_map}
use Rattle.fm_world.specs.Rows.{hidden_kinds, row_of}
use Rattle.fm_world.specs.Descriptors.{class_number}
use Rattle.fm_world.specs.BuiltIns.{built_in, built_in_classes, built_in_methods, built_in_rows, free_me_row, throwable_row}
use Rattle.fm_world.specs.Causes.{BuiltIn, Duplicate, BadParent, MissingClass, MissingField, NotImplemented, NoMain}
use Rattle.fm_world.specs.Chains.{chain_of, distinct, superinterfaces_of, interfaces_of, is_sub}
use Rattle.fm_world.specs.Example.{array_types, call_of_k, call_of_to_string, call_on_array, called_in_packages, castable, not_castable, example, example_main, example_upper, first_method, main_uses, refusal, with_completion, with_cycle, with_interfaces, with_packages, with_private, with_static_field, with_free_me}
use Rattle.fm_world.specs.Linking.{refused_duplicates, refused_built_ins, refused_missing_classes, refused_parents, refused_fields, refused_methods, refused_not_implemented, refused_main, refusals}
use Rattle.fm_world.specs.Lookups.{constructor_path, package_of, resolved_field, resolved_method, select, special_target}
use Rattle.fm_world.specs.Members.{fields_of, kinds_of, methods_of, size_of, slot_of}
use Rattle.fm_world.specs.Numbers.{types_of, texts_of}
use Rattle.fm_world.specs.Programs.{classes_of, outline_of, uses_of, codes_of, program_of, targets}
use Rattle.fm_world.specs.Uses.{used_indices}

pub classes_are : length built_in ≡ built_in_classes
unfolding built_in
classes_are = refl

pub methods_are : length (methods_of built_in) ≡ built_in_methods
unfolding built_in methods_of
methods_are = refl

pub accepted : refusals example (codes "M") ≡ []
unfolding refusals refused_duplicates refused_built_ins refused_missing_classes refused_parents refused_fields refused_methods refused_not_implemented refused_main select special_target built_in classes_of chain_of superinterfaces_of interfaces_of methods_of fields_of resolved_field resolved_method used_indices
accepted = refl

pub uses_are : slice_get (program_of example (codes "M")).uses built_in_classes ≡ Some main_uses
unfolding program_of outline_of types_of texts_of uses_of codes_of built_in classes_of chain_of superinterfaces_of interfaces_of methods_of fields_of resolved_field resolved_method used_indices
uses_are = refl

pub types_are : drop (built_in_classes + 3) (program_of example (codes "M")).outline.types ≡ array_types
unfolding program_of outline_of types_of texts_of uses_of codes_of built_in classes_of chain_of superinterfaces_of interfaces_of methods_of fields_of resolved_field resolved_method used_indices
types_are = refl

pub texts_are : (program_of example (codes "M")).outline.texts ≡ codes "hi" ∷ []
unfolding program_of outline_of types_of texts_of uses_of codes_of built_in classes_of chain_of superinterfaces_of interfaces_of methods_of fields_of resolved_field resolved_method used_indices
texts_are = refl

pub main_is : (program_of example (codes "M")).outline.main ≡ built_in_methods
unfolding program_of outline_of types_of texts_of uses_of codes_of built_in classes_of chain_of superinterfaces_of interfaces_of methods_of fields_of resolved_field resolved_method used_indices
main_is = refl

pub chain_is : chain_of (classes_of example) (built_in_classes + 2) ≡ (built_in_classes + 2) ∷ (built_in_classes + 1) ∷ 0 ∷ []
unfolding built_in classes_of chain_of
chain_is = refl

pub size_is : size_of (classes_of example) (built_in_classes + 2) ≡ 2
unfolding built_in chain_of classes_of size_of
size_is = refl

pub slot_is : slot_of (classes_of example) 4 ≡ 1
unfolding built_in chain_of classes_of fields_of slot_of
slot_is = refl

pub selected_is : select (classes_of example) (built_in_classes + 2) (built_in_methods + 2) ≡ Some (built_in_methods + 4)
unfolding built_in classes_of chain_of methods_of select
selected_is = refl

pub targets_are : targets (program_of example (codes "M")) call_of_k ≡ (built_in_methods + 2) ∷ (built_in_methods + 4) ∷ []
unfolding targets select special_target is_sub program_of outline_of types_of texts_of uses_of codes_of built_in classes_of chain_of superinterfaces_of interfaces_of methods_of fields_of resolved_field resolved_method used_indices
targets_are = refl

pub duplicate : slice_get (refusals (example_main ∷ example) (codes "M")) 0 ≡ Some (refusal Duplicate (codes "M") (codes "M"))
unfolding refusals refused_duplicates refused_built_ins refused_missing_classes refused_parents refused_fields refused_methods refused_not_implemented refused_main select special_target built_in classes_of chain_of superinterfaces_of interfaces_of methods_of fields_of resolved_field resolved_method used_indices
duplicate = refl

pub missing_class : slice_get (refusals (example_main ∷ example_upper ∷ []) (codes "M")) 0 ≡ Some (refusal MissingClass (codes "B") (codes "M"))
unfolding refusals refused_duplicates refused_built_ins refused_missing_classes refused_parents refused_fields refused_methods refused_not_implemented refused_main select special_target built_in classes_of chain_of superinterfaces_of interfaces_of methods_of fields_of resolved_field resolved_method used_indices
missing_class = refl

pub cycle : slice_get (refusals with_cycle (codes "M")) 0 ≡ Some (refusal BadParent (codes "B") (codes "A"))
unfolding refusals refused_duplicates refused_built_ins refused_missing_classes refused_parents refused_fields refused_methods refused_not_implemented refused_main select special_target built_in classes_of chain_of superinterfaces_of interfaces_of methods_of fields_of resolved_field resolved_method used_indices
cycle = refl

pub static_field : slice_get (refusals with_static_field (codes "M")) 0 ≡ Some (refusal MissingField (codes "B.x") (codes "M"))
unfolding refusals refused_duplicates refused_built_ins refused_missing_classes refused_parents refused_fields refused_methods refused_not_implemented refused_main select special_target built_in classes_of chain_of superinterfaces_of interfaces_of methods_of fields_of resolved_field resolved_method used_indices
static_field = refl

pub no_main_is : refusals example (codes "A") ≡ refusal NoMain (codes "A") (codes "A") ∷ []
unfolding refusals refused_duplicates refused_built_ins refused_missing_classes refused_parents refused_fields refused_methods refused_not_implemented refused_main select special_target built_in classes_of chain_of superinterfaces_of interfaces_of methods_of fields_of resolved_field resolved_method used_indices
no_main_is = refl

pub rows_are : distinct nat_eq (filter_map (λ m. m.method.row) (methods_of built_in)) ≡ range_with_len 0 built_in_rows
unfolding built_in methods_of
rows_are = refl

pub free_row : row_of (codes "FreeMe") (codes "free") (codes "(Ljava/lang/Object;)V") ≡ Some free_me_row
unfolding built_in methods_of
free_row = refl

pub throwable_row_is : row_of (codes "java/lang/Throwable") (codes "<init>") (codes "()V") ≡ Some throwable_row
unfolding built_in methods_of
throwable_row_is = refl

pub last_throwable_row : row_of (codes "java/lang/CloneNotSupportedException") (codes "<init>") (codes "()V") ≡ Some throwable_row
unfolding built_in methods_of
last_throwable_row = refl

pub hidden_is : option_map (kinds_of built_in) (class_number built_in (codes "java/lang/NullPointerException")) ≡ Some hidden_kinds
unfolding built_in chain_of kinds_of
hidden_is = refl

pub interfaces_are : superinterfaces_of (classes_of with_interfaces) (built_in_classes + 2) ≡ (built_in_classes + 1) ∷ 26 ∷ built_in_classes ∷ []
unfolding built_in classes_of superinterfaces_of
interfaces_are = refl

pub not_implemented : slice_get (refusals with_interfaces (codes "C")) 0 ≡ Some (refusal NotImplemented (codes "J.m()V") (codes "C"))
unfolding refusals refused_duplicates refused_built_ins refused_missing_classes refused_parents refused_fields refused_methods refused_not_implemented refused_main select special_target built_in classes_of chain_of superinterfaces_of interfaces_of methods_of fields_of resolved_field resolved_method used_indices
not_implemented = refl

pub passed_over : select (classes_of with_private) (built_in_classes + 2) built_in_methods ≡ Some built_in_methods
unfolding built_in classes_of chain_of methods_of select
passed_over = refl

pub itself : select (classes_of with_private) (built_in_classes + 2) (built_in_methods + 1) ≡ Some (built_in_methods + 1)
unfolding built_in classes_of chain_of methods_of select
itself = refl

pub special : special_target (classes_of with_private) (built_in_classes + 2) (Some built_in_classes) built_in_methods ≡ built_in_methods + 1
unfolding built_in classes_of chain_of methods_of special_target
special = refl

pub packages_are : filter_map (λ class. select (classes_of with_packages) class built_in_methods) (range_with_len built_in_classes 5) ≡ called_in_packages
unfolding built_in classes_of chain_of methods_of select package_of
packages_are = refl

pub completed : chain_of (classes_of with_completion) 2 ≡ 2 ∷ built_in_classes ∷ 0 ∷ []
unfolding built_in classes_of chain_of
completed = refl

pub added : select (classes_of with_completion) 2 built_in_methods ≡ Some built_in_methods
unfolding built_in classes_of chain_of methods_of select
added = refl

pub constructors_are : constructor_path (classes_of with_completion) 2 ≡ 2 ∷ built_in_classes ∷ []
unfolding built_in classes_of
constructors_are = refl

pub completion_accepted : refusals with_completion (codes "M") ≡ refusal NoMain (codes "M") (codes "M") ∷ []
unfolding refusals refused_duplicates refused_built_ins refused_missing_classes refused_parents refused_fields refused_methods refused_not_implemented refused_main select special_target built_in classes_of chain_of superinterfaces_of interfaces_of methods_of fields_of resolved_field resolved_method used_indices
completion_accepted = refl

pub refused : slice_get (refusals with_free_me (codes "M")) 0
    ≡ Some (refusal BuiltIn (codes "FreeMe") (codes "FreeMe"))
unfolding refusals refused_duplicates refused_built_ins refused_missing_classes refused_parents refused_fields refused_methods refused_not_implemented refused_main select special_target built_in classes_of chain_of superinterfaces_of interfaces_of methods_of fields_of resolved_field resolved_method used_indices
refused = refl

pub of_object_are : targets (program_of example (codes "M")) call_of_to_string ≡ 3 ∷ (first_method 1 + 5) ∷ (first_method 2 + 7) ∷ (first_method 3 + 7) ∷ (first_method 7 + 3) ∷ []
unfolding targets select special_target is_sub program_of outline_of types_of texts_of uses_of codes_of built_in classes_of chain_of superinterfaces_of interfaces_of methods_of fields_of resolved_field resolved_method used_indices
of_object_are = refl

pub of_array_are : targets (program_of example (codes "M")) call_on_array ≡ 3 ∷ []
unfolding targets select special_target is_sub program_of outline_of types_of texts_of uses_of codes_of built_in classes_of chain_of superinterfaces_of interfaces_of methods_of fields_of resolved_field resolved_method used_indices
of_array_are = refl

pub castable_are : list_all (λ pair. is_sub built_in pair.0 pair.1) castable ≡ true
unfolding built_in chain_of superinterfaces_of interfaces_of is_sub
castable_are = refl

pub not_castable_are : list_any (λ pair. is_sub built_in pair.0 pair.1) not_castable ≡ false
unfolding built_in chain_of superinterfaces_of interfaces_of is_sub
not_castable_are = refl
