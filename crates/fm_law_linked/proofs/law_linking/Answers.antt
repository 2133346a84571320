use Rattle.std.proofs.Common.{◌≡◌, refl, subst, ℕ, ◌<◌, List, [], ◌++◌, length, Some}
use Rattle.std.specs.List.{AllByRecursion}
use Rattle.fm_code.specs.Spells.{HasSpelling}
use Rattle.fm_code.specs.declared.class_file.ClassDef.{ClassDef}
use Rattle.fm_check_program.proofs.Trees.{no_built_in_refused, no_parent_refused, tree_of}
use Rattle.fm_link_supers.proofs.BuiltInParents.{are_completed}
use Rattle.fm_law_linked.proofs.ClassChains.{below_object}
use Rattle.fm_law_linked.proofs.GivenFiles.{no_field_refused, no_method_refused, none_missing}
use Rattle.fm_law_linked.proofs.Constants.{plain_constants}
use Rattle.fm_law_linked.proofs.Messages.{message_there}
use Rattle.fm_law_linked.proofs.NamedFields.{fields_there}
use Rattle.fm_law_linked.proofs.NamedMethods.{calls_agree, virtual_of_class}
use Rattle.fm_conn.proofs.TypeLemmas.{types_in}
use Rattle.fm_law_linked.proofs.Numbers.{coded_without_row, one_code_each, owner_there, use_there}
use Rattle.fm_world.specs.BuiltIns.{built_in}
use Rattle.fm_world.specs.Declarations.{declared_from}
use Rattle.fm_law_linked.proofs.Rows.{row_past}
use Rattle.fm_law_linked.proofs.law_linking.Goals as goal
use Rattle.fm_law_linked.specs.Laws.{IsLinkedWell}
use Rattle.fm_world.specs.Linking.{refusals}
use Rattle.fm_world.specs.Numbers.{type_number, type_of_class, types_of}
use Rattle.fm_world.specs.declared.declarations.DeclaredClass.{DeclaredClass}
use Rattle.fm_world.specs.Programs.{classes_of, outline_of, program_of}
use Rattle.fm_world.specs.inner.Completions.{AreCompleted}

abbrev ClassTypes : Type 0
ClassTypes =
    (classes : List DeclaredClass) (given : List ClassDef) (class : ℕ) → class < length classes
    → type_number (types_of classes given) (type_of_class class) ≡ Some class

classes_are : (given : List ClassDef) → classes_of given ≡ built_in ++ declared_from 0 given
unfolding classes_of
classes_are given = refl

linked_well : ClassTypes → (given : List ClassDef) (main : List ℕ) → AllByRecursion HasSpelling given → refusals given main ≡ [] → IsLinkedWell (program_of given main)
unfolding program_of outline_of
linked_well types given main spelled none =
    let apart = no_built_in_refused given main none in
    let no_bad = no_parent_refused given main none in
    let no_method = no_method_refused given main none in
    let tree = tree_of given spelled apart no_bad in
    record {
      given = declared_from 0 given;
      classes = classes_are given;
      completed = subst AreCompleted (classes_are given) (are_completed given apart);
      types = types_in given main;
      owners = owner_there given;
      uses = use_there given main;
      codes = one_code_each given;
      no_row = coded_without_row given;
      class_types = types (classes_of given) given;
      rows = row_past given;
      calls = calls_agree given main no_method;
      tree = tree;
      below_object = below_object given spelled apart no_bad (none_missing given main none) tree;
      no_interface = virtual_of_class given main spelled no_method;
      fields = fields_there given main spelled apart no_bad (no_field_refused given main none) tree;
      message = message_there given main apart tree;
      constants = plain_constants given spelled;
    }

pub returns : goal.returns
returns c = linked_well c.law_class_types.ensures
