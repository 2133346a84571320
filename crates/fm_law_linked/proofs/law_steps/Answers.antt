use Rattle.std.proofs.Common.{◌≡◌, ℕ, List, []}
use Rattle.std.specs.List.{AllByRecursion}
use Rattle.fm_code.specs.Spells.{HasSpelling}
use Rattle.fm_code.specs.declared.class_file.ClassDef.{ClassDef}
use Rattle.fm_check_program.proofs.Trees.{no_built_in_refused, no_parent_refused, tree_of}
use Rattle.fm_law_linked.proofs.Constructors.{constructor_gives}
use Rattle.fm_law_linked.proofs.GivenFiles.{no_field_refused, no_method_refused, none_implemented}
use Rattle.fm_law_linked.proofs.SelectedMethods.{selected_there}
use Rattle.fm_law_linked.proofs.SpecialCalls.{special_there}
use Rattle.fm_law_linked.proofs.Steps.{concrete_there, fields_named, items_few, static_constants, targets_there}
use Rattle.fm_law_linked.proofs.law_steps.Goals as goal
use Rattle.fm_law_linked.specs.Laws.{StepsAreLinked}
use Rattle.fm_world.specs.Linking.{refusals}
use Rattle.fm_world.specs.Programs.{outline_of, program_of}

steps_linked : (given : List ClassDef) (main : List ℕ) → AllByRecursion HasSpelling given → refusals given main ≡ [] → StepsAreLinked (program_of given main)
unfolding program_of outline_of
steps_linked given main spelled none = record {
  concrete = concrete_there given spelled;
  constructors = constructor_gives given spelled;
  selected = selected_there given main spelled (no_built_in_refused given main none) (none_implemented given main none)
      (tree_of given spelled (no_built_in_refused given main none) (no_parent_refused given main none));
  special = special_there given main spelled (no_method_refused given main none) (none_implemented given main none);
  fields = fields_named given main (no_field_refused given main none);
  targets = targets_there given spelled;
  items = items_few given spelled;
  constants = static_constants given;
}

pub returns : goal.returns
returns c = steps_linked
