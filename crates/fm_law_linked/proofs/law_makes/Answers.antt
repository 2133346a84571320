use Rattle.std.proofs.Common.{◌≡◌, ℕ, List, []}
use Rattle.std.specs.List.{AllByRecursion}
use Rattle.fm_code.specs.Spells.{HasSpelling}
use Rattle.fm_code.specs.declared.class_file.ClassDef.{ClassDef}
use Rattle.fm_check_program.proofs.Trees.{no_built_in_refused, no_parent_refused, tree_of}
use Rattle.fm_law_linked.proofs.GivenFiles.{no_field_refused}
use Rattle.fm_law_linked.proofs.MadeTypes.{arguments_numbered, elements_numbered}
use Rattle.fm_law_linked.proofs.Making.{made_there}
use Rattle.fm_law_linked.proofs.LiteralTexts.{literals_short}
use Rattle.fm_law_linked.proofs.TypeNames.{names_fit}
use Rattle.fm_law_linked.proofs.law_makes.Goals as goal
use Rattle.fm_law_linked.specs.Makes.{MakesAreLinked}
use Rattle.fm_world.specs.Linking.{refusals}
use Rattle.fm_world.specs.Programs.{outline_of, program_of}

makes_linked : (given : List ClassDef) (main : List ℕ) → AllByRecursion HasSpelling given → refusals given main ≡ [] → MakesAreLinked (program_of given main)
unfolding program_of outline_of
makes_linked given main spelled none =
    let apart = no_built_in_refused given main none in
    let no_bad = no_parent_refused given main none in
    record {
      elements = elements_numbered given main;
      names = names_fit given main spelled;
      texts = literals_short given main spelled;
      arguments = arguments_numbered given main;
      made = made_there given main spelled apart no_bad (no_field_refused given main none) (tree_of given spelled apart no_bad);
    }

pub returns : goal.returns
returns c = makes_linked
