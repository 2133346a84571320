use Rattle.std.proofs.Common.{ℕ, List}
use Rattle.std.specs.List.{AllByRecursion}
use Rattle.fm_code.specs.Spells.{HasSpelling}
use Rattle.fm_code.specs.declared.class_file.ClassDef.{ClassDef}
use Rattle.fm_law_can_step.specs.Ready.{TextsAreReferences}
use Rattle.fm_law_linked.proofs.Constants.{text_constants}
use Rattle.fm_law_linked.proofs.FewStarts.{few_starts, main_there}
use Rattle.fm_law_linked.proofs.FewTexts.{few_texts}
use Rattle.fm_law_linked.proofs.law_can_run.Goals as goal
use Rattle.fm_world.specs.Numbers.{type_of_class}
use Rattle.fm_world.specs.Programs.{outline_of, program_of}

text_fields : (given : List ClassDef) (main : List ℕ) → AllByRecursion HasSpelling given → TextsAreReferences (outline_of given main)
unfolding outline_of
text_fields given main spelled field text is = (type_of_class 1, text_constants given spelled field text is)

pub returns : goal.returns
unfolding program_of
returns c given main spelled supported none few = record {
  steps = c.law_sound_steps.ensures given main spelled supported none few;
  makes = c.law_makeable.ensures given main spelled none few;
  main = c.law_main.ensures given main spelled supported none;
  main_class = main_there given main;
  constants = text_fields given main spelled;
  few_texts = few_texts given main spelled few;
  few_starts = few_starts given main spelled few;
}
