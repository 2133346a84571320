use Rattle.std.proofs.Common.{ℕ, List}
use Rattle.std.specs.List.{AllByRecursion}
use Rattle.fm_code.specs.Spells.{HasSpelling}
use Rattle.fm_code.specs.declared.class_file.ClassDef.{ClassDef}
use Rattle.fm_world.specs.Numbers.{type_of_class}
use Rattle.fm_world.specs.Programs.{outline_of, program_of}
use Rattle.fm_law_two_memories.specs.Constants.{ConstantsFit}
use Rattle.fm_law_two_memories.specs.Hidden.{OwnHideNothing}
use Rattle.fm_same.specs.Resolved.{IsResolved}
use Rattle.fm_law_linked.proofs.Constants.{text_constants}
use Rattle.fm_law_linked.proofs.OwnClasses.{own_hide_nothing}
use Rattle.fm_law_linked.proofs.law_without_frees.Goals as goal

own_hide : (given : List ClassDef) (main : List ℕ) → OwnHideNothing (program_of given main).outline
unfolding program_of outline_of
own_hide given main = own_hide_nothing given

constants_fit : (given : List ClassDef) (main : List ℕ) → AllByRecursion HasSpelling given → IsResolved (program_of given main)
    → ConstantsFit (program_of given main).outline
unfolding program_of outline_of
constants_fit given main spelled resolved = record { numbers = resolved.constants; texts = λ field text is. (type_of_class 1, text_constants given spelled field text is) }

pub returns : goal.returns
returns c given main spelled supported none few typings typed no_free =
    let resolved = c.law_resolved.ensures given main spelled none few in
    record {
      typed = typed;
      steps = c.law_sound_steps.ensures given main spelled supported none few;
      makes = c.law_makeable.ensures given main spelled none few;
      main = c.law_main.ensures given main spelled supported none;
      no_free = no_free;
      hidden = c.law_hidden.ensures (program_of given main) resolved.runnable resolved.tree (own_hide given main);
      constants = constants_fit given main spelled resolved;
    }
