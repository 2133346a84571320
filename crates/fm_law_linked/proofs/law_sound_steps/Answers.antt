use Rattle.fm_law_linked.proofs.ConcreteCodes.{concrete_coded, ConcreteMethodsHaveCode}
use Rattle.fm_law_linked.proofs.law_sound_steps.Goals as goal
use Rattle.fm_law_linked.specs.Laws.{StepsAreLinked}
use Rattle.fm_same.specs.Resolved.{IsResolved}
use Rattle.fm_law_sound.specs.Resolved.{StepsAreResolved}
use Rattle.fm_world.specs.Programs.{Program, program_of}

-- what is resolved, what steps ask besides, and the codes are all that is asked
resolved_steps : (p : Program) → IsResolved p → StepsAreLinked p → ConcreteMethodsHaveCode p → StepsAreResolved p
resolved_steps p well linked coded = record {
  calls = record {
    runnable = well.runnable;
    rows = well.rows;
    coded = coded;
    concrete = linked.concrete;
    constructors = linked.constructors;
    calls = well.calls;
    selected = linked.selected;
    special = linked.special;
  };
  tree = well.tree;
  fields = linked.fields;
  places = well.fields;
  targets = linked.targets;
  items = linked.items;
}

pub returns : goal.returns
returns c given main spelled supported none few =
    resolved_steps (program_of given main) (c.law_resolved.ensures given main spelled none few) (c.law_steps.ensures given main spelled none)
    (concrete_coded given main spelled supported)
