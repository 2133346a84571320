use Rattle.fm_law_linked.proofs.law_makeable.Goals as goal
use Rattle.fm_law_linked.specs.Laws.{StepsAreLinked}
use Rattle.fm_law_linked.specs.Makes.{MakesAreLinked}
use Rattle.fm_same.specs.Resolved.{IsResolved}
use Rattle.fm_law_sound.specs.Making.{MakesAreResolved}
use Rattle.fm_world.specs.Programs.{Program, program_of}

-- the clauses of the three laws together
makes_resolved : (p : Program) → IsResolved p → StepsAreLinked p → MakesAreLinked p → MakesAreResolved p
makes_resolved p its steps makes = record {
  makeable = record {
    runnable = its.runnable;
    tree = its.tree;
    class_types = its.class_types;
    elements = makes.elements;
    texts = makes.texts;
    arguments = makes.arguments;
  };
  names = makes.names;
  constants = steps.constants;
  made = makes.made;
}

pub returns : goal.returns
returns c given main spelled none few =
    makes_resolved (program_of given main) (c.law_resolved.ensures given main spelled none few) (c.law_steps.ensures given main spelled none)
    (c.law_makes.ensures given main spelled none)
