use Rattle.fm_world.proofs.Example.{castable_are, not_castable_are}
use Rattle.fm_world.proofs.laws.law_cast_examples.Goals as goal

pub returns-clause-castable : goal.returns-clause-castable
returns-clause-castable c = castable_are

pub returns-clause-not_castable : goal.returns-clause-not_castable
returns-clause-not_castable c = not_castable_are
