use Rattle.fm_world.proofs.Example.{duplicate, missing_class, cycle, static_field, no_main_is}
use Rattle.fm_world.proofs.laws.law_refused_examples.Goals as goal

pub returns-clause-duplicate : goal.returns-clause-duplicate
returns-clause-duplicate c = duplicate

pub returns-clause-missing_class : goal.returns-clause-missing_class
returns-clause-missing_class c = missing_class

pub returns-clause-cycle : goal.returns-clause-cycle
returns-clause-cycle c = cycle

pub returns-clause-static_field : goal.returns-clause-static_field
returns-clause-static_field c = static_field

pub returns-clause-no_main : goal.returns-clause-no_main
returns-clause-no_main c = no_main_is
