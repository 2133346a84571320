use Rattle.fm_world.proofs.Example.{accepted, uses_are, types_are, texts_are, main_is, chain_is, size_is, slot_is, selected_is, targets_are, of_object_are, of_array_are}
use Rattle.fm_world.proofs.laws.law_example.Goals as goal

pub returns-clause-accepted : goal.returns-clause-accepted
returns-clause-accepted c = accepted

pub returns-clause-uses : goal.returns-clause-uses
returns-clause-uses c = uses_are

pub returns-clause-types : goal.returns-clause-types
returns-clause-types c = types_are

pub returns-clause-texts : goal.returns-clause-texts
returns-clause-texts c = texts_are

pub returns-clause-main : goal.returns-clause-main
returns-clause-main c = main_is

pub returns-clause-chain : goal.returns-clause-chain
returns-clause-chain c = chain_is

pub returns-clause-size : goal.returns-clause-size
returns-clause-size c = size_is

pub returns-clause-slot : goal.returns-clause-slot
returns-clause-slot c = slot_is

pub returns-clause-selected : goal.returns-clause-selected
returns-clause-selected c = selected_is

pub returns-clause-targets : goal.returns-clause-targets
returns-clause-targets c = targets_are

pub returns-clause-of_object : goal.returns-clause-of_object
returns-clause-of_object c = of_object_are

pub returns-clause-of_array : goal.returns-clause-of_array
returns-clause-of_array c = of_array_are
