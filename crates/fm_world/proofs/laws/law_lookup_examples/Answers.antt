use Rattle.fm_world.proofs.Example.{added, completed, completion_accepted, constructors_are, interfaces_are, itself, not_implemented, packages_are, passed_over, refused, special}
use Rattle.fm_world.proofs.laws.law_lookup_examples.Goals as goal

pub returns-clause-interfaces : goal.returns-clause-interfaces
returns-clause-interfaces c = interfaces_are

pub returns-clause-not_implemented : goal.returns-clause-not_implemented
returns-clause-not_implemented c = not_implemented

pub returns-clause-passed_over : goal.returns-clause-passed_over
returns-clause-passed_over c = passed_over

pub returns-clause-itself : goal.returns-clause-itself
returns-clause-itself c = itself

pub returns-clause-special : goal.returns-clause-special
returns-clause-special c = special

pub returns-clause-packages : goal.returns-clause-packages
returns-clause-packages c = packages_are

pub returns-clause-completed : goal.returns-clause-completed
returns-clause-completed c = completed

pub returns-clause-added : goal.returns-clause-added
returns-clause-added c = added

pub returns-clause-constructors : goal.returns-clause-constructors
returns-clause-constructors c = constructors_are

pub returns-clause-accepted : goal.returns-clause-accepted
returns-clause-accepted c = completion_accepted

pub returns-clause-refused : goal.returns-clause-refused
returns-clause-refused c = refused
