use Rattle.fm_types.proofs.Example.{joined_related, joined_level, joined_interfaces, joined_same_interface, joined_unlike, joined_deep, joined_null, joined_kinds}
use Rattle.fm_types.proofs.laws.law_join_examples.Goals as goal

pub returns-clause-related : goal.returns-clause-related
returns-clause-related c = joined_related

pub returns-clause-level : goal.returns-clause-level
returns-clause-level c = joined_level

pub returns-clause-interfaces : goal.returns-clause-interfaces
returns-clause-interfaces c = joined_interfaces

pub returns-clause-same_interface : goal.returns-clause-same_interface
returns-clause-same_interface c = joined_same_interface

pub returns-clause-unlike : goal.returns-clause-unlike
returns-clause-unlike c = joined_unlike

pub returns-clause-deep : goal.returns-clause-deep
returns-clause-deep c = joined_deep

pub returns-clause-null : goal.returns-clause-null
returns-clause-null c = joined_null

pub returns-clause-kinds : goal.returns-clause-kinds
returns-clause-kinds c = joined_kinds
