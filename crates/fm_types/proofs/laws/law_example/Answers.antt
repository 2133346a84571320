use Rattle.fm_types.proofs.Example.{example_typed, example_untyped}
use Rattle.fm_types.proofs.laws.law_example.Goals as goal

pub returns-clause-typed : goal.returns-clause-typed
returns-clause-typed c = example_typed

pub returns-clause-untyped : goal.returns-clause-untyped
returns-clause-untyped c = example_untyped
