use Rattle.std.proofs.Common.{arith}
use Rattle.fmrun.proofs.tests.stores.run_ends_so.Goals as goal

pub run_classes-requires-clause-given : goal.run_classes-requires-clause-given
run_classes-requires-clause-given c = record { few = omega arith; texts = tt }

pub run_classes-requires-clause-within : goal.run_classes-requires-clause-within
run_classes-requires-clause-within c = record { words = omega arith; store = omega arith; steps = omega arith }
