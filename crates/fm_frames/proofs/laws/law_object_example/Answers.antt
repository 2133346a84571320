use Rattle.fm_frames.proofs.Example.{object_effects_are, caught_in_main}
use Rattle.fm_frames.proofs.laws.law_object_example.Goals as goal

pub returns-clause-effects : goal.returns-clause-effects
returns-clause-effects c = object_effects_are

pub returns-clause-caught : goal.returns-clause-caught
returns-clause-caught c = caught_in_main
