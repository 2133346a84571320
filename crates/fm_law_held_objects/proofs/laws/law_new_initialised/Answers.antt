use Rattle.fm_law_held_objects.proofs.AboveKept.{fewer_are_for_none_above, steps_keep_for_none_above}
use Rattle.fm_law_held_objects.proofs.NewInitialised.{new_results_are_initialised, opening_for_none_above}
use Rattle.fm_law_held_objects.proofs.laws.law_new_initialised.Goals as goal

pub returns : goal.returns
returns c = record {
  opening = opening_for_none_above c.law_uninitialised.ensures.opening;
  steps = steps_keep_for_none_above;
  fewer = fewer_are_for_none_above;
  new = new_results_are_initialised c.law_new_results.ensures.own;
}
