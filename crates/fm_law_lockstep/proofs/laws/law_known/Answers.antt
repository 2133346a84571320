use Rattle.fm_law_lockstep.proofs.KnownSteps.{known_states_stand, steps_stay_known}
use Rattle.fm_law_lockstep.proofs.laws.law_known.Goals as goal

pub returns-clause-next : goal.returns-clause-next
returns-clause-next c =
    steps_stay_known (record {
      numbers = c.law_calls.ensures.numbers;
      stand = c.law_calls.ensures.stand;
      covered = c.law_calls.ensures.covered;
      stays = c.law_calls.ensures.stays;
      places = c.law_place_kinds.ensures;
      targets = c.law_narrowed_states.ensures.covered;
      reached = c.law_narrowed_states.ensures.steps;
      owe = c.law_effects.ensures;
      colours = c.law_colours.ensures.steps;
      whole = c.law_no_fault.ensures.steps;
      made = c.law_uninitialised.ensures.steps;
      clean = c.law_clean.ensures;
      for_none_above = c.law_new_initialised.ensures.steps;
    })

pub returns-clause-stand : goal.returns-clause-stand
returns-clause-stand c =
    known_states_stand (record {
      numbers = c.law_calls.ensures.numbers;
      stand = c.law_calls.ensures.stand;
      covered = c.law_calls.ensures.covered;
      stays = c.law_calls.ensures.stays;
      places = c.law_place_kinds.ensures;
      targets = c.law_narrowed_states.ensures.covered;
      reached = c.law_narrowed_states.ensures.steps;
      owe = c.law_effects.ensures;
      colours = c.law_colours.ensures.steps;
      whole = c.law_no_fault.ensures.steps;
      made = c.law_uninitialised.ensures.steps;
      clean = c.law_clean.ensures;
      for_none_above = c.law_new_initialised.ensures.steps;
    })
