use Rattle.fm_law_lockstep.proofs.OpeningsTogether.{openings_together}
use Rattle.fm_law_lockstep.proofs.laws.law_opens.Goals as goal

pub returns : goal.returns
returns c =
    openings_together (record {
      sound = c.law_sound.ensures.runs;
      whole = c.law_no_fault.ensures.while_few;
      reached = c.law_narrowed_states.ensures.openings;
      numbers = c.law_calls.ensures.numbers;
      covered = c.law_calls.ensures.opening;
      colours = c.law_colours.ensures.opening;
      clean = c.law_clean.ensures;
      made = c.law_uninitialised.ensures.opening;
      for_none_above = c.law_new_initialised.ensures.opening;
      opened = c.law_opened.ensures;
      reach = c.law_reached.ensures;
    })
