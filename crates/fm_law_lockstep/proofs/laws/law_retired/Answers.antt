use Rattle.fm_law_lockstep.proofs.MatchedRenamed.{matched_are_renamed}
use Rattle.fm_law_lockstep.proofs.laws.law_retired.Goals as goal

pub returns : goal.returns
returns c =
    matched_are_renamed (record {
      kept_go = c.law_kept_together.ensures;
      known_on = c.law_known.ensures.next;
      step_costs = c.law_step_costs.ensures;
      ahead = record {
        stand = c.law_known.ensures.stand;
        alike = c.law_rows.ensures;
        kept = c.law_kept_steps.ensures;
        reach = c.law_reached.ensures;
        stay = c.law_within.ensures;
        new = c.law_new_results.ensures.new;
        own = c.law_new_results.ensures.own;
        step_held = c.law_held_steps.ensures;
        keeping = c.law_keeping.ensures;
        fresh = c.law_new_initialised.ensures.new;
        frees = record {
          found = c.law_frees.ensures.found;
          frees = c.law_frees.ensures.frees;
          retire = c.law_frees.ensures.retire;
          retired = c.law_frees.ensures.retired;
          fewer = c.law_new_initialised.ensures.fewer;
        };
      };
      busy = c.law_sites.ensures.busy;
      costs = c.law_costs.ensures;
      steps = c.law_lockstep.ensures;
      openings = c.law_opens.ensures;
    })
