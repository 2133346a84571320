use Rattle.fm_law_chains.proofs.ChainedFree.{chained_free_all, programs_collect}
use Rattle.fm_law_chains.proofs.ChainedSame.{chained_do_the_same}
use Rattle.fm_law_chains.proofs.laws.law_chains.Goals as goal

pub returns-clause-same : goal.returns-clause-same
returns-clause-same c = chained_do_the_same (record {
  woven = c.law_chained_woven.ensures;
  links = c.law_links.ensures.chains;
  resolved = c.law_resolved.ensures;
  cells = c.law_cells.ensures;
  without = c.law_without_frees.ensures;
  steps_resolved = c.law_sound_steps.ensures;
  makes = c.law_makeable.ensures;
  main = c.law_main.ensures;
  can_run = c.law_can_run.ensures;
  runs = c.law_runs.ensures;
  opens = c.law_opens.ensures;
  steps = c.law_lockstep.ensures;
  costs = c.law_costs.ensures;
  renamed = c.law_renamed.ensures;
  matched = c.law_retired.ensures;
  most_held = c.law_most_held.ensures;
  ends = c.law_two_programs.ensures.same;
})

pub returns-clause-all : goal.returns-clause-all
returns-clause-all c =
    chained_free_all (record {
      woven = c.law_chained_woven.ensures;
      links = c.law_links.ensures.chains;
      resolved = c.law_resolved.ensures;
      cells = c.law_cells.ensures;
      without = c.law_without_frees.ensures;
      steps_resolved = c.law_sound_steps.ensures;
      makes = c.law_makeable.ensures;
      main = c.law_main.ensures;
      can_run = c.law_can_run.ensures;
      runs = c.law_runs.ensures;
      opens = c.law_opens.ensures;
      steps = c.law_lockstep.ensures;
      costs = c.law_costs.ensures;
      renamed = c.law_renamed.ensures;
      matched = c.law_retired.ensures;
      most_held = c.law_most_held.ensures;
      ends = c.law_two_programs.ensures.same;
    })
    (programs_collect (record {
      kept_go = c.law_kept_together.ensures;
      known_on = c.law_known.ensures.next;
      step_costs = c.law_step_costs.ensures;
      forth = record {
        ahead = record {
          stand = c.law_known.ensures.stand;
          alike = c.law_rows.ensures;
          kept = c.law_kept_steps.ensures;
          reach = c.law_reached.ensures;
          stay = c.law_within.ensures;
          new = c.law_new_results.ensures.new;
          own = c.law_new_results.ensures.own;
          step_held = c.law_held_steps.ensures;
          keeping = c.law_keeping.ensures;
          fresh = c.law_new_initialised.ensures.new;
          frees = record {
            found = c.law_frees.ensures.found;
            frees = c.law_frees.ensures.frees;
            retire = c.law_frees.ensures.retire;
            retired = c.law_frees.ensures.retired;
            fewer = c.law_new_initialised.ensures.fewer;
          };
        };
        links = c.law_chains_linked.ensures;
        empties = c.law_chains_emptied.ensures;
        nodes = c.law_sites.ensures.nodes;
        busy = c.law_sites.ensures.busy;
      };
    }))
