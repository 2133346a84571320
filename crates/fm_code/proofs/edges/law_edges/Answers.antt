use Rattle.std.proofs.Common.{refl}
use Rattle.fm_code.proofs.EdgesLemmas.{edges_listed-from_edge, edge-from_edges_listed, example_meets_rules, handler_reached, live_by_handler, stored_over, falling_meets_rules, falls_off}
use Rattle.fm_code.proofs.edges.law_edges.Goals as goal

pub returns : goal.returns
returns c = record {
  listed = λ code j next. (edges_listed-from_edge code j next, edge-from_edges_listed code j next);
  example_meets_rules = example_meets_rules;
  example = refl;
  handler_reached = handler_reached;
  live_by_handler = live_by_handler;
  stored_over = stored_over;
  falling_meets_rules = falling_meets_rules;
  falls_off = falls_off;
}
