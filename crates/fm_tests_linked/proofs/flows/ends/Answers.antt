use Rattle.std.proofs.Common.{List, Bool, false, length, ap, arith}
use Rattle.std.proofs.lemmas.List.{length-replicate}
use Rattle.fm_tests_linked.proofs.flows.ends.Goals as goal

pub no_marks-requires : goal.no_marks-requires
no_marks-requires c = c.requires.flow.edges.within

pub mark_edges-requires : goal.mark_edges-requires
mark_edges-requires c =
    let all = c.requires.flow.edges.one_each in
    let items = c.requires.items in
    let inside = c.requires.inside in
    let bits = ap (λ (row : List Bool). length row) c.in_ok-row.ensures in
    record {
      item = omega arith;
      row = omega (arith, bits, length-replicate 12 false);
      within = c.requires.flow.edges.within;
      marked = c.in_ok-done.ensures c.in_ok-row.row;
    }
