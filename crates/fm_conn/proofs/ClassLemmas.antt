-- The numbers of a method's nodes are those of its classes.
use Rattle.std.proofs.Common.{◌≡◌, ◌↔◌, Bool, true, List, ap, sym, subst}
use Rattle.fm_base.specs.Graph.{AreLeastJoined}
use Rattle.fm_base.specs.Rows.{has}
use Rattle.fm_conn.proofs.ChainLemmas.{classes_same}
use Rattle.fm_conn.proofs.MethodLemmas.{all_lists, lists_nodes}
use Rattle.fm_conn.proofs.PairLemmas.{IsTabled}
use Rattle.fm_conn.proofs.WordLemmas.{node_of_word, word_of_node}
use Rattle.fm_conn.specs.Classes.{AreClassesOf}
use Rattle.fm_conn.specs.Nodes.{IsNode, Slot, TypedMethod}
use Rattle.fm_conn.specs.Pairs.{Joined}
use Rattle.fm_conn.specs.Summaries.{linked_by, AreSummariesOf}
use Rattle.fm_conn.specs.declared.class_numbers.Classes.{Classes}
use Rattle.fm_conn.specs.declared.summaries.Summaries.{Summaries}
use Rattle.fm_conn.specs.inner.NodeTables.{class_in, node_count, NodeTable, table_of, words_at}
use Rattle.fm_conn.specs.inner.PairLists.{all_pairs}

pub classes_are : (x : TypedMethod) (reached : List Bool) (summaries : Summaries) (c : Classes) → IsTabled x reached →
    AreSummariesOf x.program.outline summaries → c.nodes ≡ table_of x →
    AreLeastJoined (all_pairs x reached summaries) (node_count (table_of x)) c.least.items → AreClassesOf (linked_by summaries) x c
classes_are x reached summaries c tabled are nodes is =
    let lists = all_lists x reached summaries tabled are in
    let same = classes_same (linked_by summaries) x (all_pairs x reached summaries) (node_count (table_of x)) c.least.items lists
    (lists_nodes (linked_by summaries) x (all_pairs x reached summaries) lists) is in
    record {
      locals = ap (λ (t : NodeTable). t.locals) nodes;
      slots = λ j d. subst (λ (t : NodeTable). (has (words_at t j) d ≡ true) ↔ IsNode x (Slot j d)) (sym nodes) (node_of_word x j d, word_of_node x j d);
      same = λ a b. subst (λ (t : NodeTable). (class_in t c.least.items a ≡ class_in t c.least.items b) ↔ Joined (linked_by summaries) x a b) (sym nodes) (same a b);
    }
