use Rattle.std.proofs.Common.{◌≡◌, ◌∙◌, ◌++◌, ℕ, List, length, ap, sym, subst}
use Rattle.std.specs.List.{flat_map, range_with_len}
use Rattle.fm_base.specs.Graph.{AreLeastJoined, AreNodes}
use Rattle.fm_conn.proofs.ClassLemmas.{classes_are}
use Rattle.fm_conn.proofs.MethodLemmas.{all_lists, lists_nodes, tabled}
use Rattle.fm_conn.specs.Summaries.{linked_by}
use Rattle.fm_conn.specs.inner.NodeTables.{node_count, table_of}
use Rattle.fm_conn.specs.inner.PairLists.{all_pairs, call_pairs_at, method_in}
use Rattle.fm_conn.proofs.joined_nodes.classes_of.Goals as goal

pub components-requires : goal.components-requires
components-requires c =
    let m = c.args.method.now in
    let x = method_in m in
    let s = c.args.summaries.now in
    let all = all_pairs x c.args.flow.now.reached s in
    let lists = all_lists x c.args.flow.now.reached s (tabled m c.args.flow.now c.requires.typed c.requires.flow) c.requires.summaries in
    let calls = flat_map (call_pairs_at x s) (range_with_len 0 (length x.code.items)) in
    let pairs : c.as_slice.result.now ≡ all = c.as_slice.ensures.value ∙ c.in_ok-push_calls.ensures ∙ ap (λ own. own ++ calls) c.in_ok-pairs.ensures in
    let count : c.count.result ≡ node_count (table_of x) = c.count.ensures ∙ ap node_count c.in_ok-nodes.ensures in
    let P : ℕ → List (ℕ × ℕ) → Type 0 = λ n list. AreNodes n list in
    subst (λ n. P n c.as_slice.result.now) (sym count) (subst (λ list. P (node_count (table_of x)) list) (sym pairs) (lists_nodes (linked_by s) x all lists))

pub returns : goal.returns
returns c =
    let m = c.args.method.now in
    let x = method_in m in
    let s = c.args.summaries.now in
    let all = all_pairs x c.args.flow.now.reached s in
    let calls = flat_map (call_pairs_at x s) (range_with_len 0 (length x.code.items)) in
    let pairs : c.as_slice.result.now ≡ all = c.as_slice.ensures.value ∙ c.in_ok-push_calls.ensures ∙ ap (λ own. own ++ calls) c.in_ok-pairs.ensures in
    let count : c.count.result ≡ node_count (table_of x) = c.count.ensures ∙ ap node_count c.in_ok-nodes.ensures in
    let P : ℕ → List (ℕ × ℕ) → Type 0 = λ n list. AreLeastJoined list n c.in_ok-least.least.items in
    classes_are x c.args.flow.now.reached s _ (tabled m c.args.flow.now c.requires.typed c.requires.flow) c.requires.summaries c.in_ok-nodes.ensures
    (subst (λ n. P n all) count (subst (λ list. P c.count.result list) pairs c.in_ok-least.ensures))
