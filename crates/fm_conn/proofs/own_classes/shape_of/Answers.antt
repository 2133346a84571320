use Rattle.std.proofs.Common.{◌≡◌, ◌∙◌, ℕ, List, ap, sym, subst}
use Rattle.fm_base.specs.Graph.{AreLeastJoined, AreNodes}
use Rattle.fm_conn.proofs.MethodLemmas.{lists_nodes, own_lists, tabled}
use Rattle.fm_conn.proofs.ShapeLemmas.{shape_is}
use Rattle.fm_conn.specs.Shapes.{nothing_linked}
use Rattle.fm_conn.specs.inner.NodeTables.{node_count, table_of}
use Rattle.fm_conn.specs.inner.PairLists.{call_shapes, end_entries, method_in, own_pairs}
use Rattle.fm_conn.proofs.own_classes.shape_of.Goals as goal

pub components-requires : goal.components-requires
components-requires c =
    let m = c.args.method.now in
    let x = method_in m in
    let own = own_pairs x c.args.flow.now.reached in
    let lists = own_lists x c.args.flow.now.reached (tabled m c.args.flow.now c.requires.typed c.requires.flow) in
    let pairs : c.as_slice.result.now ≡ own = c.as_slice.ensures.value ∙ c.in_ok-pairs.ensures in
    let count : c.count.result ≡ node_count (table_of x) = c.count.ensures ∙ ap node_count c.in_ok-nodes.ensures in
    let P : ℕ → List (ℕ × ℕ) → Type 0 = λ n list. AreNodes n list in
    subst (λ n. P n c.as_slice.result.now) (sym count) (subst (λ list. P (node_count (table_of x)) list) (sym pairs) (lists_nodes nothing_linked x own lists))

pub returns : goal.returns
returns c =
    let m = c.args.method.now in
    let x = method_in m in
    let own = own_pairs x c.args.flow.now.reached in
    let least = c.in_ok-least.least.items in
    let pairs : c.as_slice.result.now ≡ own = c.as_slice.ensures.value ∙ c.in_ok-pairs.ensures in
    let count : c.count.result ≡ node_count (table_of x) = c.count.ensures ∙ ap node_count c.in_ok-nodes.ensures in
    let P : ℕ → List (ℕ × ℕ) → Type 0 = λ n list. AreLeastJoined list n least in
    shape_is x c.args.flow.now.reached least _ (tabled m c.args.flow.now c.requires.typed c.requires.flow) c.requires.typed
    (subst (λ n. P n own) count (subst (λ list. P c.count.result list) pairs c.in_ok-least.ensures))
    (c.new.ensures ∙ c.in_ok-ends.ensures ∙ ap (end_entries x) c.as_slice-2.ensures.value)
    (c.new-2.ensures ∙ c.in_ok-calls.ensures ∙ ap (call_shapes x) c.as_slice-3.ensures.value)
