use Rattle.std.proofs.Common.{◌≡◌, ◌∙◌, ◌++◌, [], length, ap, sym, arith, append-nil}
use Rattle.std.proofs.lemmas.List.{nil_from_length}
use Rattle.std.specs.List.{flat_map, range_with_len}
use Rattle.std.specs.Slice.Iter.{iter_rest}
use Rattle.fm_conn.proofs.ListLemmas.{flat_range_next}
use Rattle.fm_conn.specs.inner.PairLists.{caught_pairs, item_pairs_at, method_in}
use Rattle.fm_conn.proofs.pairs.own_pairs.Goals as goal

pub loop-item-preserved : goal.loop-item-preserved
loop-item-preserved c =
    flat_range_next (item_pairs_at (method_in c.args.method.now)) c.loop-item.item c.loop-item.pairs.items c.push_item.new.pairs.items c.loop-item.invariant
    c.in_ok-push_item.ensures

pub returns : goal.returns
returns c =
    let x = method_in c.args.method.now in
    let reached = c.args.flow.now.reached in
    let items = c.loop-handler.pairs.items in
    let handlers = x.code.handlers in
    let none : iter_rest c.loop-handler.handler-iterator ≡ [] = nil_from_length (iter_rest c.loop-handler.handler-iterator) c.in-None.ensures.steps.0 in
    let all : c.loop-item.item ≡ length x.code.items = omega (arith, c.len-count.ensures) in
    sym (append-nil items)
    ∙ ap (λ list. items ++ flat_map (caught_pairs c.args.nodes.now reached) list) (sym none)
    ∙ c.loop-handler.invariant
    ∙ (λ k. (c.loop-item.invariant ∙ ap (λ n. flat_map (item_pairs_at x) (range_with_len 0 n)) all) k
    ++ flat_map (caught_pairs (c.requires.nodes k) reached) handlers)
