use Rattle.std.proofs.Common.{◌≡◌, ◌∙◌, ◌++◌, ◌∷◌, [], true, cond, is_ok, length, ap, arith, rules}
use Rattle.fm_flow.proofs.EdgeListsLemmas.{lists_of-push}
use Rattle.fm_flow.specs.inner.EdgeLists.{lists_of}
use Rattle.fm_flow.proofs.edge_lists.EdgeLists.push.Goals as goal

pub returns-clause-pushed : goal.returns-clause-pushed
returns-clause-pushed c =
    let old = c.self.inside.items.items in
    let old_starts = c.self.inside.starts.items in
    let list = c.args.list.now in
    let items : c.extend_from_slice.new.self.items ≡ old ++ list = c.in_ok-extend_from_slice.ensures.items in
    let end : c.len.result ≡ length (old ++ list) = omega (arith, ap length items, c.len.ensures) in
    let ok : is_ok c.push.result ≡ true = search rules in
    let starts : c.push.new.self.items ≡ old_starts ++ length (old ++ list) ∷ [] =
    c.push.ensures.items ∙ (λ k. cond (ok k) (old_starts ++ end k ∷ []) old_starts) in
    (λ k. lists_of (items k) (starts k)) ∙ lists_of-push old old_starts list c.self.invariant ∙ ap (λ lists. lists ++ list ∷ []) c.self.view_is
