use Rattle.std.proofs.Common.{◌≤◌, ℕ, List, Contains, inl, length, subst, arith}
use Rattle.fm_code.specs.Edges.{IsNormalEdge}
use Rattle.fm_flow.proofs.ReachLemmas.{edge_from_item}
use Rattle.fm_flow.proofs.ListsByLemmas.{Listing-none, Listing-more, AreListsBy-all}
use Rattle.fm_flow.specs.inner.LiveWalks.{AddsToEach}
use Rattle.fm_flow.proofs.sources.own_sources.Goals as goal

pub add_to_each-requires : goal.add_to_each-requires
add_to_each-requires c = λ x found.
    let edge = (c.in_ok-list.ensures.members x).0 (subst (λ (list : List ℕ). Contains list x) c.as_slice.ensures.value found) in
    let inside = edge.inside in
    let count = c.loop-j.invariant.one_each in omega arith

pub loop-j-init : goal.loop-j-init
loop-j-init c =
    let code = c.args.code.now in
    rw (c.in_ok-own.ensures, c.item_count-count.ensures.count) (Listing-none (length code.items) (λ next j. IsNormalEdge code j next))

pub loop-j-preserved : goal.loop-j-preserved
loop-j-preserved c =
    let code = c.args.code.now in
    let j = c.loop-j.j in
    let list = c.in_ok-list.list.items in
    let adds = subst (λ (list : List ℕ). AddsToEach list j c.loop-j.own.items c.add_to_each.new.lists.items) c.as_slice.ensures.value c.in_ok-add_to_each.ensures in
    Listing-more (length code.items) (λ next j. IsNormalEdge code j next) c.loop-j.own.items c.add_to_each.new.lists.items list j c.loop-j.invariant
    c.in_ok-list.ensures.members adds

pub returns : goal.returns
returns c =
    let code = c.args.code.now in
    let past : length code.items ≤ c.loop-j.j = omega (arith, c.item_count-count.ensures.count) in
    AreListsBy-all (length code.items) (λ next j. IsNormalEdge code j next) c.loop-j.own.items c.loop-j.j
    (λ next j edge. let inside = edge_from_item code j next (inl edge) in omega arith) c.loop-j.invariant
