use Rattle.std.proofs.Common.{◌≡◌, ◌∙◌, ◌<◌, ◌++◌, ◌∷◌, ℕ, List, [], length, get_or, ap, subst, arith}
use Rattle.std.proofs.lemmas.List.{get_or_read, take_all}
use Rattle.std.proofs.lemmas.List.Elements.{Contains-get_or}
use Rattle.fm_flow.proofs.ListsByLemmas.{AddsToEach-none, AddsToEach-more}
use Rattle.fm_flow.specs.inner.LiveWalks.{list_of, AddsToEach}
use Rattle.fm_flow.proofs.lists.add_to_each.Goals as goal

pub index_mut-requires : goal.index_mut-requires
index_mut-requires c =
    let below = c.requires (get_or c.args.indices.now c.loop-index.index-index 0) (Contains-get_or c.args.indices.now c.loop-index.index-index 0 c.loop-index-test.true) in
    let same = c.loop-index.invariant.same_length in
    let ok = c.loop-index.lists.ok.0 in omega arith

pub loop-index-init : goal.loop-index-init
loop-index-init c = AddsToEach-none c.args.j c.args.lists.now.items

pub loop-index-preserved : goal.loop-index-preserved
loop-index-preserved c =
    let indices = c.args.indices.now in
    let i = c.loop-index.index-index in
    let at = get_or indices i 0 in
    let lists = c.loop-index.lists.items in
    let below = c.requires at (Contains-get_or indices i 0 c.loop-index-test.true) in
    let same = c.loop-index.invariant.same_length in
    let in_lists : at < length lists = omega arith in
    let is : c.index_mut.result.now ≡ list_of lists at = get_or_read lists at c.index_mut.result.now in_lists c.index_mut.ensures.value [] in
    let pushed : c.push.new.self ≡ list_of lists at ++ c.args.j ∷ [] = c.in_ok-push.ensures.pushed ∙ ap (λ list. list ++ c.args.j ∷ []) is in
    AddsToEach-more indices i c.args.j c.args.lists.now.items lists c.push.new.self c.loop-index-test.true in_lists c.loop-index.invariant pushed

pub returns : goal.returns
returns c =
    let Done : List ℕ → Type 0 = λ indices. AddsToEach indices c.args.j c.args.lists.now.items c.loop-index.lists.items in
    subst Done (take_all c.loop-index.index-index c.args.indices.now c.loop-index-test.false) c.loop-index.invariant
