use Rattle.std.proofs.Common.{rules, ◌≡◌, ◌∙◌, List, ℕ, length, map, get_or, Contains, ap, sym, subst, arith}
use Rattle.fm_base.specs.Graph.{AreLeastJoined, AreNodes}
use Rattle.fm_summ.proofs.NumberLemmas.{merges, roots_below}
use Rattle.fm_summ.specs.inner.Numbers.{named}
use Rattle.fm_summ.proofs.renumbering.Renumbering.of.Goals as goal

pub indices_of-requires-clause-there : goal.indices_of-requires-clause-there
indices_of-requires-clause-there c = λ a b found.
    subst (λ (list : List ℕ). Contains list a × Contains list b) (sym c.as_slice.ensures.value) (c.in_ok-names.ensures.named a b found)

pub named_by-requires : goal.named_by-requires
named_by-requires c = λ k inside.
    let size : c.in-Ok.count ≡ length c.in_ok-names.names.items = search rules in
    let roots = c.in_ok-roots.roots.items in
    let longs : length c.as_slice-4.result.now ≡ length roots = ap length c.as_slice-4.ensures.value in
    let names : length c.as_slice-3.result.now ≡ length c.in_ok-names.names.items = ap length c.as_slice-3.ensures.value in
    let at : get_or c.as_slice-4.result.now k 0 ≡ get_or roots k 0 = ap (λ (list : List ℕ). get_or list k 0) c.as_slice-4.ensures.value in
    let below = roots_below c.as_slice-2.result.now c.in-Ok.count roots c.in_ok-roots.ensures k (omega (arith, inside, longs)) in
    omega (arith, below, at, names, size)

pub returns-clause-merges : goal.returns-clause-merges
returns-clause-merges c =
    let size : c.in-Ok.count ≡ length c.in_ok-names.names.items = search rules in
    let names = c.in_ok-names.names.items in
    let indexed = c.in_ok-indexed.indexed.items in
    let roots = c.in_ok-roots.roots.items in
    let least : AreLeastJoined indexed (length names) roots =
    subst (λ n. AreLeastJoined indexed n roots) size
    (subst (λ list. AreLeastJoined list c.in-Ok.count roots) c.as_slice-2.ensures.value c.in_ok-roots.ensures) in
    merges c.args.pairs.now indexed names roots c.in_ok-least.least.items c.in_ok-names.ensures.rising
    (ap (λ (list : List ℕ). map (named list) indexed) (sym c.as_slice.ensures.value) ∙ c.in_ok-indexed.ensures.named)
    (subst (λ (list : List ℕ). AreNodes (length list) indexed) c.as_slice.ensures.value c.in_ok-indexed.ensures.nodes) least
    (c.in_ok-least.ensures ∙ (λ i. map (λ k. get_or (c.as_slice-3.ensures.value i) k 0) (c.as_slice-4.ensures.value i)))
