use Rattle.std.proofs.Common.{◌≡◌, ◌<◌, ◌≤◌, length, get_or, set, arith, ap, sym, ◌∙◌, length-set}
use Rattle.std.proofs.lemmas.List.{get_or_read, get_or-set_same}
use Rattle.fm_base.proofs.GraphLemmas.{Shortens_past, Shortens_then, numbers_then}
use Rattle.fm_base.proofs.graph.root_of.Goals as goal

pub loop-at-preserved : goal.loop-at-preserved
loop-at-preserved c =
    let so_far = c.loop-at.invariant in
    let inside = so_far.inside in
    let node_below = so_far.below in
    let above = c.loop-at.above.items in
    let at = c.loop-at.at in
    let next = get_or above at 0 in
    let past = get_or above next 0 in
    let next_is : c.index-in-loop-at.result.now ≡ next = get_or_read above at c.index-in-loop-at.result.now inside c.index-in-loop-at.ensures 0 in
    let first : next ≤ at = so_far.shortens.falls at inside in
    let next_inside : next < length above = omega arith in
    let past_is : c.index-past.result.now ≡ past =
    get_or_read above c.index-in-loop-at.result.now c.index-past.result.now (omega (arith, next_is)) c.index-past.ensures 0 ∙ ap (λ k. get_or above k 0) next_is in
    let second : past ≤ next = so_far.shortens.falls next next_inside in
    let step = Shortens_past above at inside so_far.shortens.falls in
    let count : length (set above at past) ≡ length above = length-set above at past in
    rw past_is record {
      shortens = Shortens_then _ above _ so_far.shortens step;
      inside = omega arith;
      below = omega arith;
      joined = λ pairs steps.
          let now = so_far.shortens.steps pairs steps in
          numbers_then pairs c.args.node at past (so_far.joined pairs steps) (numbers_then pairs at next past (now at inside) (now next next_inside));
      same = λ number along.
          so_far.same number (step.same number along) ∙ sym (along at (omega arith)) ∙ ap number (get_or-set_same above at past 0 inside);
    }
