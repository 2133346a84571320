use Rattle.std.proofs.Common.{◌≡◌, ◌+◌, ◌∙◌, ap, arith}
use Rattle.fm_place_weave.proofs.AnchorLemmas.{anchors_step, number_step, step_fits}
use Rattle.fm_place_weave.specs.ByPlan.{count_by, count_here, number_after, taken_count}
use Rattle.fm_place_weave.proofs.anchors.anchors_after.Goals as goal

pub taken_count-requires-clause-flags : goal.taken_count-requires-clause-flags
taken_count-requires-clause-flags c = c.here.ensures.flags c.args.looped.now c.loop-index.invariant.flags

pub taken_count-requires-clause-fits : goal.taken_count-requires-clause-fits
taken_count-requires-clause-fits c =
    let fits = step_fits c.args.looped.now c.args.items.now c.loop-index.index c.loop-index.number c.loop-index.index
    (number_after c.args.looped.now c.args.first 0 c.args.before.now c.args.after.now c.args.items.now) c.loop-index.freeing.now c.loop-index.taking.now
    c.loop-index-test.true c.loop-index.invariant.total in
    let taken = ap (taken_count c.args.looped.now) c.here.ensures.is in
    omega (arith, fits, taken, c.requires.number)

pub new_item_count-number-requires : goal.new_item_count-number-requires
new_item_count-number-requires c =
    let fits = step_fits c.args.looped.now c.args.items.now c.loop-index.index c.loop-index.number c.loop-index.index
    (number_after c.args.looped.now c.args.first 0 c.args.before.now c.args.after.now c.args.items.now) c.loop-index.freeing.now c.loop-index.taking.now
    c.loop-index-test.true c.loop-index.invariant.total in
    let freed = c.leading.ensures.count in
    let taken = c.taken_count.ensures ∙ ap (taken_count c.args.looped.now) c.here.ensures.is in
    omega (arith, fits, freed, taken, c.requires.number)

pub overflow_add-number : goal.overflow_add-number
overflow_add-number c =
    let fits = step_fits c.args.looped.now c.args.items.now c.loop-index.index c.loop-index.number c.loop-index.index
    (number_after c.args.looped.now c.args.first 0 c.args.before.now c.args.after.now c.args.items.now) c.loop-index.freeing.now c.loop-index.taking.now
    c.loop-index-test.true c.loop-index.invariant.total in
    let freed = c.leading.ensures.count in
    let taken = c.taken_count.ensures ∙ ap (taken_count c.args.looped.now) c.here.ensures.is in
    let count = c.new_item_count-number.ensures in
    omega (arith, fits, freed, taken, count, c.requires.number)

pub loop-index-preserved : goal.loop-index-preserved
loop-index-preserved c =
    let count : c.new_item_count-number.result ≡ count_here c.args.looped.now c.loop-index.index c.loop-index.freeing.now c.loop-index.taking.now =
    c.new_item_count-number.ensures ∙ (λ k. count_by (c.leading.ensures.count k) ((c.taken_count.ensures ∙ ap (taken_count c.args.looped.now) c.here.ensures.is) k)) in
    let next : c.loop-index.number + c.new_item_count-number.result ≡ c.loop-index.number + count_here c.args.looped.now c.loop-index.index c.loop-index.freeing.now c.loop-index.taking.now = λ k. c.loop-index.number + count k in
    record {
      flags = c.later-taking.ensures.flags c.args.looped.now c.loop-index.invariant.flags;
      total = number_step c.args.looped.now c.args.items.now c.loop-index.index c.loop-index.number c.loop-index.index _ (c.loop-index.number + c.new_item_count-number.result)
          c.loop-index.freeing.now c.loop-index.taking.now c.later-freeing.result.now c.later-taking.result.now c.loop-index-test.true next
          c.later-freeing.ensures.is c.later-taking.ensures.is c.loop-index.invariant.total;
      made = anchors_step c.args.looped.now c.args.items.now c.loop-index.index c.loop-index.number c.loop-index.index (c.loop-index.number + c.new_item_count-number.result)
          c.loop-index.freeing.now c.loop-index.taking.now c.later-freeing.result.now c.later-taking.result.now c.loop-index.anchors.items
          c.push.new.self.items _ c.loop-index-test.true next c.later-freeing.ensures.is c.later-taking.ensures.is
          (c.in_ok-push.ensures.items) c.loop-index.invariant.made;
    }
