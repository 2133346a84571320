use Rattle.std.proofs.Common.{◌≡◌, ◌<◌, ◌≤◌, ◌∙◌, ◌+◌, ◌*◌, [], List, ℕ, IfOk, length, get_or, sum_by, Contains, ap, sym, subst, arith}
use Rattle.fm_conn.specs.declared.shapes.Shape.{Shape}
use Rattle.fm_summ.proofs.EndLemmas.{calls_each, front_inside, going_end, going_start, going_step, length_cons, targets_here, targets_inside, told_exact, waits_here}
use Rattle.fm_summ.proofs.LoopLemmas.{work_falls}
use Rattle.fm_summ.proofs.StartLemmas.{calls_in}
use Rattle.fm_summ.specs.inner.Lists.{callers_in, targets_in, targets_of}
use Rattle.fm_summ.specs.inner.State.{all_ends_sum, summaries_of}
use Rattle.fm_summ.proofs.linked.summaries.Goals as goal

pub of-requires : goal.of-requires
of-requires c = calls_in c.args.program.now c.requires.shapes.0 c.args.shapes.now c.requires.uses c.requires.shapes.1

pub loop-method-init : goal.loop-method-init
loop-method-init c =
    let calls = c.in_ok-calls.calls in
    record {
      going = going_start c.args.program.now c.args.shapes.now (targets_in calls) c.in_ok-so_far.so_far.items c.in_ok-waiting.waiting.queue.items
          c.requires.built_ins c.requires.shapes c.in_ok-calls.ensures.targets_are c.in_ok-so_far.ensures
          (λ m inside. c.in_ok-waiting.ensures.all m (omega (arith, inside, c.methods-count.ensures)));
      callers = c.in_ok-calls.ensures.callers;
      waiting = c.in_ok-waiting.ensures.kept;
      count = c.methods-count.ensures;
    }

pub pass_on-requires-clause-targets : goal.pass_on-requires-clause-targets
pass_on-requires-clause-targets c =
    let so_far = c.loop-method.invariant in
    let shapes = c.loop-method.so_far.items in
    let method = c.in-Some.method in
    let inside = front_inside _ _ _ shapes _ so_far.going method c.methods-count.result so_far.count c.in-Some.ensures.first.0 in
    let many = targets_inside _ _ _ shapes _ so_far.going in
    ap length (targets_here c.in_ok-calls.calls method (omega (arith, inside, many))) ∙ calls_each _ _ _ shapes _ so_far.going method inside

pub push_if-requires-clause-inside : goal.push_if-requires-clause-inside
push_if-requires-clause-inside c =
    let so_far = c.loop-method.invariant in
    let shapes = c.loop-method.so_far.items in
    let method = c.in-Some.method in
    let inside = front_inside _ _ _ shapes _ so_far.going method c.methods-count.result so_far.count c.in-Some.ensures.first.0 in
    let many = targets_inside _ _ _ shapes _ so_far.going in
    let each = so_far.callers.one_each in
    let here = waits_here c.in_ok-calls.calls method c.as_slice-in-Some.result.now c.as_slice-in-Some-2.result.now c.list_at-lists.result.now
    (omega (arith, inside, many, each)) c.as_slice-in-Some.ensures.value c.as_slice-in-Some-2.ensures.value c.list_at-lists.ensures in
    λ m found.
    let below = so_far.callers.inside method m (subst (λ (list : List ℕ). Contains list m) here found) in
    omega (arith, below, many, so_far.going.one_each, so_far.count)

pub loop-method-smaller : goal.loop-method-smaller
loop-method-smaller c =
    let so_far = c.loop-method.invariant in
    let shapes = c.loop-method.so_far.items in
    let callers = callers_in c.in_ok-calls.calls in
    let method = c.in-Some.method in
    let inside = front_inside _ _ _ shapes _ so_far.going method c.methods-count.result so_far.count c.in-Some.ensures.first.0 in
    let many = targets_inside _ _ _ shapes _ so_far.going in
    let each = so_far.callers.one_each in
    let here = waits_here c.in_ok-calls.calls method c.as_slice-in-Some.result.now c.as_slice-in-Some-2.result.now c.list_at-lists.result.now
    (omega (arith, inside, many, each)) c.as_slice-in-Some.ensures.value c.as_slice-in-Some-2.ensures.value c.list_at-lists.ensures in
    let queue = c.next.new.self.queue.items in
    let later = c.push_if.new.self.queue.items in
    let longer : length c.loop-method.waiting.queue.items ≡ length queue + 1 = ap length c.in-Some.ensures.first.1 ∙ length_cons method queue in
    let more : length later ≤ length queue + length (get_or callers method []) = omega (arith, c.in_ok-push_if.ensures.more, ap length here) in
    let falls = work_falls (targets_of c.in_ok-calls.calls method) shapes c.pass_on.new.so_far.items method c.in_ok-changed.changed callers (length queue)
    (length later) inside (omega (arith, inside, many, each)) c.in_ok-changed.ensures more c.in_ok-push_if.ensures.none in
    subst (λ n. all_ends_sum c.pass_on.new.so_far.items * sum_by length callers + length later < all_ends_sum shapes * sum_by length callers + n) (sym longer) falls

pub loop-method-preserved : goal.loop-method-preserved
loop-method-preserved c =
    let so_far = c.loop-method.invariant in
    let shapes = c.loop-method.so_far.items in
    let calls = c.in_ok-calls.calls in
    let method = c.in-Some.method in
    let inside = front_inside _ _ _ shapes _ so_far.going method c.methods-count.result so_far.count c.in-Some.ensures.first.0 in
    let many = targets_inside _ _ _ shapes _ so_far.going in
    let each = so_far.callers.one_each in
    let called = targets_here calls method (omega (arith, inside, many)) in
    let here = waits_here calls method c.as_slice-in-Some.result.now c.as_slice-in-Some-2.result.now c.list_at-lists.result.now
    (omega (arith, inside, many, each)) c.as_slice-in-Some.ensures.value c.as_slice-in-Some-2.ensures.value c.list_at-lists.ensures in
    record {
      going = going_step c.args.program.now c.args.shapes.now (targets_in calls) (callers_in calls) shapes c.pass_on.new.so_far.items method
          c.loop-method.waiting.queue.items c.next.new.self.queue.items c.push_if.new.self.queue.items c.in_ok-changed.changed (targets_of calls method)
          _ so_far.going c.in-Some.ensures.first.1 so_far.callers inside called here c.in_ok-changed.ensures
          c.in_ok-push_if.ensures.others c.in_ok-push_if.ensures.wait;
      callers = so_far.callers;
      waiting = c.in_ok-push_if.ensures.kept;
      count = so_far.count;
    }

pub returns : goal.returns
returns c = λ typings are.
    let shapes = c.loop-method.so_far.items in
    told_exact c.args.program.now typings shapes c.told.result
    (λ s is. going_end c.args.program.now c.args.shapes.now _ shapes c.loop-method.waiting.queue.items s c.loop-method.invariant.going c.in_default.ensures.first
    c.requires.built_ins is typings are)
    (subst (λ (list : List Shape). IfOk c.told.result (λ s. s ≡ summaries_of list)) c.as_slice-4.ensures.value c.told.ensures)
