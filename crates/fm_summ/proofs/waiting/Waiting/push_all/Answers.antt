use Rattle.std.proofs.Common.{Contains, arith}
use Rattle.std.proofs.lemmas.List.Elements.{Contains-get_or}
use Rattle.fm_summ.proofs.WaitLemmas.{all_taken, taken_more}
use Rattle.fm_summ.proofs.waiting.Waiting.push_all.Goals as goal

pub push-requires-clause-inside : goal.push-requires-clause-inside
push-requires-clause-inside c = c.requires.inside _ (Contains-get_or c.args.methods.now c.loop-method.method-index 0 c.loop-method-test.true)

pub loop-method-preserved : goal.loop-method-preserved
loop-method-preserved c =
    let so_far = c.loop-method.invariant in
    let pushed = c.in_ok-push.ensures in
    record {
      kept = pushed.kept;
      wait = λ m found.
          taken_more c.args.methods.now c.loop-method.method-index c.loop-method-test.true (Contains c.push.new.self.queue.items)
          (λ k was. pushed.others k (so_far.wait k was)) pushed.waits m found;
      others = λ m found. pushed.others m (so_far.others m found);
      more = let one = pushed.one_more in let more = so_far.more in omega arith;
    }

pub returns-clause-wait : goal.returns-clause-wait
returns-clause-wait c = λ m found.
    c.loop-method.invariant.wait m (all_taken c.args.methods.now c.loop-method.method-index (omega (arith, c.loop-method-test.false)) m found)
