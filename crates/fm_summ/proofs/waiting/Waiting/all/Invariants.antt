use Rattle.std.proofs.Common.{ℕ, ◌<◌, Contains}
use Rattle.fm_summ.specs.inner.Waits.{IsWaiting}
use Rattle.fm_summ.proofs.waiting.Waiting.all.Given as goal

abbrev pub invariant-loop-method : goal.invariant-loop-method
invariant-loop-method l =
    record {
      kept : IsWaiting l.count l.waiting;
      all : (m : ℕ) → m < l.method → Contains l.waiting.queue.items m;
    }
