use Rattle.std.proofs.Common.{◌+◌, ◌≤◌, ℕ, take, length, Contains}
use Rattle.fm_summ.specs.inner.Waits.{IsWaiting}
use Rattle.fm_summ.proofs.waiting.Waiting.push_all.Given as goal

abbrev pub invariant-loop-method : goal.invariant-loop-method
invariant-loop-method l =
    record {
      kept : IsWaiting l.count l.self;
      wait : (m : ℕ) → Contains (take l.method-index l.methods) m → Contains l.self.queue.items m;
      others : (m : ℕ) → Contains l.initial.self.queue.items m → Contains l.self.queue.items m;
      more : length l.self.queue.items ≤ length l.initial.self.queue.items + l.method-index;
    }
