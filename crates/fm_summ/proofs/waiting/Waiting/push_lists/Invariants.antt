use Rattle.std.proofs.Common.{◌+◌, ◌≤◌, ℕ, take, length, Contains}
use Rattle.std.specs.List.{flat_map}
use Rattle.fm_flow.specs.inner.LiveWalks.{list_of}
use Rattle.fm_summ.specs.inner.Callers.{lists_of}
use Rattle.fm_summ.specs.inner.Waits.{IsWaiting}
use Rattle.fm_summ.proofs.waiting.Waiting.push_lists.Given as goal

abbrev pub invariant-loop-list : goal.invariant-loop-list
invariant-loop-list l =
    record {
      kept : IsWaiting l.count l.self;
      wait : (m : ℕ) → Contains (flat_map (list_of (lists_of l.methods)) (take l.list-index l.lists)) m → Contains l.self.queue.items m;
      others : (m : ℕ) → Contains l.initial.self.queue.items m → Contains l.self.queue.items m;
      more : length l.self.queue.items ≤ length l.initial.self.queue.items + length (flat_map (list_of (lists_of l.methods)) (take l.list-index l.lists));
    }
