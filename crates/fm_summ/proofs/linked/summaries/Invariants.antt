use Rattle.std.proofs.Common.{◌≡◌, ◌+◌, ◌*◌, length}
use Rattle.fm_summ.specs.inner.State.{all_ends_sum, Going}
use Rattle.fm_summ.specs.inner.Waits.{IsWaiting}
use Rattle.fm_world.specs.Members.{methods_of}
use Rattle.std.specs.List.{sum_by}
use Rattle.fm_summ.specs.inner.Callers.{HasCallers}
use Rattle.fm_summ.specs.inner.Lists.{callers_in, targets_in}
use Rattle.fm_summ.proofs.linked.summaries.Given as goal

abbrev pub invariant-loop-method : goal.invariant-loop-method
invariant-loop-method l =
    record {
      going : Going l.program l.shapes (targets_in l.calls) l.so_far.items l.waiting.queue.items;
      callers : HasCallers (targets_in l.calls) (callers_in l.calls);
      waiting : IsWaiting l.count l.waiting;
      count : l.count ≡ length (methods_of l.program.outline.classes);
    }

abbrev pub decreases-loop-method : goal.decreases-loop-method
decreases-loop-method l = all_ends_sum l.so_far.items * sum_by length (callers_in l.calls) + length l.waiting.queue.items
