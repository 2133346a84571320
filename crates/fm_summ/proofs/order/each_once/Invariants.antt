use Rattle.std.proofs.Common.{◌≡◌, ◌<◌, ℕ, length, true}
use Rattle.fm_base.specs.Rows.{has}
use Rattle.fm_summ.specs.inner.Orders.{AreListed}
use Rattle.fm_summ.proofs.order.each_once.Given as goal

abbrev pub invariant-loop-method : goal.invariant-loop-method
invariant-loop-method l =
    record {
      long : length l.listed.items ≡ l.count;
      are : AreListed l.listed.items l.order.items;
    }

abbrev pub invariant-loop-other : goal.invariant-loop-other
invariant-loop-other l =
    record {
      long : length l.listed.items ≡ l.count;
      are : AreListed l.listed.items l.order.items;
      below : (m : ℕ) → m < l.other → has l.listed.items m ≡ true;
    }
