use Rattle.std.proofs.Common.{◌≡◌, ◌++◌, ℕ, map}
use Rattle.std.specs.List.{range_with_len}
use Rattle.std.specs.Prelude.{filter}
use Rattle.fm_place.specs.inner.PlanRows.{is_freed}
use Rattle.fm_place.proofs.plans.push_each_freed.Given as goal

abbrev pub invariant-loop-holder : goal.invariant-loop-holder
invariant-loop-holder l =
    l.found.items ≡ l.initial.found.items ++ map (λ (h : ℕ). (l.item, h)) (filter (is_freed l.classes l.busy l.holding.rows.items l.item) (range_with_len 0 l.holder))
