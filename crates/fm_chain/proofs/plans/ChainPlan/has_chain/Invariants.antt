use Rattle.std.proofs.Common.{◌≡◌, ◌-◌}
use Rattle.std.specs.List.{list_any, range_with_len}
use Rattle.fm_base.specs.Rows.{has}
use Rattle.fm_chain.proofs.plans.ChainPlan.has_chain.Given as goal

abbrev pub invariant-loop-holder : goal.invariant-loop-holder
invariant-loop-holder l =
    list_any (λ j. has l.self.looped j) (range_with_len l.holder (l.self.plan.holders - l.holder)) ≡ list_any (λ j. has l.self.looped j) (range_with_len 0 l.self.plan.holders)
