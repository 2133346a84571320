use Rattle.std.proofs.Common.{◌≡◌, ◌++◌, ◌-◌, ℕ, List}
use Rattle.std.specs.List.{range_with_len}
use Rattle.std.specs.Option.{option_map}
use Rattle.fm_audit.specs.inner.Holders.{held_by_all}
use Rattle.fm_audit.proofs.holders.held_by_all.Given as goal

abbrev pub invariant-loop-holder : goal.invariant-loop-holder
invariant-loop-holder l =
    option_map (λ (more : List (ℕ × ℕ)). l.held.items ++ more) (held_by_all l.sites l.after (range_with_len l.holder (l.holders - l.holder)))
    ≡ held_by_all l.sites l.after (range_with_len 0 l.holders)
