use Rattle.std.proofs.Common.{◌≡◌, ◌-◌}
use Rattle.fm_link_supers.specs.inner.ParentTable.{climbs}
use Rattle.fm_link_supers.proofs.chains.goes_up.Given as goal

abbrev pub invariant-loop : goal.invariant-loop
invariant-loop l = climbs (l.end - l.counter) l.parents l.next ≡ climbs l.end l.parents l.fn.class
