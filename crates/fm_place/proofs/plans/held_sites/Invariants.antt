use Rattle.std.proofs.Common.{◌≡◌, ◌++◌, drop}
use Rattle.std.specs.List.{filter_map}
use Rattle.fm_place.specs.inner.PlanRows.{held_of}
use Rattle.fm_place.proofs.plans.held_sites.Given as goal

abbrev pub invariant-loop-site : goal.invariant-loop-site
invariant-loop-site l = l.held.items ++ filter_map held_of (drop l.site-index l.sites) ≡ filter_map held_of l.sites
