use Rattle.std.proofs.Common.{◌≡◌, ◌++◌, drop}
use Rattle.std.specs.List.{filter_map}
use Rattle.fm_place.specs.inner.PlanRows.{pair_of}
use Rattle.fm_place.proofs.plans.after_sites.Given as goal

abbrev pub invariant-loop-site : goal.invariant-loop-site
invariant-loop-site l = l.after.items ++ filter_map pair_of (drop l.site-index l.sites) ≡ filter_map pair_of l.sites
