use Rattle.std.proofs.Common.{◌≡◌}
use Rattle.std.specs.List.{flat_map, range_with_len}
use Rattle.fm_place.specs.Sites.{captured_before, site_at}
use Rattle.fm_place.specs.inner.SiteTests.{facts_in, typed_in}
use Rattle.fm_place.proofs.found_sites.sites_of.Given as goal

abbrev pub invariant-loop-item : goal.invariant-loop-item
invariant-loop-item l =
    (l.found.items ≡ flat_map (site_at (facts_in l.known) (typed_in l.known)) (range_with_len 0 l.item))
    × (l.captured ≡ captured_before (facts_in l.known) (typed_in l.known) l.item)
