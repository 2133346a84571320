use Rattle.std.proofs.Common.{◌≡◌, ◌-◌}
use Rattle.std.specs.List.{list_any, range_with_len}
use Rattle.fm_place.specs.inner.SiteTests.{facts_in, is_parameter_in, typed_in}
use Rattle.fm_place.proofs.found_sites.any_parameter_in.Given as goal

abbrev pub invariant-loop-k : goal.invariant-loop-k
invariant-loop-k l =
    list_any (is_parameter_in (facts_in l.known) (typed_in l.known) l.class l.locals) (range_with_len l.k (l.count - l.k))
    ≡ list_any (is_parameter_in (facts_in l.known) (typed_in l.known) l.class l.locals) (range_with_len 0 l.count)
