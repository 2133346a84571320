use Rattle.std.proofs.Common.{◌≡◌, drop}
use Rattle.std.specs.List.{list_any}
use Rattle.fm_base.specs.declared.ids.MethodId.{MethodId}
use Rattle.fm_place.specs.inner.SiteTests.{lists_old}
use Rattle.fm_place.proofs.found_sites.any_gives_old.Given as goal

abbrev pub invariant-loop-target : goal.invariant-loop-target
invariant-loop-target l =
    list_any (λ (m : MethodId). lists_old l.summaries m.0) (drop l.target-index l.targets)
    ≡ list_any (λ (m : MethodId). lists_old l.summaries m.0) l.targets
