use Rattle.std.proofs.Common.{◌≡◌, drop}
use Rattle.std.specs.List.{list_any}
use Rattle.fm_place.specs.inner.SiteTests.{is_old_entry}
use Rattle.fm_place.proofs.found_sites.any_old.Given as goal

abbrev pub invariant-loop-entry : goal.invariant-loop-entry
invariant-loop-entry l =
    list_any (is_old_entry l.summaries l.method.0) (drop l.entry-index l.entries) ≡ list_any (is_old_entry l.summaries l.method.0) l.entries
