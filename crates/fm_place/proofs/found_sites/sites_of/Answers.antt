use Rattle.fm_conn.proofs.ListLemmas.{flat_range_next}
use Rattle.fm_place.specs.Sites.{site_at}
use Rattle.fm_place.specs.inner.SiteTests.{facts_in, typed_in}
use Rattle.fm_place.proofs.found_sites.sites_of.Goals as goal

pub loop-item-preserved : goal.loop-item-preserved
loop-item-preserved c = (
  flat_range_next (site_at (facts_in c.args.known.now) (typed_in c.args.known.now)) c.loop-item.item c.loop-item.found.items
      c.push_site.new.found.items c.loop-item.invariant.0 c.in_ok-captured.ensures.found,
  c.in_ok-captured.ensures.captured,
)
