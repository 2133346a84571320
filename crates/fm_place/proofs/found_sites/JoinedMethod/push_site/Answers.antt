use Rattle.std.proofs.Common.{rules, ◌≡◌, ◌∙◌, true, false, arith}
use Rattle.std.specs.Prelude.{is_some}
use Rattle.fm_place.proofs.SiteLemmas.{captured_few, not_counted, site_counted}
use Rattle.fm_place.specs.Sites.{site_kind}
use Rattle.fm_place.specs.inner.SiteTests.{facts_in, typed_in}
use Rattle.fm_place.proofs.found_sites.JoinedMethod.push_site.Goals as goal

pub returns-then-not-is_site-clause-captured : goal.returns-then-not-is_site-clause-captured
returns-then-not-is_site-clause-captured c =
    let none : is_some (site_kind (facts_in c.args.self.now) (typed_in c.args.self.now) c.args.item) ≡ false = search rules in
    c.requires.captured ∙ not_counted (facts_in c.args.self.now) (typed_in c.args.self.now) c.args.item none

pub count_after-requires : goal.count_after-requires
count_after-requires c =
    omega (arith, c.requires.captured, captured_few (facts_in c.args.self.now) (typed_in c.args.self.now) c.args.item, c.requires.few)

pub returns-clause-captured : goal.returns-clause-captured
returns-clause-captured c =
    let some : is_some (site_kind (facts_in c.args.self.now) (typed_in c.args.self.now) c.args.item) ≡ true = search rules in
    c.count_after.ensures
    ∙ site_counted (facts_in c.args.self.now) (typed_in c.args.self.now) c.args.item c.args.captured c.in_ok-site.site some c.requires.captured
    c.in_ok-site.ensures
