use Rattle.std.proofs.Common.{◌∙◌, sym}
use Rattle.fm_conn.proofs.StepLemmas.{any_step}
use Rattle.fm_place.specs.inner.SiteTests.{facts_in, is_parameter_in, typed_in}
use Rattle.fm_place.proofs.found_sites.any_parameter_in.Goals as goal

pub loop-k-preserved : goal.loop-k-preserved
loop-k-preserved c =
    any_step (is_parameter_in (facts_in c.args.known.now) (typed_in c.args.known.now) c.args.class c.args.locals.now) c.loop-k.k _ c.loop-k-test.true
    (sym c.if-is_parameter_in.ensures)
    ∙ c.loop-k.invariant
