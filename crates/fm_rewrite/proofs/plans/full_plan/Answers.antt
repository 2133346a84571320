use Rattle.std.proofs.Common.{◌≤◌, length, sym, ◌∙◌, subst}
use Rattle.fm_base.specs.declared.limits.TheConstants.{MAX_LOCAL_WORDS}
use Rattle.fm_conn.specs.Shapes.{method_with}
use Rattle.fm_place.proofs.HolderLemmas.{holders_few}
use Rattle.fm_place.specs.FactsBy.{facts_by}
use Rattle.fm_place.specs.PlansBy.{holders_in}
use Rattle.fm_rewrite.proofs.PlansLemmas.{full_plan_is}
use Rattle.fm_types.specs.Typings.{states_of}
use Rattle.fm_rewrite.proofs.plans.full_plan.Goals as goal

pub live-requires : goal.live-requires
live-requires c = c.requires.flow.spelled

pub places-requires-clause-few : goal.places-requires-clause-few
places-requires-clause-few c =
    let found = c.as_slice.ensures.value ∙ c.in_ok-sites.ensures c.args.code.now c.requires.code in
    subst (λ sites. length (holders_in sites) ≤ MAX_LOCAL_WORDS) (sym found)
    (holders_few (facts_by c.in_ok-classes.classes c.args.summaries.now)
    (method_with c.args.program.now c.args.method.0 c.args.code.now (states_of c.args.typed.now.typing)))

pub returns : goal.returns
returns c =
    full_plan_is c.args.program.now c.args.summaries.now c.args.method.0 c.args.code.now (states_of c.args.typed.now.typing) c.in_ok-rows.rows
    c.in_ok-classes.classes c.requires.typing c.in_ok-rows.ensures (c.in_ok-classes.ensures c.args.code.now c.requires.code)
    c.as_slice.result.now (c.as_slice.ensures.value ∙ c.in_ok-sites.ensures c.args.code.now c.requires.code) c.places.result
    (λ facts told are. c.places.ensures c.args.code.now facts c.requires.code told are)
