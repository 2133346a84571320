use Rattle.std.proofs.Common.{◌∙◌, arith}
use Rattle.fm_base.proofs.OptionFacts.{IsSomeAnd-at_some}
use Rattle.fm_flow.proofs.CodeFacts.{items_counted}
use Rattle.fm_summ_shapes.proofs.ShapesLemmas.{code_facts}
use Rattle.fm_types.specs.Typed.{IsTypingOf}
use Rattle.fm_types.specs.Typings.{states_of}
use Rattle.fm_world.specs.Programs.{code_at}
use Rattle.fm_audit.proofs.SafePlanLemmas.{safe_answers}
use Rattle.fm_audit.proofs.plans.judged_code.Goals as goal

pub live-requires : goal.live-requires
live-requires c = c.in_ok-typed.ensures.flow.spelled

pub judged_in-requires-clause-seen : goal.judged_in-requires-clause-seen
judged_in-requires-clause-seen c =
    let p = c.args.program.now in
    let m = c.args.method.0 in
    let are = c.in_ok-classes.ensures c.args.code.now c.requires.code in
    record {
      typed = IsSomeAnd-at_some (code_at p m) (λ code. IsTypingOf p m code (states_of c.in_ok-typed.typed.typing)) c.args.code.now c.requires.code
          c.in_ok-typed.ensures.typing.typing;
      flow_is = c.in_ok-typed.ensures.flow;
      live_is = c.in_ok-rows.ensures;
      nodes = record { locals = are.locals; slots = are.slots };
    }

pub judged_in-requires-clause-few : goal.judged_in-requires-clause-few
judged_in-requires-clause-few c =
    let own = code_facts c.args.program.now c.args.method.0 c.args.code.now c.requires.analysable c.requires.code in
    let few = (items_counted c.args.code.now own.0.spelled).1 in
    omega (arith, few)

pub returns-clause-safe : goal.returns-clause-safe
returns-clause-safe c =
    safe_answers _ c.args.summaries.now c.as_slice.result.now c.in_ok-typed.ensures.typing c.in_ok-rows.ensures
    (c.in_ok-classes.ensures c.args.code.now c.requires.code) (c.as_slice.ensures.value ∙ c.in_ok-sites.ensures c.args.code.now c.requires.code)
    c.args.free c.args.new.now c.judged_in.result c.judged_in.ensures.safe c.judged_in.ensures.whole c.judged_in.ensures.parts
