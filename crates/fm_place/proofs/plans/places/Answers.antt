use Rattle.std.proofs.Common.{◌≡◌, ◌∙◌, ◌≤◌, IfOk, length, ap, sym, subst}
use Rattle.std.proofs.lemmas.List.{length-map}
use Rattle.fm_base.proofs.OptionFacts.{same_value, IsSomeAnd-at_some}
use Rattle.fm_base.specs.declared.limits.TheConstants.{MAX_LOCAL_WORDS}
use Rattle.fm_code.specs.declared.code_array.Code.{Code}
use Rattle.fm_conn.proofs.CodedLemmas.{coded_at}
use Rattle.fm_conn.specs.Shapes.{method_with}
use Rattle.fm_flow.specs.Flow.{IsFlowOf}
use Rattle.fm_types.specs.Typed.{IsTypingOf}
use Rattle.fm_types.specs.Typings.{states_of}
use Rattle.fm_world.specs.Programs.{code_at}
use Rattle.fm_world.specs.declared.records.MethodInfo.{MethodInfo}
use Rattle.fm_place.proofs.HolderLemmas.{pair_held, pairs_held}
use Rattle.fm_place.proofs.PlanLemmas.{plans_told}
use Rattle.fm_place.specs.Insertions.{all_insertions}
use Rattle.fm_place.specs.PlansBy.{holders_in, IsPlanOf}
use Rattle.fm_place.specs.Sites.{sites_of}
use Rattle.fm_place.proofs.plans.places.Goals as goal

pub plan_of-requires-clause-seen : goal.plan_of-requires-clause-seen
plan_of-requires-clause-seen c =
    let p = c.args.program.now in
    let m = c.args.method.0 in
    let found = coded_at p m c.in-Coded.code (ap (λ (i : MethodInfo). i.body) (sym c.method.ensures) ∙ c.in-Coded.is) in
    record {
      typed = IsSomeAnd-at_some (code_at p m) (λ code. IsTypingOf p m code (states_of c.args.typing.now)) c.in-Coded.code found c.requires.typing;
      flow_is = IsSomeAnd-at_some (code_at p m) (λ code. IsFlowOf code c.args.flow.now) c.in-Coded.code found c.requires.flow;
      live_is = c.requires.live c.in-Coded.code found;
      nodes = c.requires.classes c.in-Coded.code found;
    }

pub plan_of-requires-clause-few : goal.plan_of-requires-clause-few
plan_of-requires-clause-few c =
    subst (λ n. n ≤ MAX_LOCAL_WORDS)
    (sym (ap length (pairs_held c.args.sites.now) ∙ length-map (holders_in c.args.sites.now) pair_held)) c.requires.few

pub returns : goal.returns
returns c =
    λ code facts at told are.
    let p = c.args.program.now in
    let m = c.args.method.0 in
    let states = states_of c.args.typing.now in
    let found = coded_at p m c.in-Coded.code (ap (λ (i : MethodInfo). i.body) (sym c.method.ensures) ∙ c.in-Coded.is) in
    let same = same_value (code_at p m) c.in-Coded.code code found at in
    let P : Code → Type 0 = λ v. c.args.sites.now ≡ sites_of facts (method_with p m v states)
    → IfOk c.plan_of.result (IsPlanOf (all_insertions facts (method_with p m v states))) in
    subst P same (λ is. plans_told _ facts c.args.sites.now c.plan_of.result c.plan_of.ensures told is) are
