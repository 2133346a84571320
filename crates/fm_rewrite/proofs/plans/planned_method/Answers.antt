use Rattle.std.proofs.Common.{◌∙◌, sym, ap}
use Rattle.fm_summ_shapes.proofs.ShapesLemmas.{no_code}
use Rattle.fm_conn.proofs.CodedLemmas.{coded_at}
use Rattle.fm_rewrite.proofs.MethodsLemmas.{planned_with_code, planned_without_code}
use Rattle.fm_world.specs.declared.records.MethodInfo.{MethodInfo}
use Rattle.fm_rewrite.proofs.plans.planned_method.Goals as goal

pub planned_code-requires-clause-code : goal.planned_code-requires-clause-code
planned_code-requires-clause-code c =
    coded_at c.args.program.now c.args.method.0 c.in-Coded.code (ap (λ (m : MethodInfo). m.body) (sym c.method.ensures) ∙ c.in-Coded.is)

pub returns-in-Coded : goal.returns-in-Coded
returns-in-Coded c =
    let code_is = coded_at c.args.program.now c.args.method.0 c.in-Coded.code (ap (λ (m : MethodInfo). m.body) (sym c.method.ensures) ∙ c.in-Coded.is) in
    planned_with_code c.args.program.now c.args.summaries.now c.args.chains c.args.method.0 c.in-Coded.code code_is c.planned_code.result c.planned_code.ensures

pub returns-in_default : goal.returns-in_default
returns-in_default c =
    planned_without_code c.args.program.now c.args.summaries.now c.args.chains c.args.method.0
    (no_code c.args.program.now c.args.method.0 c.method.result.now.body c.requires.analysable (ap (λ (m : MethodInfo). m.body) c.method.ensures)
    c.in_default.not-Coded)
