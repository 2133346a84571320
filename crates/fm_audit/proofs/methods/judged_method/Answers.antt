use Rattle.std.proofs.Common.{◌∙◌, sym, ap}
use Rattle.fm_conn.proofs.CodedLemmas.{coded_at}
use Rattle.fm_summ_shapes.proofs.ShapesLemmas.{no_code}
use Rattle.fm_audit.specs.declared.parts.Part.TheVariants as part
use Rattle.fm_audit.proofs.MethodsLemmas.{safe_with_code, safe_without_code, stays_with_code, stays_without_code}
use Rattle.fm_world.specs.declared.records.MethodInfo.{MethodInfo}
use Rattle.fm_audit.proofs.methods.judged_method.Goals as goal

pub judged_code-requires-clause-code : goal.judged_code-requires-clause-code
judged_code-requires-clause-code c =
    coded_at c.args.program.now c.args.method.0 c.in-Coded.code (ap (λ (m : MethodInfo). m.body) (sym c.method.ensures) ∙ c.in-Coded.is)

pub returns-in-Coded-clause-safe : goal.returns-in-Coded-clause-safe
returns-in-Coded-clause-safe c =
    let code_is = coded_at c.args.program.now c.args.method.0 c.in-Coded.code (ap (λ (m : MethodInfo). m.body) (sym c.method.ensures) ∙ c.in-Coded.is) in
    safe_with_code c.args.program.now c.args.summaries.now c.args.method.0 c.in-Coded.code c.args.free c.args.new.now code_is c.judged_code.result c.judged_code.ensures.safe

pub returns-in-Coded-clause-still : goal.returns-in-Coded-clause-still
returns-in-Coded-clause-still c =
    let code_is = coded_at c.args.program.now c.args.method.0 c.in-Coded.code (ap (λ (m : MethodInfo). m.body) (sym c.method.ensures) ∙ c.in-Coded.is) in
    stays_with_code c.args.program.now c.args.method.0 c.in-Coded.code c.args.new.now code_is c.judged_code.result c.judged_code.ensures.still

pub returns-in_default-clause-safe : goal.returns-in_default-clause-safe
returns-in_default-clause-safe c =
    safe_without_code c.args.program.now c.args.summaries.now c.args.method.0 c.args.free c.args.new.now part.Holders
    (no_code c.args.program.now c.args.method.0 c.method.result.now.body c.requires.analysable (ap (λ (m : MethodInfo). m.body) c.method.ensures)
    c.in_default.not-Coded)

pub returns-in_default-clause-still : goal.returns-in_default-clause-still
returns-in_default-clause-still c =
    stays_without_code c.args.program.now c.args.method.0 c.args.new.now
    (no_code c.args.program.now c.args.method.0 c.method.result.now.body c.requires.analysable (ap (λ (m : MethodInfo). m.body) c.method.ensures)
    c.in_default.not-Coded)
