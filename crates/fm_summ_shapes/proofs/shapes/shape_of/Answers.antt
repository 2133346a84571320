use Rattle.std.proofs.Common.{◌≡◌, ◌∙◌, sym, ap, subst}
use Rattle.fm_summ_shapes.specs.Analysed.{IsLeastShape}
use Rattle.fm_conn.proofs.CodedLemmas.{coded_at}
use Rattle.fm_conn.specs.declared.shapes.Shape.{Shape}
use Rattle.fm_summ.specs.Exact.{no_shape}
use Rattle.fm_world.specs.declared.records.MethodInfo.{MethodInfo}
use Rattle.fm_summ_shapes.proofs.ShapesLemmas.{no_code, shape_with_code, shape_without_code}
use Rattle.fm_summ_shapes.proofs.shapes.shape_of.Goals as goal

pub shape_of_code-requires-clause-code : goal.shape_of_code-requires-clause-code
shape_of_code-requires-clause-code c =
    coded_at c.args.program.now c.args.method.0 c.in-Coded.code (ap (λ (m : MethodInfo). m.body) (sym c.method.ensures) ∙ c.in-Coded.is)

pub returns-in-Coded : goal.returns-in-Coded
returns-in-Coded c =
    let code_is = coded_at c.args.program.now c.args.method.0 c.in-Coded.code (ap (λ (m : MethodInfo). m.body) (sym c.method.ensures) ∙ c.in-Coded.is) in
    shape_with_code c.args.program.now c.args.method.0 c.in-Coded.code code_is c.shape_of_code.result c.shape_of_code.ensures

pub returns-in_default : goal.returns-in_default
returns-in_default c =
    let none = no_code c.args.program.now c.args.method.0 c.method.result.now.body c.requires.analysable (ap (λ (m : MethodInfo). m.body) c.method.ensures)
    c.in_default.not-Coded in
    let made : Shape = record { ends = c.empty.result; calls = c.empty-in_default.result } in
    let same : made ≡ no_shape = λ k. record { ends = c.empty.ensures k; calls = c.empty-in_default.ensures k } in
    subst (IsLeastShape c.args.program.now c.args.method.0) (sym same) (shape_without_code c.args.program.now c.args.method.0 none)
