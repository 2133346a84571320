use Rattle.fm_base.proofs.OptionFacts.{IsSomeAnd-from_some}
use Rattle.fm_flow.specs.Flow.{IsFlowOf}
use Rattle.fm_types.specs.Typings.{states_of}
use Rattle.fm_world.specs.Programs.{code_at}
use Rattle.fm_summ_shapes.proofs.ShapesLemmas.{code_facts, is_coded, least_shape}
use Rattle.fm_summ_shapes.proofs.shapes.shape_of_code.Goals as goal

pub shape-requires-clause-method : goal.shape-requires-clause-method
shape-requires-clause-method c = (code_facts c.args.program.now c.args.method.0 c.args.code.now c.requires.analysable c.requires.code).0.inside

pub shape-requires-clause-coded : goal.shape-requires-clause-coded
shape-requires-clause-coded c = is_coded c.args.program.now c.args.method.0 c.args.code.now c.requires.analysable c.requires.code

pub shape-requires-clause-typing : goal.shape-requires-clause-typing
shape-requires-clause-typing c = c.in_ok-typed.ensures.typing.typing

pub shape-requires-clause-flow : goal.shape-requires-clause-flow
shape-requires-clause-flow c =
    IsSomeAnd-from_some (code_at c.args.program.now c.args.method.0) (λ code. IsFlowOf code c.in_ok-typed.typed.flow) c.args.code.now c.requires.code
    c.in_ok-typed.ensures.flow

pub returns : goal.returns
returns c =
    least_shape c.args.program.now c.args.method.0 c.args.code.now (states_of c.in_ok-typed.typed.typing) c.in_ok-typed.ensures.typing c.shape.result
    (c.shape.ensures c.args.code.now c.requires.code)
