use Rattle.std.proofs.Common.{◌≡◌, ◌∙◌, Some, IfOk, ap, sym, subst}
use Rattle.std.proofs.lemmas.List.{length-map}
use Rattle.std.specs.Option.{option_map}
use Rattle.fm_base.proofs.OptionFacts.{same_value, IsSomeAnd-at_some}
use Rattle.fm_code.specs.declared.code_array.Code.{Code}
use Rattle.fm_flow.specs.Flow.{IsFlowOf}
use Rattle.fm_types.specs.Typed.{IsTypingOf}
use Rattle.fm_types.specs.Typings.{known_state, states_of}
use Rattle.fm_world.specs.Programs.{code_at}
use Rattle.fm_world.specs.declared.records.MethodInfo.{MethodInfo}
use Rattle.fm_conn.proofs.CodedLemmas.{coded_at}
use Rattle.fm_conn.proofs.MethodLemmas.{few_items}
use Rattle.fm_conn.specs.Shapes.{method_with, IsShapeOf}
use Rattle.fm_conn.proofs.own_classes.shape.Goals as goal

-- the code that was found is the method's
code_is : (c : goal.After-method-1) → code_at c.args.program.now c.args.method.0 ≡ Some c.in-Coded.code
code_is c =
    coded_at c.args.program.now c.args.method.0 c.in-Coded.code (ap (λ (m : MethodInfo). m.body) (sym c.method.ensures) ∙ c.in-Coded.is)

typed : (c : goal.After-method-1) → IsTypingOf c.args.program.now c.args.method.0 c.in-Coded.code (states_of c.args.typing.now)
typed c =
    IsSomeAnd-at_some (code_at c.args.program.now c.args.method.0)
    (λ code. IsTypingOf c.args.program.now c.args.method.0 code (states_of c.args.typing.now)) c.in-Coded.code (code_is c) c.requires.typing

flow : (c : goal.After-method-1) → IsFlowOf c.in-Coded.code c.args.flow.now
flow c =
    IsSomeAnd-at_some (code_at c.args.program.now c.args.method.0) (λ code. IsFlowOf code c.args.flow.now) c.in-Coded.code (code_is c) c.requires.flow

pub shape_of-requires-in-Coded-clause-asked : goal.shape_of-requires-in-Coded-clause-asked
shape_of-requires-in-Coded-clause-asked c = record {
  number = c.requires.method;
  uses = c.requires.uses;
  few = few_items c.in-Coded.code c.args.flow.now (flow c);
  one_each = sym (length-map c.args.typing.now.states (option_map known_state)) ∙ (typed c).one_each;
}

pub shape_of-requires-in-Coded-clause-typed : goal.shape_of-requires-in-Coded-clause-typed
shape_of-requires-in-Coded-clause-typed c = typed c

pub shape_of-requires-in-Coded-clause-flow : goal.shape_of-requires-in-Coded-clause-flow
shape_of-requires-in-Coded-clause-flow c = flow c

pub returns : goal.returns
returns c =
    λ code at.
    let found = coded_at c.args.program.now c.args.method.0 c.in-Coded.code (ap (λ (m : MethodInfo). m.body) (sym c.method.ensures) ∙ c.in-Coded.is) in
    let same = same_value (code_at c.args.program.now c.args.method.0) c.in-Coded.code code found at in
    let P : Code → Type 0 = λ v. IfOk c.shape_of.result (IsShapeOf (method_with c.args.program.now c.args.method.0 v (states_of c.args.typing.now))) in
    subst P same c.shape_of.ensures
