use Rattle.std.proofs.Common.{ap, sym, ◌∙◌}
use Rattle.fm_exec_calls.proofs.CallSteps.{row-is, row_in}
use Rattle.fm_exec_calls.proofs.calls.row_of.Goals as goal
use Rattle.fm_world.specs.declared.records.MethodInfo.{MethodInfo}

pub returns-in-Native : goal.returns-in-Native
returns-in-Native c =
    sym (ap row_in c.in-Native.is) ∙ ap (λ (m : MethodInfo). row_in m.body) c.method.ensures ∙ row-is c.args.program.now c.args.m.0

pub returns-in-Coded : goal.returns-in-Coded
returns-in-Coded c =
    sym (ap row_in c.in-Coded.is) ∙ ap (λ (m : MethodInfo). row_in m.body) c.method.ensures ∙ row-is c.args.program.now c.args.m.0

pub returns-in-Abstract : goal.returns-in-Abstract
returns-in-Abstract c =
    sym (ap row_in c.in-Abstract.is) ∙ ap (λ (m : MethodInfo). row_in m.body) c.method.ensures ∙ row-is c.args.program.now c.args.m.0
