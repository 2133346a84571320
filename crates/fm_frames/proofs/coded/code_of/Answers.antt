use Rattle.std.proofs.Common.{sym, ap, ◌∙◌}
use Rattle.fm_world.specs.declared.records.MethodInfo.{MethodInfo}
use Rattle.fm_world.specs.inner.Tables.{code_in}
use Rattle.fm_frames.proofs.Programs.{code-is}
use Rattle.fm_frames.proofs.coded.code_of.Goals as goal

pub returns-in-Coded : goal.returns-in-Coded
returns-in-Coded c runnable =
    sym (ap code_in c.in-Coded.is) ∙ ap (λ (m : MethodInfo). code_in m.body) c.method.ensures
    ∙ code-is c.args.program.now c.args.method.0 runnable

pub returns-in-Native : goal.returns-in-Native
returns-in-Native c runnable =
    sym (ap code_in c.in-Native.is) ∙ ap (λ (m : MethodInfo). code_in m.body) c.method.ensures
    ∙ code-is c.args.program.now c.args.method.0 runnable

pub returns-in-Abstract : goal.returns-in-Abstract
returns-in-Abstract c runnable =
    sym (ap code_in c.in-Abstract.is) ∙ ap (λ (m : MethodInfo). code_in m.body) c.method.ensures
    ∙ code-is c.args.program.now c.args.method.0 runnable
