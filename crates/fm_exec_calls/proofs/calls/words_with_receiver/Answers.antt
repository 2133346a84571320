use Rattle.std.proofs.Common.{◌+◌, ap, ◌∙◌, sum_by}
use Rattle.fm_base.specs.Kinds.{kind_words}
use Rattle.fm_exec_calls.proofs.calls.words_with_receiver.Goals as goal
use Rattle.fm_exec.proofs.ObjectSteps.{method-params}
use Rattle.fm_world.specs.declared.records.MethodInfo.{MethodInfo}

pub returns : goal.returns
returns c =
    ap (λ n. n + 1)
    (c.words_of.ensures.value
    ∙ ap (sum_by kind_words)
    (c.as_slice.ensures ∙ ap (λ (m : MethodInfo). m.params) c.method.ensures ∙ method-params c.args.program.now c.args.m.0))
