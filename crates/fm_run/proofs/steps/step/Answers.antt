use Rattle.std.proofs.Common.{◌-◌, ap, ◌∙◌}
use Rattle.fm_native.proofs.Prints.{error-kept}
use Rattle.fm_run.proofs.Counting.{turn-is}
use Rattle.fm_run.proofs.steps.step.Goals as goal
use Rattle.fm_run.specs.Stepping.{turn_of}

pub returns-in-Ok-clause-turn : goal.returns-in-Ok-clause-turn
returns-in-Ok-clause-turn g c =
    let y = c.advance.new.machine in
    c.turn_from.ensures ∙ ap (λ before. turn_of (y.steps - before) y) c.steps-before.ensures
    ∙ turn-is c.args.program.now c.args.machine.now y c.in-Ok.ensures.stepped

pub returns-in-Err-clause-failed : goal.returns-in-Err-clause-failed
returns-in-Err-clause-failed g c failed = c.in-Err.ensures.failed (error-kept c.in-Err.fail _ failed)
