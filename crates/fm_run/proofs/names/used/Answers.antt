use Rattle.std.proofs.Common.{ap, ◌∙◌}
use Rattle.fm_frames.proofs.Programs.{method-class}
use Rattle.fm_run.proofs.names.used.Goals as goal
use Rattle.fm_world.specs.Programs.{use_of}
use Rattle.fm_world.specs.declared.records.MethodInfo.{MethodInfo}

pub returns : goal.returns
returns c =
    let p = c.args.program.now in
    c.use_of.ensures ∙ ap (λ class. use_of p class c.args.index) (ap (λ (m : MethodInfo). m.class.0) c.method.ensures ∙ method-class p c.args.method.0)
