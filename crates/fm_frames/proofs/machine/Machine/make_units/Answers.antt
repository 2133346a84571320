use Rattle.std.proofs.lemmas.Result.{IfOk-weaker}
use Rattle.fm_frames.proofs.Programs.{string-is}
use Rattle.fm_frames.proofs.TextSteps.{text-pack}
use Rattle.fm_frames.proofs.machine.Machine.make_units.Goals as goal
use Rattle.fm_frames.specs.NativeRows.{text_type}

pub returns : goal.returns
returns g c =
    let p = c.args.program.now in
    let runnable = c.requires.runnable in
    IfOk-weaker c.make_kept.result _ _ (λ made makes. makes (text_type p.outline) (string-is p.outline runnable.given runnable.classes) (text-pack p runnable))
    c.make_kept.ensures
