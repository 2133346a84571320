use Rattle.std.proofs.Common.{◌≡◌, rules}
use Rattle.fm_exec.proofs.locals.increment.Goals as goal
use Rattle.fm_frames.specs.Acts.{sum_of}
use Rattle.fm_frames.specs.Effects.{LocalPlus}
use Rattle.fm_frames.specs.States.{word_at}
use Rattle.fm_frames.specs.Steps.{locals_of}

pub returns : goal.returns
returns g c =
    let told : sum_of (word_at (locals_of c.args.machine.now) c.args.place) c.args.by ≡ c.sum_of-value.result = search rules in
    c.store.ensures (LocalPlus c.args.place c.args.by) told c.args.program.now g.M.Memory.choose
